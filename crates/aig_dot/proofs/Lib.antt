pub mod RootLiterals
pub mod Refusing
pub mod Putting
pub mod Drawn
pub mod LawsProved
