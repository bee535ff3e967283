pub mod Alike
pub mod OneStep
pub mod StartsAlike
pub mod Whole
