mod Threes
mod BySection
mod Decoded
mod Values
