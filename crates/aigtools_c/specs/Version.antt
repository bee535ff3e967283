-- The version of the library (this project's interface for C).
use Rattle.std.specs.Prelude.{◌++◌, ◌/◌, ◌%◌, ◌^◌, ℕ, List, codes, decimal}

-- a version by its number, which has a byte each for major, minor and patch
abbrev pub version_text : ℕ → List ℕ
version_text number =
    decimal (number / 2 ^ 16) ++ codes "." ++ decimal (number / 2 ^ 8 % 2 ^ 8) ++ codes "." ++ decimal (number % 2 ^ 8)
