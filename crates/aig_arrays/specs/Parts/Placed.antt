-- Numbers put into an array.
use Rattle.std.specs.Prelude.{◌+◌, ℕ, List, [], ◌∷◌, slice_set}

-- the array with these numbers, from this place on
abbrev pub placed : ℕ → List ℕ → List ℕ → List ℕ
placed at [] array = array
placed at (x ∷ xs) array = placed (at + 1) xs (slice_set array at x)
