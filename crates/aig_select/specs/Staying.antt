-- Parts of lists, by marks.
use Rattle.std.specs.Prelude.{ℕ, suc, List, [], ◌∷◌, Bool, Option, None, Some, slice_index_or, if◌then◌else◌}

-- those of a list that are marked, in their order; behind the last mark none is
abbrev pub staying : {T : Type 0} → List Bool → List T → List T
staying [] xs = []
staying (mark ∷ marks) [] = []
staying (mark ∷ marks) (x ∷ xs) = if mark then x ∷ staying marks xs else staying marks xs

-- new places for what stays, from this one on
abbrev pub numbered : ℕ → List Bool → List (Option ℕ)
numbered next [] = []
numbered next (mark ∷ marks) = if mark then Some next ∷ numbered (suc next) marks else None ∷ numbered next marks

-- the place among those that stay of what stood at a place, if it stays
abbrev pub new_place : List Bool → ℕ → Option ℕ
new_place marks place = slice_index_or (numbered 0 marks) place None
