-- Numbers that are right in their roles, all tests of a number at once.
use Rattle.std.specs.Prelude.{◌&&◌, ℕ, List, [], ◌∷◌, Bool, true, not}
use Rattle.aig_rows.specs.Rows.{Role}
use Rattle.aig_rows.specs.Reading.{misdefines, exceeds, misresets, oversizes}

abbrev pub is_right : ℕ → ℕ → ℕ → Role → ℕ → Bool
is_right bound own carried role n =
    not (misdefines role n)
    && (not (exceeds bound role n) && (not (misresets own role n) && not (oversizes bound carried role n)))

abbrev pub are_right : ℕ → ℕ → ℕ → List Role → List ℕ → Bool
are_right bound own carried [] ns = true
are_right bound own carried (r ∷ rs) [] = true
are_right bound own carried (r ∷ rs) (n ∷ ns) = is_right bound own carried r n && are_right bound own carried rs ns
