-- Bytes cut into lines.
use Rattle.std.specs.Prelude.{◌==◌, ◌++◌, ℕ, List, [], ◌∷◌, fold, if◌then◌else◌}

-- the lines that have ended, and the beginning of the next one
pub record Cut : Type 0 where
  pub lines : List (List ℕ)
  pub begun : List ℕ

-- one more byte
abbrev pub cut_byte : Cut → ℕ → Cut
cut_byte c b =
    if b == 10 then record { lines = c.lines ++ c.begun ∷ []; begun = [] }
    else record { lines = c.lines; begun = c.begun ++ b ∷ [] }

-- more bytes
abbrev pub cut_more : Cut → List ℕ → Cut
cut_more c bytes = fold cut_byte c bytes

abbrev pub cut : List ℕ → Cut
cut bytes = cut_more (record { lines = []; begun = [] }) bytes
