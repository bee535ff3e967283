-- The bytes that are kept of a line, and how many there may be.
use Rattle.std.specs.Prelude.{◌++◌, ℕ, List, take}

pub record Keeping : Type 0 where
  pub bytes : List ℕ
  pub room : ℕ

-- more bytes of a line came: as many are kept as there is room for
abbrev pub keeping_more : Keeping → List ℕ → Keeping
keeping_more k text = record k { bytes = take k.room (k.bytes ++ text) }
