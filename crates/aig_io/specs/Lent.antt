-- A source over bytes that are lent to it.
use Rattle.std.specs.Prelude.{◌≡◌, ◌<◌, ℕ, List, length, take}
use Rattle.std.specs.Coded.{coded_list, coded_ℕ}
use Rattle.aig_io.specs.Devices.{History, Origin, no_file}

-- a source, and how many bytes it still gives
pub record Lent : Type 0 where
  pub history : History
  pub left : ℕ

-- where a source of these bytes begins: it stands on them
abbrev pub lent : List ℕ → Origin
lent bytes = record no_file { stands_on = (coded_list coded_ℕ).code bytes }

-- it gave a beginning of the bytes that it stands on, and all of them once it answered that it is at its end
pub record HasGiven (history : History) : Type 0 where
  pub front : (bytes : List ℕ) → history.origin ≡ lent bytes → history.bytes ≡ take (length history.bytes) bytes
  pub whole : (bytes : List ℕ) → history.origin ≡ lent bytes → 0 < history.ends → history.bytes ≡ bytes
