-- Variables in parts, by what is left where they are divided by the number of parts. Only private functions cite this.
use Rattle.std.specs.Prelude.{◌≡◌, ◌==◌, ◌%◌, ◌<◌, ℕ, Bool, List, [], length, slice_index_or}
use Rattle.std.specs.List.{filter}
use Rattle.aig_core.specs.declared.checks.distinct.TheConstants.{PARTS}

-- whether a variable belongs to a part
abbrev pub is_in_part : ℕ → ℕ → Bool
is_in_part k v = v % PARTS == k

-- the variables of the list, each in its part, and in their order there
pub record AreParts (parts : List (List ℕ)) (all : List ℕ) : Type 0 where
  pub many : length parts ≡ PARTS
  pub each : (k : ℕ) → k < PARTS → slice_index_or parts k [] ≡ filter (is_in_part k) all
