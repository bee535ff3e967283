-- Finite maps from variables.
use Rattle.std.specs.Prelude.{ℕ, suc, Option, None, Some, if◌then◌else◌}
use Rattle.std.specs.Ordering.{nat_cmp}
use Rattle.std.specs.FinMap as map
use Rattle.std.specs.FinSet as set

-- the map in which a variable has a value at least from now on: one that it had stays
abbrev pub with_new : {T : Type 0} → map.FinMap nat_cmp T → ℕ → T → map.FinMap nat_cmp T
with_new values variable value = if map.contains_key values variable then values else map.insert values variable value

-- the variables that have values
abbrev pub keys_of : {T : Type 0} → map.FinMap nat_cmp T → set.FinSet nat_cmp
keys_of values = set.from_list (map.keys values)

-- one more than a number, or 0 for none
abbrev pub link_to : Option ℕ → ℕ
link_to None = 0
link_to (Some number) = suc number
