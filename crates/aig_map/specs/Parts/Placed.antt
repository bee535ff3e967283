-- How the variables of gates are put at their places.
use Rattle.std.specs.Prelude.{◌==◌, ℕ, List, [], ◌∷◌, length, replicate}
use Rattle.std.specs.Prelude.{Option, Some, None, slice_index, slice_set, if◌then◌else◌}
use Rattle.aig_map.specs.declared.map_block.MappedGate.{MappedGate}

-- A table has variables by place, 0 where there is none yet: the table with the variables of these gates too, unless
-- one of them is put where there is one already.
abbrev pub with_gates : List ℕ → List MappedGate → Option (List ℕ)
with_gates placed [] = Some placed
with_gates placed (g ∷ gates) =
    if slice_index placed g.place == 0 then with_gates (slice_set placed g.place g.var) gates else None

-- the variables of gates by place, unless two have one place
abbrev pub table_of : List MappedGate → Option (List ℕ)
table_of gates = with_gates (replicate (length gates) 0) gates
