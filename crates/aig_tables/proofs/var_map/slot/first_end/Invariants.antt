use Rattle.std.proofs.Common.{◌≡◌, ◌+◌, drop}
use Rattle.std.specs.List.{position_or_len}
use Rattle.aig_tables.specs.Parts.Places.{ends_search}
use Rattle.aig_tables.proofs.var_map.slot.first_end.Given as goal

abbrev pub invariant-loop-place : goal.invariant-loop-place
invariant-loop-place g l = position_or_len (ends_search l.index) l.slots
    ≡ l.place + position_or_len (ends_search l.index) (drop l.place l.slots)
