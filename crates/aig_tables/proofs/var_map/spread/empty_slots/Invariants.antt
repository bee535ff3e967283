use Rattle.std.proofs.Common.{◌≡◌, replicate}
use Rattle.aig_tables.proofs.var_map.spread.empty_slots.Given as goal

abbrev pub invariant-loop : goal.invariant-loop
invariant-loop g l = l.slots.items ≡ replicate l.counter l.empty
