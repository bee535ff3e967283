use Rattle.std.proofs.Common.{◌≡◌, drop, find, nat_le}
use Rattle.aig_select.proofs.choice.find_missing.Given as goal

abbrev pub invariant-loop-position : goal.invariant-loop-position
invariant-loop-position l = find (λ position. nat_le l.count position) (drop l.position-index l.positions)
    ≡ find (λ position. nat_le l.count position) l.positions
