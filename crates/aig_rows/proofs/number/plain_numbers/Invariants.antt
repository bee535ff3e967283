use Rattle.aig_rows.proofs.Canonical.{ArePlain}
use Rattle.std.proofs.Common.{◌∷◌}
use Rattle.aig_rows.proofs.number.plain_numbers.Given as goal

abbrev pub invariant-loop-at : goal.invariant-loop-at
invariant-loop-at g l = ArePlain g.row.N l.at l.numbers (l.byte ∷ l.bytes) (l.behind ∷ l.rest)
