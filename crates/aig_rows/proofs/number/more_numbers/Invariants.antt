use Rattle.aig_rows.specs.Scanning.{more_numbers_at}
use Rattle.aig_rows.specs.Kept.{kept_numbers}
use Rattle.aig_rows.proofs.Kept.Numbers.{AreStored}
use Rattle.aig_rows.proofs.number.more_numbers.Given as goal

abbrev pub invariant-loop-at : goal.invariant-loop-at
invariant-loop-at g l =
    AreStored l.ended l.least g.row.N l.at l.numbers l.rest
    (kept_numbers (more_numbers_at l.ended l.least g.row.N l.text))
