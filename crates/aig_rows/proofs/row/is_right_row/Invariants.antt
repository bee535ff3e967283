use Rattle.std.proofs.Common.{◌≡◌, drop, true}
use Rattle.aig_rows.specs.Parts.Right.{are_right}
use Rattle.aig_rows.proofs.row.is_right_row.Given as goal

-- where the numbers that are left are right, all are
abbrev pub invariant-loop-at : goal.invariant-loop-at
invariant-loop-at g l =
    are_right l.bound l.own l.carried (drop l.at l.form-inside.others) (drop l.at l.more) ≡ true
    → are_right l.bound l.own l.carried l.form-inside.others l.more ≡ true
