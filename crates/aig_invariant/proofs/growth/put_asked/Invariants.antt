use Rattle.std.specs.Prelude.{◌≡◌, ◌++◌, drop, map}
use Rattle.aig_invariant.specs.Invariant.{asked_literals}
use Rattle.aig_invariant.specs.Parts.Rows.{value_or_x}
use Rattle.aig_invariant.proofs.growth.put_asked.Given as goal

abbrev pub invariant-loop-i : goal.invariant-loop-i
invariant-loop-i l =
    l.asked.items ++ asked_literals (map value_or_x (drop l.i l.row)) (drop l.i l.literals)
    ≡ asked_literals (map value_or_x l.row) l.literals
