use Rattle.std.specs.Prelude.{◌≡◌, length, take, map}
use Rattle.aig_meaning.specs.Meaning.{literal_value}
use Rattle.aig_step.specs.Parts.Tables.{read_from}
use Rattle.aig_step.proofs.evaluate.show.Given as goal

abbrev pub invariant-loop-i : goal.invariant-loop-i
invariant-loop-i l =
    (take l.i l.shown ≡ map (literal_value (read_from l.values)) (take l.i l.literals))
    × (length l.shown ≡ length l.literals)
