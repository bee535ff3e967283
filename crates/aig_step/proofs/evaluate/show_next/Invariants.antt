use Rattle.std.specs.Prelude.{◌≡◌, length, take, map}
use Rattle.aig_circuit.specs.declared.circuit.Latch.{Latch}
use Rattle.aig_meaning.specs.Meaning.{literal_value}
use Rattle.aig_step.specs.Parts.Tables.{read_from}
use Rattle.aig_step.proofs.evaluate.show_next.Given as goal

abbrev pub invariant-loop-i : goal.invariant-loop-i
invariant-loop-i l =
    (take l.i l.next ≡ map (literal_value (read_from l.values)) (map (λ (k : Latch). k.next) (take l.i l.latches)))
    × (length l.next ≡ length l.latches)
