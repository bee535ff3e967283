use Rattle.std.specs.Prelude.{List}
use Rattle.std.specs.List.{flat_map}
use Rattle.aig_circuit.specs.declared.value.Val.{Val}
use Rattle.aig_io.specs.Output.{Appended}
use Rattle.aig_replay.specs.Finding.{SaysSteps}
use Rattle.aig_replay.specs.Parts.{AreAppended}
use Rattle.aig_replay.specs.WitnessLines.{step_line}
use Rattle.aig_replay.proofs.writer.put_steps.Given as goal

abbrev pub invariant-loop-step : goal.invariant-loop-step
invariant-loop-step g l =
    (vectors : List (List Val)) → SaysSteps l.fn.inputs l.fn.count l.fn.steps vectors
    → (done : List (List Val)) × AreAppended l.fn.inputs l.fn.count l.step l.rest vectors done
    × Appended l.fn.output l.output (flat_map step_line done)
