use Rattle.std.specs.Prelude.{◌≡◌, List, length}
use Rattle.aig_circuit.specs.declared.circuit.Circuit.{Circuit}
use Rattle.aig_circuit.specs.declared.value.Val.{Val}
use Rattle.aig_circuit.specs.Wellformed.{IsWellFormed}
use Rattle.aig_meaning.specs.Meaning.{MeansTheSame, Row}
use Rattle.aig_meaning.specs.Trace.{Follow}
use Rattle.aig_replay.specs.Finding.{SaysSteps}
use Rattle.aig_replay.specs.Parts.{IsOn}
use Rattle.aig_replay.proofs.search.find_hit.Given as goal

abbrev pub invariant-loop-step : goal.invariant-loop-step
invariant-loop-step l = record {
  circuit : l.stepper.circuit ≡ l.fn.stepper.circuit;
  on : (c : Circuit) (vectors : List (List Val)) (rows : List Row) → IsWellFormed c
      → MeansTheSame c l.fn.stepper.circuit → SaysSteps (length c.inputs) l.fn.count l.fn.steps vectors
      → Follow c l.fn.stepper.state vectors rows → IsOn c l.stepper.state l.fn.count l.step l.rest rows;
}
