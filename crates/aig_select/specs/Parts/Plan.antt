-- What a selection is made of.
use Rattle.std.specs.Prelude.{ℕ, List, Bool, None, map}
use Rattle.aig_circuit.specs.declared.circuit.Circuit.{Circuit}
use Rattle.aig_circuit.specs.declared.circuit.Gate.{Gate}
use Rattle.aig_select.specs.declared.choice.Choice.{Choice}
use Rattle.aig_select.specs.declared.selection.Plan.{Plan}
use Rattle.aig_select.specs.declared.shown.Shown.{Shown}
use Rattle.aig_select.specs.Chosen.{chosen_justice, fairness_for}
use Rattle.aig_select.specs.Staying.{staying}

-- what is chosen of the circuit
abbrev pub shown_by : Choice → Circuit → Shown
shown_by choice c = record {
  outputs = staying choice.outputs c.outputs;
  bad = staying choice.bad c.bad;
  justice = chosen_justice choice.justice c.justice;
  fairness = fairness_for (chosen_justice choice.justice c.justice) c.fairness;
}

abbrev pub gate_marks : (ℕ → Bool) → Circuit → List Bool
gate_marks keeps c = map (λ (g : Gate). keeps g.var) c.gates

-- the circuit that is made of the plan
abbrev pub assembled : Plan → Circuit → Circuit
assembled plan c = record c {
  inputs = staying plan.marks.inputs.items c.inputs;
  latches = staying plan.marks.latches.items c.latches;
  outputs = plan.shown.outputs;
  bad = plan.shown.bad;
  justice = plan.shown.justice;
  fairness = plan.shown.fairness;
  gates = staying plan.marks.gates.items c.gates;
  symbols = plan.symbols;
  comment = None;
}
