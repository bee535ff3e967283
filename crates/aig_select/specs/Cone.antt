-- A circuit with the cone of what it shows, over all steps.
use Rattle.std.specs.Prelude.{◌↔◌, ℕ, List, Bool, IsTrue, filter, map}
use Rattle.std.specs.List.{concat}
use Rattle.aig_circuit.specs.declared.circuit.Latch.{Latch}
use Rattle.aig_circuit.specs.declared.circuit.Gate.{Gate}
use Rattle.aig_circuit.specs.declared.circuit.Circuit.{Circuit}
use Rattle.aig_circuit.specs.Literal.{variable_of}
use Rattle.aig_circuit.specs.Wellformed.{literal_lists}
use Rattle.aig_cone.specs.Cone.{IsInCone}
use Rattle.aig_cone.specs.declared.search.Reach.TheVariants.{AllSteps}

-- the variables of all that the circuit shows: outputs, bad states, constraints, justice and fairness
abbrev pub shown_variables : Circuit → List ℕ
shown_variables c = map variable_of (concat (literal_lists c))

-- these variables are the cone of those
abbrev pub IsCone : Circuit → List ℕ → (ℕ → Bool) → Type 0
IsCone c roots keeps = (v : ℕ) → IsTrue (keeps v) ↔ IsInCone AllSteps c roots v

-- the circuit with the inputs, latches and gates of these variables, in their order
abbrev pub with_only : (ℕ → Bool) → Circuit → Circuit
with_only keeps c = record c {
  inputs = filter keeps c.inputs;
  latches = filter (λ (l : Latch). keeps l.var) c.latches;
  gates = filter (λ (g : Gate). keeps g.var) c.gates;
}
