-- A circuit by other variables (this project's profile): each variable v becomes f v, and each literal keeps its sign.
use Rattle.std.specs.Prelude.{◌+◌, ◌*◌, ◌%◌, ◌≤◌, ℕ, map}
use Rattle.std.specs.List.{AllByRecursion}
use Rattle.aig_circuit.specs.declared.circuit.Latch.{Latch}
use Rattle.aig_circuit.specs.declared.circuit.Gate.{Gate}
use Rattle.aig_circuit.specs.declared.circuit.Justice.{Justice}
use Rattle.aig_circuit.specs.declared.circuit.Circuit.{Circuit}
use Rattle.aig_circuit.specs.declared.circuit.TheConstants.{LARGEST}
use Rattle.aig_circuit.specs.Literal.{variable_of}
use Rattle.aig_circuit.specs.Wellformed.{literal_lists}

abbrev pub relabelled_literal : (ℕ → ℕ) → ℕ → ℕ
relabelled_literal f literal = 2 * f (variable_of literal) + literal % 2

abbrev pub relabelled_latch : (ℕ → ℕ) → Latch → Latch
relabelled_latch f l = record { var = f l.var; next = relabelled_literal f l.next; reset = l.reset }

abbrev pub relabelled_gate : (ℕ → ℕ) → Gate → Gate
relabelled_gate f g = record { var = f g.var; left = relabelled_literal f g.left; right = relabelled_literal f g.right }

abbrev pub relabelled_justice : (ℕ → ℕ) → Justice → Justice
relabelled_justice f j = record { sizes = j.sizes; literals = map (relabelled_literal f) j.literals }

-- The largest index stays as it is; where it is another one, that is said beside.
abbrev pub relabelled : (ℕ → ℕ) → Circuit → Circuit
relabelled f c = record c {
  inputs = map f c.inputs;
  latches = map (relabelled_latch f) c.latches;
  outputs = map (relabelled_literal f) c.outputs;
  bad = map (relabelled_literal f) c.bad;
  constraints = map (relabelled_literal f) c.constraints;
  justice = relabelled_justice f c.justice;
  fairness = map (relabelled_literal f) c.fairness;
  gates = map (relabelled_gate f) c.gates;
}

-- P holds of each variable that a latch or a gate names
abbrev pub LatchNames : (ℕ → Type 0) → Latch → Type 0
LatchNames P l = P l.var × P (variable_of l.next)

abbrev pub GateNames : (ℕ → Type 0) → Gate → Type 0
GateNames P g = P g.var × P (variable_of g.left) × P (variable_of g.right)

-- P holds of each variable that the circuit names, defined or used; of 0 where a constant is used. The literals are
-- those of all lists beside latches and gates.
pub record NamesOnly (P : ℕ → Type 0) (c : Circuit) : Type 0 where
  pub inputs : AllByRecursion P c.inputs
  pub latches : AllByRecursion (LatchNames P) c.latches
  pub literals : AllByRecursion (AllByRecursion (λ literal. P (variable_of literal))) (literal_lists c)
  pub gates : AllByRecursion (GateNames P) c.gates

-- no label is too large for a literal
abbrev pub FitIntoLiterals : (ℕ → ℕ) → Type 0
FitIntoLiterals label = (v : ℕ) → label v ≤ LARGEST
