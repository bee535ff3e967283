-- The plain miter of two circuits (the usual construction; its details are this project's profile): one circuit with
-- the inputs of the first, whose bad states say where the two are seen to differ. The second has its own latches and
-- gates by variables behind those of the first, and in the place of each of its inputs a gate that has the value of the
-- first's.
use Rattle.std.specs.Prelude.{◌+◌, ◌*◌, ◌==◌, ℕ, List, [], ◌∷◌, ◌++◌, None, length, map, if◌then◌else◌}
use Rattle.aig_circuit.specs.declared.circuit.Circuit.{Circuit}
use Rattle.aig_circuit.specs.declared.circuit.Gate.{Gate}
use Rattle.aig_circuit.specs.Literal.{literal_of, negation_of}
use Rattle.aig_image.specs.Relabelled.{relabelled}
use Rattle.aig_unroll.specs.Unrolled.{gate_of}

-- a variable of the second circuit, where so many come before: the constant stays
abbrev pub shifted : ℕ → ℕ → ℕ
shifted before v = if v == 0 then 0 else before + v

-- the second circuit by variables behind those of the first
abbrev pub moved : Circuit → Circuit → Circuit
moved a b = relabelled (shifted a.max_var) b

-- gates that give variables the values of inputs, place by place
abbrev pub tied : List ℕ → List ℕ → List Gate
tied [] variables = []
tied (i ∷ inputs) [] = []
tied (i ∷ inputs) (v ∷ variables) = record { var = v; left = literal_of i; right = 1 } ∷ tied inputs variables

-- Three gates for each pair of literals, place by place, their variables from this one on: whether both are 1, whether
-- both are 0, and whether neither is so.
abbrev pub differing : ℕ → List ℕ → List ℕ → List Gate
differing v [] ys = []
differing v (x ∷ xs) [] = []
differing v (x ∷ xs) (y ∷ ys) =
    gate_of v x y ∷ gate_of (v + 1) (negation_of x) (negation_of y)
    ∷ gate_of (v + 2) (negation_of (literal_of v)) (negation_of (literal_of (v + 1))) ∷ differing (v + 3) xs ys

-- the literals that are 1 where the two of a pair differ
abbrev pub differences : ℕ → List ℕ → List ℕ → List ℕ
differences v [] ys = []
differences v (x ∷ xs) [] = []
differences v (x ∷ xs) (y ∷ ys) = literal_of (v + 2) ∷ differences (v + 3) xs ys

-- what is compared of a circuit, place by place: its outputs, then its bad states
abbrev pub compared : Circuit → List ℕ
compared c = c.outputs ++ c.bad

-- the first variable of the gates that compare
abbrev pub first_compared : Circuit → Circuit → ℕ
first_compared a b = a.max_var + b.max_var + 1

-- Its bad states are, in this order: that two outputs, or two bad states, of the same place differ, and that a
-- constraint of the second circuit does not hold. Its constraints are those of the first.
abbrev pub plain_miter : Circuit → Circuit → Circuit
plain_miter a b = let d = moved a b in record {
  max_var = a.max_var + b.max_var + 3 * length (compared a);
  inputs = a.inputs;
  latches = a.latches ++ d.latches;
  outputs = [];
  bad = differences (first_compared a b) (compared a) (compared d) ++ map negation_of d.constraints;
  constraints = a.constraints;
  justice = record { sizes = []; literals = [] };
  fairness = [];
  gates = a.gates
      ++ (tied a.inputs d.inputs ++ (d.gates ++ differing (first_compared a b) (compared a) (compared d)));
  symbols = [];
  comment = None;
}
