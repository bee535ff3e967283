-- A circuit that is unrolled, in one of the frames.
use Rattle.std.specs.Prelude.{◌≡◌, ◌+◌, ◌*◌, ◌<◌, ℕ, List, [], ◌∷◌, ◌++◌, None, drop, length, map, take}
use Rattle.std.specs.List.{range_with_len}
use Rattle.aig_circuit.specs.declared.circuit.Gate.{Gate}
use Rattle.aig_circuit.specs.declared.circuit.Circuit.{Circuit}
use Rattle.aig_checked.specs.BinaryOrder.{IsInBinaryOrder}
use Rattle.aig_circuit.specs.Literal.{literal_of}
use Rattle.aig_circuit.specs.Wellformed.{IsWellFormed}
use Rattle.aig_unroll.specs.Unrolled.{IsTooLarge, chain_behind, chained, first_gate, first_input, guarded}
use Rattle.aig_unroll.specs.Unrolled.{latches_at}

-- the circuit, over how many frames it is unrolled, and the frame that it is in
pub record Frame : Type 0 where
  pub circuit : Circuit
  pub frames : ℕ
  pub frame : ℕ

-- what stands for each variable up to the last latch, in a frame whose inputs are the variables from this one on
abbrev pub table : ℕ → ℕ → List ℕ → List ℕ
table first inputs latches = 0 ∷ (map literal_of (range_with_len first inputs) ++ latches)

abbrev pub table_at : Circuit → ℕ → ℕ → List ℕ
table_at c frames t = table (first_input c t) (length c.inputs) (latches_at c frames t)

-- The circuit is in binary order and not too large, and what is kept is that of this frame.
pub record IsFrame (c : Circuit) (frames frame input gate : ℕ) (substitution next : List ℕ) : Type 0 where
  pub formed : IsWellFormed c
  pub ordered : IsInBinaryOrder c
  pub fits : ¬ IsTooLarge c frames
  pub within : frame < frames
  pub input_is : input ≡ first_input c frame
  pub gate_is : gate ≡ first_gate c frames frame
  pub substitution_is : substitution ≡ table_at c frames frame
  pub next_room : length next ≡ length c.latches

-- What was written for frame t: its items, at its place where each frame has so many. All others stay.
abbrev pub IsPutAt : {X : Type 0} → (ℕ → List X) → ℕ → ℕ → List X → List X → Type 0
IsPutAt f width t before after =
    after ≡ take (t * width) before ++ (f t ++ drop width (drop (t * width) before))

-- the circuit of these lists, all of whose variables are those of inputs and gates
abbrev pub circuit_with : List ℕ → List ℕ → List ℕ → List Gate → Circuit
circuit_with inputs outputs bad gates = record {
  max_var = length inputs + length gates;
  inputs = inputs;
  latches = [];
  outputs = outputs;
  bad = bad;
  constraints = [];
  justice = record { sizes = []; literals = [] };
  fairness = [];
  gates = gates;
  symbols = [];
  comment = None;
}

-- the gates of a frame after those of the circuit, where this stands for literals, these have the variables from this
-- one on, and this is the chain before the frame
abbrev pub behind_by : (ℕ → ℕ) → ℕ → ℕ → Circuit → List Gate
behind_by f first chain c =
    chained (first + length c.gates) chain (map f c.constraints)
    ++ guarded (first + length c.gates + length c.constraints)
    (chain_behind (first + length c.gates) chain c.constraints) (map f c.bad)
