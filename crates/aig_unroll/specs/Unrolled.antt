-- The unrolled circuit (this project's profile): copies of a circuit in time, one for each frame, as one circuit
-- without latches. What stands above `IsUnrolled` is of a circuit in binary order.
use Rattle.std.specs.Prelude.{◌≡◌, ◌+◌, ◌-◌, ◌*◌, ◌%◌, ◌==◌, ◌⊎◌, ◌<◌, ℕ, zero, suc, List, [], ◌∷◌, ◌++◌, None}
use Rattle.std.specs.Prelude.{length, map, max, min, nat_le, slice_index_or, if◌then◌else◌}
use Rattle.std.specs.List.{flat_map, range_with_len}
use Rattle.aig_circuit.specs.declared.circuit.Latch.{Latch}
use Rattle.aig_circuit.specs.declared.circuit.Gate.{Gate}
use Rattle.aig_circuit.specs.declared.circuit.Circuit.{Circuit}
use Rattle.aig_circuit.specs.declared.circuit.Reset.{Reset}
use Rattle.aig_circuit.specs.declared.circuit.Reset.TheVariants as resets
use Rattle.aig_circuit.specs.declared.circuit.TheConstants.{LARGEST}
use Rattle.aig_circuit.specs.Literal.{literal_of, negation_of, variable_of}
use Rattle.aig_image.specs.Image.{IsBinaryImage}

abbrev pub resets_of : Circuit → List Reset
resets_of c = map (λ (l : Latch). l.reset) c.latches

abbrev pub next_of : Circuit → List ℕ
next_of c = map (λ (l : Latch). l.next) c.latches

-- how many latches are uninitialised
abbrev pub uninitialised : List Reset → ℕ
uninitialised [] = 0
uninitialised (resets.Zero ∷ rs) = uninitialised rs
uninitialised (resets.One ∷ rs) = uninitialised rs
uninitialised (resets.Uninit ∷ rs) = 1 + uninitialised rs

-- The literals of latches in frame 0: each starts at its reset, and an uninitialised one at an input of its own, which
-- are the variables from this one on.
abbrev pub first_latches : ℕ → List Reset → List ℕ
first_latches v [] = []
first_latches v (resets.Zero ∷ rs) = 0 ∷ first_latches v rs
first_latches v (resets.One ∷ rs) = 1 ∷ first_latches v rs
first_latches v (resets.Uninit ∷ rs) = literal_of v ∷ first_latches (v + 1) rs

-- how many inputs there are: one for each uninitialised latch, then those of each frame
abbrev pub all_inputs : Circuit → ℕ → ℕ
all_inputs c frames = uninitialised (resets_of c) + frames * length c.inputs

-- how many gates a frame has: those of the circuit, then one for each constraint, then one for each bad state
abbrev pub frame_size : Circuit → ℕ
frame_size c = length c.gates + length c.constraints + length c.bad

-- the first variables of a frame: of its inputs, of the circuit's gates, of the constraints' gates, of the bad states'
abbrev pub first_input : Circuit → ℕ → ℕ
first_input c t = 1 + all_inputs c t

abbrev pub first_gate : Circuit → ℕ → ℕ → ℕ
first_gate c frames t = 1 + all_inputs c frames + t * frame_size c

abbrev pub first_constraint : Circuit → ℕ → ℕ → ℕ
first_constraint c frames t = first_gate c frames t + length c.gates

abbrev pub first_bad : Circuit → ℕ → ℕ → ℕ
first_bad c frames t = first_constraint c frames t + length c.constraints

-- The literal that stands for a variable in frame t, where these stand for the latches: the constant stays, an input
-- and a gate have a variable of their own in each frame.
abbrev pub substitute_for : Circuit → ℕ → ℕ → List ℕ → ℕ → ℕ
substitute_for c frames t latches v =
    if v == 0 then 0
    else if nat_le v (length c.inputs) then literal_of (first_input c t + (v - 1))
    else if nat_le v (length c.inputs + length c.latches) then slice_index_or latches (v - 1 - length c.inputs) 0
    else literal_of (first_gate c frames t + (v - 1 - length c.inputs - length c.latches))

-- the same for a literal, whose sign carries over
abbrev pub literal_in : Circuit → ℕ → ℕ → List ℕ → ℕ → ℕ
literal_in c frames t latches literal =
    if literal % 2 == 0 then substitute_for c frames t latches (variable_of literal)
    else negation_of (substitute_for c frames t latches (variable_of literal))

-- the literals of latches in frame t: after frame 0 those of their next literals in the frame before
abbrev pub latches_at : Circuit → ℕ → ℕ → List ℕ
latches_at c frames zero = first_latches 1 (resets_of c)
latches_at c frames (suc t) = map (literal_in c frames t (latches_at c frames t)) (next_of c)

-- what a literal is in frame t
abbrev pub at : Circuit → ℕ → ℕ → ℕ → ℕ
at c frames t literal = literal_in c frames t (latches_at c frames t) literal

-- a gate with these operands, the larger one first
abbrev pub gate_of : ℕ → ℕ → ℕ → Gate
gate_of v a b = record { var = v; left = max a b; right = min a b }

-- the gates by other operands, their variables from this one on
abbrev pub copied : (ℕ → ℕ) → ℕ → List Gate → List Gate
copied f v [] = []
copied f v (g ∷ gs) = gate_of v (f g.left) (f g.right) ∷ copied f (v + 1) gs

-- The chain of constraints: each has a gate of the chain so far and of its literal, and that gate is the chain then.
abbrev pub chained : ℕ → ℕ → List ℕ → List Gate
chained v chain [] = []
chained v chain (x ∷ xs) = gate_of v chain x ∷ chained (v + 1) (literal_of v) xs

-- the chain after these constraints
abbrev pub chain_behind : ℕ → ℕ → List ℕ → ℕ
chain_behind v chain [] = chain
chain_behind v chain (x ∷ xs) = chain_behind (v + 1) (literal_of v) xs

-- the chain before frame t: it begins at 1 and goes on from frame to frame
abbrev pub chain_at : Circuit → ℕ → ℕ → ℕ
chain_at c frames zero = 1
chain_at c frames (suc t) = chain_behind (first_constraint c frames t) (chain_at c frames t) c.constraints

-- each bad state has a gate of the chain and of its literal
abbrev pub guarded : ℕ → ℕ → List ℕ → List Gate
guarded v chain [] = []
guarded v chain (x ∷ xs) = gate_of v chain x ∷ guarded (v + 1) chain xs

-- the gates of frame t: the circuit's, the chain's, and those of bad states
abbrev pub gates_at : Circuit → ℕ → ℕ → List Gate
gates_at c frames t =
    copied (at c frames t) (first_gate c frames t) c.gates
    ++ (chained (first_constraint c frames t) (chain_at c frames t) (map (at c frames t) c.constraints)
    ++ guarded (first_bad c frames t) (chain_at c frames (suc t)) (map (at c frames t) c.bad))

-- the outputs of frame t
abbrev pub outputs_at : Circuit → ℕ → ℕ → List ℕ
outputs_at c frames t = map (at c frames t) c.outputs

-- the bad states of frame t, each of which is that of the circuit while all constraints have held so far
abbrev pub bad_at : Circuit → ℕ → ℕ → List ℕ
bad_at c frames t = map literal_of (range_with_len (first_bad c frames t) (length c.bad))

-- the circuit unrolled over so many frames
abbrev pub unrolled : Circuit → ℕ → Circuit
unrolled c frames = record {
  max_var = all_inputs c frames + frames * frame_size c;
  inputs = range_with_len 1 (all_inputs c frames);
  latches = [];
  outputs = flat_map (outputs_at c frames) (range_with_len 0 frames);
  bad = flat_map (bad_at c frames) (range_with_len 0 frames);
  constraints = [];
  justice = record { sizes = []; literals = [] };
  fairness = [];
  gates = flat_map (gates_at c frames) (range_with_len 0 frames);
  symbols = [];
  comment = None;
}

-- The unrolled circuit of any circuit is that of its binary image, so the gates of a frame stand in the order of
-- places.
abbrev pub IsUnrolled : Circuit → ℕ → Circuit → Type 0
IsUnrolled c frames d = (image : Circuit) × IsBinaryImage c image × (d ≡ unrolled image frames)

-- Justice properties and fairness constraints cannot be unrolled.
abbrev pub IsUnsupported : Circuit → Type 0
IsUnsupported c = (0 < length c.justice.sizes) ⊎ (0 < length c.fairness)

-- the unrolled circuit would have too many variables, outputs or bad states
abbrev pub IsTooLarge : Circuit → ℕ → Type 0
IsTooLarge c frames =
    (LARGEST < all_inputs c frames + frames * frame_size c) ⊎ (LARGEST < frames * length c.outputs)
    ⊎ (LARGEST < frames * length c.bad)
