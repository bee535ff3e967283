-- A frame: by its table stands what stands in the frame, and there is room for it.
use Rattle.std.proofs.Common.{◌≡◌, ◌+◌, ◌*◌, ◌%◌, ◌<◌, ◌-◌, ◌≤◌, ◌∷◌, ◌∙◌, ℕ, List, length, get_or, rules, arith, inl}
use Rattle.std.proofs.Common.{inr, zero, suc, [], map, add-one, refl, ap, ap₂, length-append}
use Rattle.std.specs.Int.Bits.{bit_and, bit_xor, xor_add_and, xor_zero_r}
use Rattle.std.specs.List.{All, AllByRecursion, range_with_len}
use Rattle.std.proofs.lemmas.Bool.{cases_lt, lt-ltb, le-leb, le-ltb, lt-leb}
use Rattle.std.proofs.lemmas.List.{get_or_default, get_or_append_left, get_or-append_right}
use Rattle.std.proofs.lemmas.Nat.{and_mask}
use Rattle.std.proofs.Math.Nat.{suc-mul}
use Rattle.std.proofs.Math.Dec.{eqb-suc-zero}
use Rattle.std.proofs.lemmas.List.Elements.{All-from_recursion}
use Rattle.std.proofs.lemmas.List.FromFn.{get_or-map-range_with_len, length-map-range_with_len}
use mathlib.Core.Path.{fun_ext}
use Rattle.aig_circuit.specs.Literal.{variable_of, literal_of}
use Rattle.aig_circuit.specs.declared.circuit.Circuit.{Circuit}
use Rattle.aig_circuit.specs.declared.circuit.Gate.{Gate}
use Rattle.aig_circuit.specs.declared.circuit.Latch.{Latch}
use Rattle.aig_circuit.specs.declared.circuit.TheConstants.{LARGEST}
use Rattle.aig_circuit.specs.Wellformed.{IsKnown, IsWellFormed, defined_variables}
use Rattle.aig_circuit.proofs.Checking.{all_weaker, known_in_range}
use Rattle.aig_checked.specs.BinaryOrder.{AreOrderedGates, IsInBinaryOrder}
use Rattle.aig_meaning.proofs.Related.{AreDefined, known_next, known_outputs, known_bad, known_constraints}
use Rattle.aig_unroll.specs.Parts.Substitution.{substituted, with_sign, GateHasRoom, FitsLiteral}
use Rattle.aig_unroll.specs.Unrolled.{IsTooLarge, all_inputs, at, first_gate, first_input, frame_size, latches_at}
use Rattle.aig_unroll.specs.Unrolled.{chain_at, chain_behind, first_constraint, first_latches, next_of, resets_of}
use Rattle.aig_unroll.specs.Unrolled.{substitute_for, uninitialised}
use Rattle.aig_unroll.specs.Parts.Frames.{IsFrame, table, table_at}
use Rattle.aig_unroll.proofs.Ordering.Frames.{latches_length, row_end}

-- exclusive or with the last bit carries the sign over
sign_carried : (literal stands : ℕ) → bit_xor stands (bit_and literal 1) ≡ with_sign literal stands
sign_carried literal stands =
    let bit : bit_and literal 1 ≡ literal % 2 = and_mask literal 1 in
    let one : bit_and stands 1 ≡ stands % 2 = and_mask stands 1 in
    let sum : bit_xor stands 1 + bit_and stands 1 * 2 ≡ stands + 1 = xor_add_and stands 1 in
    elim (cases_lt 0 (literal % 2)) [
      | inl odd ↦
          let sign : literal % 2 ≡ 1 = omega arith in
          elim (cases_lt 0 (stands % 2)) [
            | inl odd_too ↦
                let sign_too : stands % 2 ≡ 1 = omega arith in
                rw (bit, sign, sign_too) (omega (arith, sum, one, sign_too))
            | inr even_too ↦
                let sign_too : stands % 2 ≡ 0 = omega arith in
                rw (bit, sign, sign_too) (omega (arith, sum, one, sign_too))
          ]
      | inr even ↦
          let sign : literal % 2 ≡ 0 = omega arith in
          rw (bit, sign) (xor_zero_r stands)
    ]

-- what is looked up in the table stands for the literal
pub looked_up : (substitution : List ℕ) (first literal variable stands : ℕ) → variable ≡ variable_of literal
    → variable < length substitution → stands ≡ get_or substitution variable stands
    → bit_xor stands (bit_and literal 1) ≡ substituted substitution first literal
looked_up substitution first literal variable stands same below is =
    search (rules, get_or_default, sign_carried, lt-ltb)

-- A frame: by its table stands what stands in the frame, and there is room for it.
table_length : (first inputs : ℕ) (latches : List ℕ)
    → length (table first inputs latches) ≡ 1 + inputs + length latches
table_length first inputs latches = search (rules, length-map-range_with_len, length-append)

-- with these for the latches
module _ (c : Circuit) (frames t : ℕ) (latches : List ℕ) (all : length latches ≡ length c.latches) where
  abbrev n : ℕ
  n = length c.inputs

  abbrev m : ℕ
  m = length c.latches

  abbrev front : List ℕ
  front = map literal_of (range_with_len (first_input c t) n)

  -- the table has what stands for a variable up to the last latch
  in_table : (v : ℕ) → v < 1 + n + m
      → get_or (table (first_input c t) n latches) v 0 ≡ substitute_for c frames t latches v
  in_table zero below = refl
  in_table (suc w) below =
      search (
        rules,
        length-map-range_with_len,
        cases_lt,
        eqb-suc-zero,
        le-leb,
        get_or_append_left,
        get_or-map-range_with_len,
        lt-leb,
        get_or-append_right,
      )

  -- and a gate's variable is one of the frame
  behind_table : (v : ℕ) → 1 + n + m ≤ v
      → substitute_for c frames t latches v ≡ literal_of (first_gate c frames t + (v - 1 - n - m))
  behind_table zero behind = absurd (omega (arith, behind))
  behind_table (suc w) behind =
      rw (eqb-suc-zero w, lt-leb (suc w) n (omega arith), lt-leb (suc w) (n + m) (omega arith)) refl

  stands_as : (literal : ℕ) → substituted (table (first_input c t) n latches) (first_gate c frames t) literal
      ≡ with_sign literal (substitute_for c frames t latches (variable_of literal))
  stands_as literal = search (rules, table_length, cases_lt, lt-ltb, in_table, le-ltb, behind_table)

-- by the table of a frame stands what stands in the frame
stands_in_frame : (c : Circuit) (frames t literal : ℕ)
    → substituted (table_at c frames t) (first_gate c frames t) literal ≡ at c frames t literal
stands_in_frame c frames t literal = stands_as c frames t (latches_at c frames t) (latches_length c frames t) literal

-- the table's literals are those of the frame
pub stands_at : (c : Circuit) (frames t gate : ℕ) (substitution : List ℕ) → gate ≡ first_gate c frames t
    → substitution ≡ table_at c frames t → substituted substitution gate ≡ at c frames t
stands_at c frames t gate substitution gate_is substitution_is =
    ap₂ substituted substitution_is gate_is ∙ fun_ext (stands_in_frame c frames t)

-- what holds of each next literal
next_places : (P : ℕ → Type 0) (latches : List Latch) → AllByRecursion P (map (λ (l : Latch). l.next) latches)
    → All (λ (l : Latch). P l.next) latches
next_places P [] all k d below = absurd (omega (arith, below))
next_places P (x ∷ xs) all zero d below = all.0
next_places P (x ∷ xs) all (suc k) d below = next_places P xs all.1 k d (omega (arith, below))

gate_places : (v size places first : ℕ) (gates : List Gate) → v + length gates ≤ size
    → first + size ≤ LARGEST + 1 + places
    → AreOrderedGates v gates → All (GateHasRoom places first) gates
gate_places v size places first [] room fits ordered k d below = absurd (omega (arith, below))
gate_places v size places first (g ∷ gs) room fits ordered zero d below = search rules
gate_places v size places first (g ∷ gs) room fits ordered (suc k) d below =
    gate_places (suc v) size places first gs (omega (arith, room)) fits ordered.3 k d (omega (arith, below))

pub all_fit : (c : Circuit) (frames : ℕ) → ¬ IsTooLarge c frames → all_inputs c frames + frames * frame_size c ≤ LARGEST
all_fit c frames fits = search (rules, cases_lt)

-- in a frame of a circuit that is not too large
module _ (c : Circuit) (frames t : ℕ) (formed : IsWellFormed c) (ordered : IsInBinaryOrder c)
    (fits : ¬ IsTooLarge c frames) (within : t < frames) where
  abbrev here : ℕ
  here = first_gate c frames t

  abbrev places : ℕ
  places = length (table_at c frames t)

  pub places_are : places ≡ 1 + length c.inputs + length c.latches
  places_are =
      table_length (first_input c t) (length c.inputs) (latches_at c frames t)
      ∙ ap (λ k. 1 + length c.inputs + k) (latches_length c frames t)

  -- the variables of the frame's gates
  pub gates_fit : here + frame_size c ≤ LARGEST + 1
  gates_fit = omega (arith, all_fit c frames fits, row_end (frame_size c) t frames within)

  -- and of its inputs
  pub inputs_fit : first_input c t + length c.inputs ≤ 1 + all_inputs c frames
  inputs_fit = omega (arith, row_end (length c.inputs) t frames within)

  known_has_room : (literal : ℕ) → IsKnown (defined_variables c) literal → FitsLiteral places here literal
  known_has_room literal known = search (rules, known_in_range, places_are, gates_fit)

  all_have_room : (literals : List ℕ) → AreDefined c literals → AllByRecursion (FitsLiteral places here) literals
  all_have_room = all_weaker (IsKnown (defined_variables c)) (FitsLiteral places here) known_has_room

  have_room : (literals : List ℕ) → AreDefined c literals → All (FitsLiteral places here) literals
  have_room literals known = All-from_recursion (FitsLiteral places here) literals (all_have_room literals known)

  pub outputs_have_room : All (FitsLiteral places here) c.outputs
  outputs_have_room = have_room c.outputs (known_outputs c formed)

  pub bad_has_room : All (FitsLiteral places here) c.bad
  bad_has_room = have_room c.bad (known_bad c formed)

  pub constraints_have_room : All (FitsLiteral places here) c.constraints
  constraints_have_room = have_room c.constraints (known_constraints c formed)

  pub nexts_have_room : All (λ (l : Latch). FitsLiteral places here l.next) c.latches
  nexts_have_room =
      next_places (FitsLiteral places here) c.latches
      (all_have_room (map (λ (l : Latch). l.next) c.latches) (known_next c formed))

  pub gates_have_room : All (GateHasRoom places here) c.gates
  gates_have_room =
      gate_places (1 + length c.inputs + length c.latches) (1 + length c.inputs + length c.latches + length c.gates)
      places here c.gates (omega arith) (omega (arith, places_are, gates_fit)) ordered.gates

-- the chain after some constraints is the last one's gate
chain_end : (v chain x : ℕ) (xs : List ℕ) → chain_behind v chain (x ∷ xs) ≡ literal_of (v + length xs)
chain_end v chain x [] = omega arith
chain_end v chain x (y ∷ ys) = chain_end (v + 1) (literal_of v) y ys ∙ omega arith

chain_last : (v chain : ℕ) (xs : List ℕ) → 0 < length xs → chain_behind v chain xs ≡ literal_of (v + length xs - 1)
chain_last v chain [] some = absurd (omega (arith, some))
chain_last v chain (x ∷ xs) some = chain_end v chain x xs ∙ omega arith

-- without constraints the chain stays 1
chain_stays : (v chain : ℕ) (xs : List ℕ) → length xs ≡ 0 → chain_behind v chain xs ≡ chain
chain_stays v chain [] none = refl
chain_stays v chain (x ∷ xs) none = absurd (omega (arith, none))

pub chain_begins : (c : Circuit) (frames t : ℕ) → length c.constraints ≡ 0 → chain_at c frames t ≡ 1
chain_begins c frames zero none = refl
chain_begins c frames (suc t) none =
    chain_stays (first_constraint c frames t) (chain_at c frames t) c.constraints none ∙ chain_begins c frames t none

-- else it is the last gate of the chain of the frame before
pub chain_before : (c : Circuit) (frames t : ℕ) → 0 < t → 0 < length c.constraints
    → chain_at c frames t ≡ literal_of (first_gate c frames t - length c.bad - 1)
chain_before c frames zero later some = absurd (omega (arith, later))
chain_before c frames (suc t) later some = search (rules, suc-mul, chain_last)

-- The next frame: its inputs and gates are after those of this one, and its latches have what stands for their next
-- literals in this one.
module _ (c : Circuit) (frames t input gate : ℕ) (substitution next : List ℕ)
    (is : IsFrame c frames t input gate substitution next) (more : t + 1 < frames) (latches : List ℕ)
    (are : latches ≡ map (substituted substitution gate) (next_of c)) where
  new_latches : latches ≡ latches_at c frames (t + 1)
  new_latches =
      let behind : suc t ≡ t + 1 = omega arith in
      are ∙ ap (λ f. map f (next_of c)) (stands_at c frames t gate substitution is.gate_is is.substitution_is)
      ∙ ap (latches_at c frames) behind

  new_input : input + length c.inputs ≡ first_input c (t + 1)
  new_input = search (rules, add-one, suc-mul)

  pub next_frame : IsFrame c frames (t + 1) (input + length c.inputs) (gate + frame_size c)
      (table (input + length c.inputs) (length c.inputs) latches) latches
  next_frame = search (rules, add-one, suc-mul, new_input, new_latches, latches_length)

-- frame 0
pub first_frame : (c : Circuit) (frames input gate : ℕ) (substitution next : List ℕ) → IsWellFormed c
    → IsInBinaryOrder c
    → ¬ IsTooLarge c frames → 1 ≤ frames → input ≡ 1 + uninitialised (resets_of c)
    → gate ≡ input + frames * length c.inputs
    → substitution ≡ table input (length c.inputs) (first_latches 1 (resets_of c)) → length next ≡ length c.latches
    → IsFrame c frames 0 input gate substitution next
first_frame c frames input gate substitution next formed ordered fits some input_is gate_is substitution_is next_room =
    search rules
