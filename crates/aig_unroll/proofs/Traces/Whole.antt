-- The rows of a trace side by side are the one row of the unrolled circuit.
use Rattle.std.proofs.Common.{◌≡◌, ◌+◌, ◌∷◌, ◌++◌, ◌∙◌, ◌*◌, ℕ, suc, List, [], length, map, refl, ap, sym, subst, rules}
use Rattle.std.proofs.Common.{arith, length-append, suc-mul, get_or, ap₂}
use Rattle.std.specs.List.{AllByRecursion, flat_map, range_with_len, AllZip}
use Rattle.std.proofs.lemmas.List.{length-map, map-append}
use Rattle.std.proofs.lemmas.List.Elements.{All-contains, All-from_recursion}
use Rattle.aig_circuit.specs.declared.circuit.Gate.{Gate}
use Rattle.aig_circuit.specs.declared.circuit.Circuit.{Circuit}
use Rattle.aig_circuit.specs.declared.value.Val.{Val}
use Rattle.aig_circuit.specs.declared.value.Val.TheVariants.{Zero, One}
use Rattle.aig_circuit.specs.Literal.{literal_of}
use Rattle.aig_circuit.specs.Values.{value_and, value_not}
use Rattle.aig_circuit.specs.Wellformed.{IsWellFormed}
use Rattle.aig_circuit.specs.declared.circuit.Reset.{Reset}
use Rattle.aig_circuit.specs.declared.circuit.Reset.TheVariants as resets
use Rattle.aig_circuit.proofs.Checking.{joined}
use Rattle.aig_checked.specs.BinaryOrder.{IsInBinaryOrder}
use Rattle.aig_meaning.specs.Meaning.{Holds, IsReadOff, Row, literal_value, IsRow}
use Rattle.aig_meaning.specs.Trace.{Follow, IsFirstState, IsTrace, MayStartAt}
use Rattle.aig_meaning.proofs.Related.{variables_of}
use Rattle.aig_meaning.proofs.Traces.{bad_length, constraints_length, inputs_length, rows_follow_once}
use Rattle.aig_image.proofs.Imaging.Ordered.{image_is_ordered}
use Rattle.aig_image.proofs.Meaning.{image_keeps_traces, image_means_the_same}
use Rattle.aig_unroll.specs.Unrolled.{at, bad_at, chain_at, chained, copied, first_bad, first_constraint, first_gate}
use Rattle.aig_unroll.specs.Unrolled.{first_input, frame_size, gates_at, guarded, latches_at, outputs_at, all_inputs}
use Rattle.aig_unroll.specs.Unrolled.{first_latches, resets_of, uninitialised, unrolled}
use Rattle.aig_unroll.specs.SideBySide.{and_all, bad_side_by_side, inputs_side_by_side, side_by_side}
use Rattle.aig_unroll.specs.SideBySide.{uninitialised_values}
use Rattle.aig_unroll.specs.Laws.{UnrollingKeepsTraces}
use Rattle.aig_unroll.proofs.Traces.OneFrame.{StandAt, stand_back, stand_front, variables_values, chain_goes_on}
use Rattle.aig_unroll.proofs.Traces.OneFrame.{chain_values, chain_values_length, chained_hold, copied_hold}
use Rattle.aig_unroll.proofs.Traces.OneFrame.{guarded_hold, bad_carried, constraints_carried, gates_carried}
use Rattle.aig_unroll.proofs.Traces.OneFrame.{next_carried, outputs_carried, read_off, stand_looked_up, variable_value}

-- the values of a frame's gates: those of the circuit's gates, of the chain, which had this value before, and of the
-- bad states
abbrev pub frame_values : Circuit → (ℕ → Val) → Val → Row → List Val
frame_values c b held row =
    map b (variables_of c.gates)
    ++ (chain_values held row.constraints ++ map (value_and (and_all held row.constraints)) row.bad)

-- and of all frames' gates
abbrev pub frames_values : (c : Circuit) (held : Val) (state : List Val) (vectors : List (List Val)) (rows : List Row)
    → Follow c state vectors rows → List Val
frames_values c held state [] rows follow = []
frames_values c held state (v ∷ vs) [] follow = []
frames_values c held state (v ∷ vs) (r ∷ rs) follow =
    frame_values c follow.2.0 held r ++ frames_values c (and_all held r.constraints) r.next vs rs follow.3

-- so many frames from one on hold, and show these rows
pub record FramesShow (c : Circuit) (a : ℕ → Val) (frames t n : ℕ) (held : Val) (rows : List Row) : Type 0 where
  pub gates : AllByRecursion (Holds a) (flat_map (gates_at c frames) (range_with_len t n))
  pub outputs : map (literal_value a) (flat_map (outputs_at c frames) (range_with_len t n))
      ≡ flat_map (λ (row : Row). row.outputs) rows
  pub bad : map (literal_value a) (flat_map (bad_at c frames) (range_with_len t n)) ≡ bad_side_by_side held rows

-- One frame, which shows this row, in front of others: its gates' values stand in front of those of later frames, and
-- its inputs in front of later ones.
module _ (c : Circuit) (formed : IsWellFormed c) (ordered : IsInBinaryOrder c) (a : ℕ → Val) (constant : a 0 ≡ Zero)
    (frames t : ℕ) (held : Val) (row : Row) (b : ℕ → Val) (is : IsReadOff c row b)
    (from : map (literal_value a) (latches_at c frames t) ≡ row.state)
    (chain : literal_value a (chain_at c frames t) ≡ held) (later_inputs later_values : List Val)
    (inputs_there : StandAt a (first_input c t) (row.inputs ++ later_inputs))
    (values_there : StandAt a (first_gate c frames t) (frame_values c b held row ++ later_values)) where
  abbrev held_then : Val
  held_then = and_all held row.constraints

  abbrev of_gates : List Val
  of_gates = map b (variables_of c.gates)

  abbrev of_chain : List Val
  of_chain = chain_values held row.constraints

  abbrev of_bad : List Val
  of_bad = map (value_and held_then) row.bad

  many_gates : length of_gates ≡ length c.gates
  many_gates = length-map (variables_of c.gates) b ∙ length-map c.gates (λ (g : Gate). g.var)

  many_constraints : length of_chain ≡ length c.constraints
  many_constraints = chain_values_length held row.constraints ∙ constraints_length c row (b, is)

  many_bad : length of_bad ≡ length c.bad
  many_bad = length-map row.bad (value_and held_then) ∙ bad_length c row (b, is)

  given : StandAt a (first_input c t) row.inputs
  given = stand_front a (first_input c t) row.inputs later_inputs inputs_there

  later_given : StandAt a (first_input c (suc t)) later_inputs
  later_given =
      let as_long : length row.inputs ≡ length c.inputs = inputs_length c row (b, is) in
      stand_back a (first_input c t) (first_input c (suc t)) row.inputs later_inputs
      (omega (arith, as_long, suc-mul t (length c.inputs))) inputs_there

  frame_there : StandAt a (first_gate c frames t) (frame_values c b held row)
  frame_there = stand_front a (first_gate c frames t) (frame_values c b held row) later_values values_there

  later_there : StandAt a (first_gate c frames (suc t)) later_values
  later_there =
      let as_long : length (frame_values c b held row) ≡ length of_gates + (length of_chain + length of_bad) =
      length-append of_gates (of_chain ++ of_bad) ∙ ap (λ n. length of_gates + n) (length-append of_chain of_bad) in
      stand_back a (first_gate c frames t) (first_gate c frames (suc t)) (frame_values c b held row) later_values
      (omega (arith, as_long, many_gates, many_constraints, many_bad, suc-mul t (frame_size c))) values_there

  gates_there : StandAt a (first_gate c frames t) of_gates
  gates_there = stand_front a (first_gate c frames t) of_gates (of_chain ++ of_bad) frame_there

  behind_gates : StandAt a (first_constraint c frames t) (of_chain ++ of_bad)
  behind_gates =
      stand_back a (first_gate c frames t) (first_constraint c frames t) of_gates (of_chain ++ of_bad)
      (ap (λ n. first_gate c frames t + n) many_gates) frame_there

  chain_there : StandAt a (first_constraint c frames t) of_chain
  chain_there = stand_front a (first_constraint c frames t) of_chain of_bad behind_gates

  bad_there : StandAt a (first_bad c frames t) of_bad
  bad_there =
      stand_back a (first_constraint c frames t) (first_bad c frames t) of_chain of_bad
      (ap (λ n. first_constraint c frames t + n) many_constraints) behind_gates

  next_state : map (literal_value a) (latches_at c frames (suc t)) ≡ row.next
  next_state = next_carried c formed ordered a constant frames t row b is from given gates_there

  next_chain : literal_value a (chain_at c frames (suc t)) ≡ held_then
  next_chain =
      chain_goes_on a (first_constraint c frames t) (chain_at c frames t) held c.constraints row.constraints chain
      (sym (constraints_length c row (b, is))) chain_there

  abbrev copies : List Gate
  copies = copied (at c frames t) (first_gate c frames t) c.gates

  abbrev chain_gates : List Gate
  chain_gates = chained (first_constraint c frames t) (chain_at c frames t) (map (at c frames t) c.constraints)

  abbrev bad_gates : List Gate
  bad_gates = guarded (first_bad c frames t) (chain_at c frames (suc t)) (map (at c frames t) c.bad)

  copies_hold : AllByRecursion (Holds a) copies
  copies_hold =
      copied_hold a b (at c frames t) (first_gate c frames t) c.gates
      (gates_carried c formed ordered a constant frames t row b is from given gates_there) gates_there

  chain_holds : AllByRecursion (Holds a) chain_gates
  chain_holds =
      chained_hold a (first_constraint c frames t) (chain_at c frames t) held (map (at c frames t) c.constraints) chain
      (subst (λ xs. StandAt a (first_constraint c frames t) (chain_values held xs))
      (sym (constraints_carried c formed ordered a constant frames t row b is from given gates_there)) chain_there)

  bad_holds : AllByRecursion (Holds a) bad_gates
  bad_holds =
      guarded_hold a (first_bad c frames t) (chain_at c frames (suc t)) held_then (map (at c frames t) c.bad) next_chain
      (subst (λ xs. StandAt a (first_bad c frames t) (map (value_and held_then) xs))
      (sym (bad_carried c formed ordered a constant frames t row b is from given gates_there)) bad_there)

  frame_holds : AllByRecursion (Holds a) (gates_at c frames t)
  frame_holds =
      joined (Holds a) copies (chain_gates ++ bad_gates) copies_hold
      (joined (Holds a) chain_gates bad_gates chain_holds bad_holds)

  frame_bad : map (literal_value a) (bad_at c frames t) ≡ of_bad
  frame_bad =
      ap (λ n. map (literal_value a) (map literal_of (range_with_len (first_bad c frames t) n))) (sym many_bad)
      ∙ variables_values a (first_bad c frames t) of_bad bad_there

  one_more : (n : ℕ) (rows : List Row) → FramesShow c a frames (suc t) n held_then rows
      → FramesShow c a frames t (suc n) held (row ∷ rows)
  one_more n rows later_show =
      search (rules, joined, frame_holds, map-append, outputs_carried, given, gates_there, frame_bad)

module _ (c : Circuit) (formed : IsWellFormed c) (ordered : IsInBinaryOrder c) (a : ℕ → Val) (constant : a 0 ≡ Zero)
    (frames : ℕ) where
  -- by induction on the frames that are left
  frames_show : (t : ℕ) (held : Val) (state : List Val) (vectors : List (List Val)) (rows : List Row)
      (follow : Follow c state vectors rows) → map (literal_value a) (latches_at c frames t) ≡ state
      → literal_value a (chain_at c frames t) ≡ held
      → StandAt a (first_input c t) (flat_map (λ (vector : List Val). vector) vectors)
      → StandAt a (first_gate c frames t) (frames_values c held state vectors rows follow)
      → FramesShow c a frames t (length vectors) held rows
  frames_show t held state [] [] follow from chain all_given there = record { gates = tt; outputs = refl; bad = refl }
  frames_show t held state [] (r ∷ rs) follow from chain all_given there = absurd follow
  frames_show t held state (v ∷ vs) [] follow from chain all_given there = absurd follow
  frames_show t held state (v ∷ vs) (r ∷ rs) follow from chain all_given there =
      let b : ℕ → Val = follow.2.0 in
      let is : IsReadOff c r b = follow.2.1 in
      let held_too : Val = and_all held r.constraints in
      let inputs : List Val = flat_map (λ (vector : List Val). vector) vs in
      let values : List Val = frames_values c held_too r.next vs rs follow.3 in
      let here : map (literal_value a) (latches_at c frames t) ≡ r.state = from ∙ sym follow.0 in
      let given_here = subst (λ xs. StandAt a (first_input c t) (xs ++ inputs)) (sym follow.1) all_given in
      one_more c formed ordered a constant frames t held r b is here chain inputs values given_here there (length vs) rs
      (frames_show (suc t) held_too r.next vs rs follow.3
      (next_state c formed ordered a constant frames t held r b is here chain inputs values given_here there)
      (next_chain c formed ordered a constant frames t held r b is here chain inputs values given_here there)
      (later_given c formed ordered a constant frames t held r b is here chain inputs values given_here there)
      (later_there c formed ordered a constant frames t held r b is here chain inputs values given_here there))

-- The rows of a trace side by side are the one row of the unrolled circuit.

-- there is a value for each uninitialised latch
uninitialised_length : (rs : List Reset) (xs : List Val) → AllZip MayStartAt rs xs
    → length (uninitialised_values rs xs) ≡ uninitialised rs
uninitialised_length [] xs start = refl
uninitialised_length (r ∷ rs) [] start = absurd start
uninitialised_length (resets.Zero ∷ rs) (x ∷ xs) start = uninitialised_length rs xs start.1
uninitialised_length (resets.One ∷ rs) (x ∷ xs) start = uninitialised_length rs xs start.1
uninitialised_length (resets.Uninit ∷ rs) (x ∷ xs) start =
    let one_more : length (uninitialised_values rs xs) ≡ uninitialised rs = uninitialised_length rs xs start.1 in
    omega (arith, one_more)

-- and latches start at theirs
latches_start : (a : ℕ → Val) → a 0 ≡ Zero → (v : ℕ) (rs : List Reset) (xs : List Val) → AllZip MayStartAt rs xs
    → StandAt a v (uninitialised_values rs xs) → map (literal_value a) (first_latches v rs) ≡ xs
latches_start a constant v [] [] start there = refl
latches_start a constant v [] (x ∷ xs) start there = absurd start
latches_start a constant v (r ∷ rs) [] start there = absurd start
latches_start a constant v (resets.Zero ∷ rs) (x ∷ xs) start there =
    ap₂ (λ (y : Val) (ys : List Val). y ∷ ys) (constant ∙ sym start.0)
    (latches_start a constant v rs xs start.1 there)
latches_start a constant v (resets.One ∷ rs) (x ∷ xs) start there =
    ap₂ (λ (y : Val) (ys : List Val). y ∷ ys) (ap value_not constant ∙ sym start.0)
    (latches_start a constant v rs xs start.1 there)
latches_start a constant v (resets.Uninit ∷ rs) (x ∷ xs) start there =
    ap₂ (λ (y : Val) (ys : List Val). y ∷ ys) (variable_value a v ∙ there.0)
    (latches_start a constant (v + 1) rs xs start.1 there.1)

-- each frame has its inputs
vectors_length : (c : Circuit) (state : List Val) (vectors : List (List Val)) (rows : List Row)
    → Follow c state vectors rows
    → length (flat_map (λ (vector : List Val). vector) vectors) ≡ length vectors * length c.inputs
vectors_length c state [] rows follow = let none : 0 ≡ 0 * length c.inputs = omega arith in none
vectors_length c state (v ∷ vs) [] follow = absurd follow
vectors_length c state (v ∷ vs) (r ∷ rs) follow =
    let rest : List Val = flat_map (λ (vector : List Val). vector) vs in
    let here : length v ≡ length c.inputs = ap length (sym follow.1) ∙ inputs_length c r follow.2 in
    let later : length rest ≡ length vs * length c.inputs = vectors_length c r.next vs rs follow.3 in
    omega (arith, length-append v rest, here, later, suc-mul (length vs) (length c.inputs))

-- the rows of a circuit in binary order
module _ (c : Circuit) (formed : IsWellFormed c) (ordered : IsInBinaryOrder c) (first : List Val)
    (vectors : List (List Val)) (rows : List Row) (trace : IsTrace c first vectors rows) where
  abbrev frames : ℕ
  frames = length vectors

  abbrev of_latches : List Val
  of_latches = uninitialised_values (resets_of c) first

  abbrev of_inputs : List Val
  of_inputs = flat_map (λ (vector : List Val). vector) vectors

  abbrev all_gates : List Val
  all_gates = frames_values c One first vectors rows trace.1

  -- the values of all variables, one after another
  abbrev values : List Val
  values = Zero ∷ (inputs_side_by_side c first vectors ++ all_gates)

  abbrev a : ℕ → Val
  a v = get_or values v Zero

  all_there : StandAt a 1 (inputs_side_by_side c first vectors ++ all_gates)
  all_there = (stand_looked_up values Zero).1

  latches_length : length of_latches ≡ uninitialised (resets_of c)
  latches_length = uninitialised_length (resets_of c) first trace.0

  all_inputs_length : length (inputs_side_by_side c first vectors) ≡ all_inputs c frames
  all_inputs_length =
      length-append of_latches of_inputs
      ∙ ap₂ (λ m n. m + n) latches_length (vectors_length c first vectors rows trace.1)

  inputs_there : StandAt a 1 (inputs_side_by_side c first vectors)
  inputs_there = stand_front a 1 (inputs_side_by_side c first vectors) all_gates all_there

  all_gates_there : StandAt a (first_gate c frames 0) all_gates
  all_gates_there =
      stand_back a 1 (first_gate c frames 0) (inputs_side_by_side c first vectors) all_gates
      (omega (arith, all_inputs_length)) all_there

  inputs_given : StandAt a (first_input c 0) of_inputs
  inputs_given =
      stand_back a 1 (first_input c 0) of_latches of_inputs (omega (arith, latches_length)) inputs_there

  shown : FramesShow c a frames 0 frames One rows
  shown = search (rules, frames_show, latches_start, stand_front, inputs_there, inputs_given, all_gates_there)

  inputs_are : map a (range_with_len 1 (all_inputs c frames)) ≡ inputs_side_by_side c first vectors
  inputs_are =
      ap (λ n. map a (range_with_len 1 n)) (sym all_inputs_length)
      ∙ read_off a 1 (inputs_side_by_side c first vectors) inputs_there

  is_row : IsRow (unrolled c frames) (side_by_side c first vectors rows)
  is_row = (
    a,
    record {
      assigned = record {
        constant = refl;
        inputs = inputs_are;
        latches = refl;
        gates = λ g g_in.
            All-contains (Holds a) (flat_map (gates_at c frames) (range_with_len 0 frames)) g
            (All-from_recursion (Holds a) (flat_map (gates_at c frames) (range_with_len 0 frames)) shown.gates) g_in;
      };
      outputs_shown = sym shown.outputs;
      next_shown = refl;
      bad_shown = sym shown.bad;
      constraints_shown = refl;
    },
  )

-- where latches start alike, the rows side by side are the same
same_side_by_side : (b c : Circuit) → resets_of b ≡ resets_of c → (first : List Val) (vectors : List (List Val))
    (rows : List Row) → side_by_side b first vectors rows ≡ side_by_side c first vectors rows
same_side_by_side b c e first vectors rows = search rules

pub unrolling_keeps_traces : UnrollingKeepsTraces
unrolling_keeps_traces c d first vectors rows good good_too unrolled_is trace others =
    let b : Circuit = unrolled_is.0 in
    let b_is = image_is_ordered c b good unrolled_is.1 in
    let side : Row = side_by_side c first vectors rows in
    let inputs_given : List (List Val) = side.inputs ∷ [] in
    let trace_too : IsTrace b first vectors rows =
    (image_keeps_traces c b good unrolled_is.1 first vectors rows).0 trace in
    let of_image = is_row b b_is.0 b_is.1 first vectors rows trace_too in
    let same = same_side_by_side b c (image_means_the_same c b good unrolled_is.1).resets first vectors rows in
    let is_side = subst (λ (e : Circuit). IsRow e side) (sym unrolled_is.2)
    (subst (λ (row : Row). IsRow (unrolled b (length vectors)) row) same of_image) in
    let starts : IsFirstState d [] = subst (λ (e : Circuit). IsFirstState e []) (sym unrolled_is.2) tt in
    let one : Follow d [] inputs_given (side ∷ []) = (refl, refl, is_side, tt) in (
      λ is. rows_follow_once d good_too [] inputs_given others (side ∷ []) is.1 one,
      λ e. (starts, subst (λ (rs : List Row). Follow d [] inputs_given rs) (sym e) one),
    )
