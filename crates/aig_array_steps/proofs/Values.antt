-- What a step puts among bytes, and that it is a step.
use Rattle.std.proofs.Common.{◌≡◌, ◌+◌, ◌*◌, ◌/◌, ◌<◌, ◌≤◌, ◌++◌, ◌∷◌, ◌∙◌, ℕ, zero, suc, List, [], length, map, take}
use Rattle.std.proofs.Common.{drop}
use Rattle.std.proofs.Common.{add-one, refl, ap, ap₂, arith, sym, subst, inl, inr, get_or, set, drop-cons, length-set}
use Rattle.std.specs.List.{range_with_len}
use Rattle.std.proofs.Math.ListN.{get_or-eq_default}
use Rattle.std.proofs.Math.Seq.{drop-append-add}
use Rattle.std.proofs.lemmas.List.{get_or_append_left}
use Rattle.std.proofs.lemmas.Bool.{cases_lt}
use Rattle.std.proofs.lemmas.List.{append_assoc, get_or-set_other, get_or-set_same, get_or-take}
use Rattle.std.proofs.lemmas.List.{length-append, length-map, map-append, take_all}
use Rattle.std.proofs.lemmas.Simd.{map-map}
use Rattle.aig_arrays.specs.declared.counts.Counts.{Counts}
use Rattle.aig_checked.proofs.Numbered.{ranges_joined}
use Rattle.aig_checked.specs.BinaryOrder.{IsNumberedInOrder}
use Rattle.aig_circuit.specs.Literal.{literal_of, variable_of}
use Rattle.aig_circuit.specs.Values.{value_and}
use Rattle.aig_circuit.specs.declared.circuit.Circuit.{Circuit}
use Rattle.aig_circuit.specs.declared.circuit.Gate.{Gate}
use Rattle.aig_circuit.specs.declared.circuit.Latch.{Latch}
use Rattle.aig_circuit.specs.declared.value.Val.{Val}
use Rattle.aig_circuit.specs.declared.value.Val.TheVariants.{Zero, One, X}
use Rattle.aig_meaning.proofs.Related.{same_literal}
use Rattle.aig_meaning.specs.Meaning.{Holds, IsStepAssignment, latch_variables, literal_value, next_literals}
use Rattle.aig_array_steps.proofs.Threes.{behind, behind_is}
use Rattle.aig_array_steps.proofs.Decoded.{numbered, shown_again, inputs_are, latches_are}
use Rattle.aig_array_steps.specs.Parts.Values.{AreGiven, AreValues, gate_byte, literal_byte, value_in, value_of_byte}
use Rattle.aig_array_steps.specs.Parts.Values.{filled, shown_by, with_gates}
use Rattle.aig_array_steps.specs.Parts.Words.{AreAsLong, AreGateWords, AreInThrees, AreOrdered, SectionWords}
use Rattle.aig_array_steps.specs.Parts.Words.{circuit_in}
use Rattle.aig_array_steps.specs.Parts.Words.{gate_in, gates_in, latches_in}
use Rattle.aig_array_steps.specs.Step.{IsStepped, value_byte, value_bytes}

byte_again : (b : ℕ) → b ≤ 2 → value_byte (value_of_byte b) ≡ b
byte_again zero low = refl
byte_again (suc zero) low = refl
byte_again (suc (suc zero)) low = refl
byte_again (suc (suc (suc n))) low = absurd (omega arith)

value_again : (v : Val) → value_of_byte (value_byte v) ≡ v
value_again Zero = refl
value_again One = refl
value_again X = refl

byte_low : (v : Val) → value_byte v ≤ 2
byte_low Zero = omega arith
byte_low One = omega arith
byte_low X = omega arith

-- the first gate ahead is put, and then the others; fewer than three words are none
pub gates_ahead : (v : ℕ) (words table : List ℕ) → 3 ≤ length words → with_gates v words table
    ≡ with_gates (v + 1) (behind words) (set table v (gate_byte table (get_or words 1 0) (get_or words 2 0)))
unfolding with_gates
gates_ahead v [] table long = absurd (omega arith)
gates_ahead v (x ∷ []) table long = absurd (omega arith)
gates_ahead v (x ∷ y ∷ []) table long = absurd (omega arith)
gates_ahead v (x ∷ y ∷ z ∷ words) table long =
    rw (behind_is (x ∷ y ∷ z ∷ words), add-one v) refl

pub no_gate_ahead : (v : ℕ) (words table : List ℕ) → length words < 3 → with_gates v words table ≡ table
unfolding with_gates
no_gate_ahead v [] table short = refl
no_gate_ahead v (x ∷ []) table short = refl
no_gate_ahead v (x ∷ y ∷ []) table short = refl
no_gate_ahead v (x ∷ y ∷ z ∷ words) table short = absurd (omega arith)

-- What stands in a table once its gates were put.
pub with_gates_length : (v : ℕ) (words table : List ℕ) → length (with_gates v words table) ≡ length table
unfolding with_gates
with_gates_length v [] table = refl
with_gates_length v (x ∷ []) table = refl
with_gates_length v (x ∷ y ∷ []) table = refl
with_gates_length v (x ∷ y ∷ z ∷ words) table =
    with_gates_length (suc v) words (set table v (gate_byte table y z)) ∙ length-set table v (gate_byte table y z)

below_gates : (v : ℕ) (words table : List ℕ) (w : ℕ) → w < v → get_or (with_gates v words table) w 0 ≡ get_or table w 0
unfolding with_gates
below_gates v [] table w low = refl
below_gates v (x ∷ []) table w low = refl
below_gates v (x ∷ y ∷ []) table w low = refl
below_gates v (x ∷ y ∷ z ∷ words) table w low =
    below_gates (suc v) words (set table v (gate_byte table y z)) w (omega (arith, low))
    ∙ get_or-set_other table v w (gate_byte table y z) 0 (λ e. omega (arith, low, e))

literal_below : (v : ℕ) (words table : List ℕ) (literal : ℕ) → literal < literal_of v
    → literal_value (value_in (with_gates v words table)) literal ≡ literal_value (value_in table) literal
literal_below v words table literal low =
    same_literal (value_in (with_gates v words table)) (value_in table) literal
    (ap value_of_byte (below_gates v words table (variable_of literal) (omega (arith, low))))

-- the first gate holds once all were put: its byte was put, and neither that nor its operands' bytes change
first_holds : (v x y z : ℕ) (words table : List ℕ) → v < length table → AreGateWords v x y z
    → Holds (value_in (with_gates v (x ∷ y ∷ z ∷ words) table)) (gate_in x y z)
unfolding with_gates
first_holds v x y z words table room right =
    let all : List ℕ = with_gates v (x ∷ y ∷ z ∷ words) table in
    let own : variable_of x ≡ v = omega (arith, right.0) in
    let put : get_or all v 0 ≡ gate_byte table y z =
    below_gates (suc v) words (set table v (gate_byte table y z)) v (omega arith)
    ∙ get_or-set_same table v (gate_byte table y z) 0 room in
    ap (value_in all) own
    ∙ ap value_of_byte put
    ∙ value_again (value_and (literal_value (value_in table) y) (literal_value (value_in table) z))
    ∙ ap₂ value_and (sym (literal_below v (x ∷ y ∷ z ∷ words) table y right.1))
    (sym (literal_below v (x ∷ y ∷ z ∷ words) table z right.2))

each_holds : (v : ℕ) (words table : List ℕ) → 3 * v + length words ≤ 3 * length table
    → AreInThrees AreGateWords v words → (i : ℕ) (g : Gate) → i < length (gates_in words)
    → get_or (gates_in words) i g ≡ g → Holds (value_in (with_gates v words table)) g
unfolding with_gates
each_holds v [] table room right i g below is = absurd (omega arith)
each_holds v (x ∷ []) table room right i g below is = absurd (omega arith)
each_holds v (x ∷ y ∷ []) table room right i g below is = absurd (omega arith)
each_holds v (x ∷ y ∷ z ∷ words) table room right zero g below is =
    subst (λ (h : Gate). Holds (value_in (with_gates v (x ∷ y ∷ z ∷ words) table)) h) is
    (first_holds v x y z words table (omega (arith, room)) right.0)
each_holds v (x ∷ y ∷ z ∷ words) table room right (suc i) g below is =
    each_holds (suc v) words (set table v (gate_byte table y z))
    (omega (arith, room, length-set table v (gate_byte table y z))) right.1 i g (omega (arith, below)) is

all_values : (v : ℕ) (words table : List ℕ) → 3 * v + length words ≡ 3 * length table
    → ((w : ℕ) → w < v → get_or table w 0 ≤ 2) → AreValues (with_gates v words table)
unfolding with_gates
all_values v [] table room low w = elim (cases_lt w v) [
  | inl below ↦ low w below
  | inr above ↦ let e : get_or table w 0 ≡ 0 = get_or-eq_default table 0 (omega arith) in omega (arith, e)
]
all_values v (x ∷ []) table room low w = absurd (omega arith)
all_values v (x ∷ y ∷ []) table room low w = absurd (omega arith)
all_values v (x ∷ y ∷ z ∷ words) table room low w =
    let byte : ℕ = gate_byte table y z in
    let long : length (set table v byte) ≡ length table = length-set table v byte in
    all_values (suc v) words (set table v byte) (omega arith) lower w where
      lower : (u : ℕ) → u < suc v → get_or (set table v (gate_byte table y z)) u 0 ≤ 2
      lower u under = elim (cases_lt u v) [
        | inl below ↦ subst (λ (b : ℕ). b ≤ 2)
            (sym (get_or-set_other table v u (gate_byte table y z) 0 (λ e. omega (arith, below, e)))) (low u below)
        | inr above ↦
            let same : u ≡ v = omega (arith, under, above) in
            rw (same, get_or-set_same table v (gate_byte table y z) 0 (omega (arith, room))) (byte_low _)
      ]

-- a function that reads these places makes the list of them
read_back : (f : ℕ → ℕ) (xs : List ℕ) (m k : ℕ) → m + k ≤ length xs
    → ((w : ℕ) → m ≤ w → w < m + k → f w ≡ get_or xs w 0) → map f (range_with_len m k) ≡ take k (drop m xs)
read_back f xs m zero room reads = refl
read_back f xs m (suc k) room reads =
    let one : m + 1 ≡ suc m = omega arith in
    let rest : map f (range_with_len (m + 1) k) ≡ take k (drop (m + 1) xs) =
    read_back f xs (m + 1) k (omega arith) (λ w low high. reads w (omega arith) (omega arith)) in
    ap₂ (λ (y : ℕ) ys. y ∷ ys) (reads m (omega arith) (omega arith)) rest
    ∙ ap (λ n. get_or xs m 0 ∷ take k (drop n xs)) one
    ∙ ap (take (suc k)) (sym (drop-cons xs m 0 (omega arith)))

-- the bytes that are given stand in the table
pub given_in_front : (n : Counts) (s : SectionWords) (values front : List ℕ) → AreOrdered n s
    → front ≡ take (1 + n.max_var) values → AreGiven n values → AreGiven n front
given_in_front n s values front o is given place low high =
    rw (is, get_or-take (1 + n.max_var) values place 0 (omega (arith, high, o.all))) (given place low high)

-- The step.
module _ (n : Counts) (s : SectionWords) (front : List ℕ) (long : AreAsLong n s) (o : AreOrdered n s)
    (whole : length front ≡ 1 + n.max_var) (given : AreGiven n front) where
  abbrev size : ℕ
  size = 1 + n.max_var

  abbrev first : ℕ
  first = 1 + n.inputs + n.latches

  abbrev begun : List ℕ
  begun = set front 0 0

  abbrev table : List ℕ
  table = filled n s front

  abbrev c : Circuit
  c = circuit_in n s

  abbrev a : ℕ → Val
  a = value_in table

  begun_length : length begun ≡ size
  begun_length = length-set front 0 0 ∙ whole

  table_length : length table ≡ size
  table_length = with_gates_length first s.gates begun ∙ begun_length

  constant : get_or table 0 0 ≡ 0
  constant = below_gates first s.gates begun 0 (omega arith) ∙ get_or-set_same front 0 0 0 (omega (arith, whole))

  begun_as_given : (w : ℕ) → 1 ≤ w → get_or begun w 0 ≡ get_or front w 0
  begun_as_given w low = get_or-set_other front 0 w 0 0 (λ e. omega (arith, low, e))

  as_given : (w : ℕ) → 1 ≤ w → w < first → get_or table w 0 ≡ get_or front w 0
  as_given w low high = below_gates first s.gates begun w high ∙ begun_as_given w low

  begun_values : (w : ℕ) → w < first → get_or begun w 0 ≤ 2
  begun_values zero high = rw (get_or-set_same front 0 0 0 (omega (arith, whole))) (omega arith)
  begun_values (suc w) high =
      rw (begun_as_given (suc w) (omega arith)) (given (suc w) (omega arith) (omega (arith, high)))

  gates_fit : 3 * first + length s.gates ≡ 3 * length begun
  gates_fit = omega (arith, begun_length, long.gates, o.all)

  pub all_are_values : AreValues table
  all_are_values = all_values first s.gates begun gates_fit begun_values

  assigned : IsStepAssignment c (map a (latch_variables c)) (map a c.inputs) a
  assigned = record {
    constant = ap value_of_byte constant;
    inputs = refl;
    latches = refl;
    gates = λ g at. each_holds first s.gates begun (omega (arith, gates_fit)) o.defined.gates at.0 g at.1 at.2;
  }

  byte_is : (w : ℕ) → value_byte (a w) ≡ get_or table w 0
  byte_is w = byte_again (get_or table w 0) (all_are_values w)

  order : IsNumberedInOrder c
  order = numbered n s long o

  variables_are : c.inputs ++ latch_variables c ≡ range_with_len 1 (length c.inputs + length c.latches)
  variables_are =
      ap₂ (λ (xs ys : List ℕ). xs ++ ys) order.inputs order.latches
      ∙ ranges_joined 1 (length c.inputs) (length c.latches)

  was : (back : List ℕ) → take (length c.inputs + length c.latches) (drop 1 (front ++ back))
      ≡ map value_byte (map a c.inputs ++ map a (latch_variables c))
  was back =
      let count : ℕ = length c.inputs + length c.latches in
      let counted : count ≡ n.inputs + n.latches = omega (arith, inputs_are n s long o, latches_are n s long o) in
      sym (
      ap (map value_byte) (sym (map-append a c.inputs (latch_variables c)) ∙ ap (map a) variables_are)
      ∙ map-map value_byte a (range_with_len 1 count)
      ∙ read_back (λ w. value_byte (a w)) (front ++ back) 1 count
      (omega (arith, length-append front back, whole, counted, o.all))
      (λ w low high. byte_is w ∙ as_given w low (omega (arith, high, counted))
      ∙ sym (get_or_append_left front back 0 w (omega (arith, high, whole, counted, o.all))))
      )

  table_is : map value_byte (map a (range_with_len 0 size)) ≡ table
  table_is =
      map-map value_byte a (range_with_len 0 size)
      ∙ read_back (λ w. value_byte (a w)) table 0 size (omega (arith, table_length)) (λ w low high. byte_is w)
      ∙ take_all size table (omega (arith, table_length))

  abbrev nexts : List ℕ
  nexts = map (λ (l : Latch). literal_byte table l.next) (latches_in s.latches)

  abbrev shown_bytes : List ℕ
  shown_bytes = map (literal_byte table) s.shown

  listed_are : c.outputs ++ c.bad ++ c.constraints ++ next_literals c ≡ s.shown ++ next_literals c
  listed_are = ap (λ xs. xs ++ next_literals c) (shown_again n s long o)

  shown_are : map value_byte (map (literal_value a) (c.outputs ++ c.bad ++ c.constraints ++ next_literals c))
      ≡ shown_bytes ++ nexts
  shown_are =
      map-map value_byte (literal_value a) (c.outputs ++ c.bad ++ c.constraints ++ next_literals c)
      ∙ ap (map (literal_byte table)) listed_are
      ∙ map-append (literal_byte table) s.shown (next_literals c)
      ∙ ap (λ xs. shown_bytes ++ xs) (map-map (literal_byte table) (λ (l : Latch). l.next) (latches_in s.latches))

  bytes_are : value_bytes c a ≡ table ++ (shown_bytes ++ nexts)
  bytes_are =
      map-append value_byte (map a (range_with_len 0 size))
      (map (literal_value a) (c.outputs ++ c.bad ++ c.constraints ++ next_literals c))
      ∙ ap₂ (λ (xs ys : List ℕ). xs ++ ys) table_is shown_are

  abbrev count : ℕ
  count = length s.shown + length s.latches / 3

  bytes_length : length front + count ≡ length (value_bytes c a)
  bytes_length =
      let long_table : length front ≡ length table = whole ∙ sym table_length in
      let nexts_length : length nexts ≡ length s.latches / 3 =
      length-map (latches_in s.latches) (λ (l : Latch). literal_byte table l.next)
      ∙ omega (arith, latches_are n s long o, long.latches) in
      omega (
        arith,
        ap length bytes_are,
        length-append table (shown_bytes ++ nexts),
        length-append shown_bytes nexts,
        length-map s.shown (literal_byte table),
      )

  pub is_stepped : (back : List ℕ) → IsStepped c (front ++ back) (table ++ shown_by table s back)
  is_stepped back = record {
    a = a;
    given = map a c.inputs;
    state = map a (latch_variables c);
    assigned = assigned;
    was = was back;
    is = ap (λ xs. table ++ (shown_bytes ++ nexts ++ xs))
        (sym (drop-append-add front back count) ∙ ap (λ k. drop k (front ++ back)) bytes_length)
        ∙ sym (append_assoc table (shown_bytes ++ nexts) (drop (length (value_bytes c a)) (front ++ back)))
        ∙ ap (λ xs. xs ++ drop (length (value_bytes c a)) (front ++ back)) (sym bytes_are);
  }
