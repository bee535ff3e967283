-- A row of the miter with equal starts shows a row of each of its circuits, and so does a trace.
use Rattle.std.proofs.Common.{◌≡◌, ◌+◌, ◌*◌, ◌++◌, ◌∙◌, ℕ, List, [], ◌∷◌, ap, ap₂, length, length-append}
use Rattle.std.proofs.Common.{map, refl, subst, sym}
use Rattle.std.specs.List.{AllByRecursion, AllZip}
use Rattle.std.proofs.lemmas.List.{map-append}
use Rattle.std.proofs.lemmas.List.Elements.{All-contains, All-from_recursion}
use Rattle.aig_circuit.specs.declared.circuit.Circuit.{Circuit}
use Rattle.aig_circuit.specs.declared.circuit.Latch.{Latch}
use Rattle.aig_circuit.specs.declared.circuit.Reset.{Reset}
use Rattle.aig_circuit.specs.declared.circuit.Reset.TheVariants as resets
use Rattle.aig_circuit.specs.declared.value.Val.{Val}
use Rattle.aig_circuit.specs.declared.value.Val.TheVariants.{Zero, One}
use Rattle.aig_circuit.specs.Literal.{literal_of, negation_of}
use Rattle.aig_circuit.specs.Values.{value_and, value_not}
use Rattle.aig_circuit.specs.Wellformed.{IsWellFormed}
use Rattle.aig_circuit.proofs.Checking.{back, front}
use Rattle.aig_meaning.specs.Meaning.{Holds, IsRow, IsStepAssignment, Row}
use Rattle.aig_meaning.specs.Meaning.{latch_variables, literal_value, next_literals}
use Rattle.aig_meaning.specs.Trace.{Follow, IsFirstState, IsTrace, MayStartAt}
use Rattle.aig_meaning.proofs.Traces.{first_length, next_length, one_trace, row_shown, rows_follow_once, same_row}
use Rattle.aig_meaning.proofs.Traces.{state_length}
use Rattle.aig_miter.specs.Both.{differ}
use Rattle.aig_miter.specs.Parts.Comparable.{AreComparable}
use Rattle.aig_miter.specs.Miter.{differences, differing, plain_miter, moved, shifted}
use Rattle.aig_miter.specs.Starts.{free_literals, free_only, gates_with, negations, started_miter, started_row}
use Rattle.aig_unroll.specs.Unrolled.{resets_of}
use Rattle.aig_miter.specs.Starts.{started_rows, unequal, unequal_now, with_equal_starts}
use Rattle.aig_miter.proofs.Joined.{bad_is, is_first, is_second, next_is, same_given, same_state, state_is}
use Rattle.aig_miter.proofs.Sizes.{moved_resets}
use Rattle.aig_miter.proofs.Traces.{each_long, resets_joined, same_back, same_front, starts_joined}
use Rattle.aig_miter.proofs.Values.{differences_shown, each_gate, gate_has, negation_value, variable_value}

-- ---- what there is of uninitialised latches

free_map : {S T : Type 0} (f : S → T) (rs : List Reset) (xs : List S)
    → map f (free_only rs xs) ≡ free_only rs (map f xs)
free_map f [] xs = refl
free_map f (r ∷ rs) [] = refl
free_map f (resets.Zero ∷ rs) (x ∷ xs) = free_map f rs xs
free_map f (resets.One ∷ rs) (x ∷ xs) = free_map f rs xs
free_map f (resets.Uninit ∷ rs) (x ∷ xs) = ap (λ ys. f x ∷ ys) (free_map f rs xs)

module _ (a : ℕ → Val) where
  plain_values : (vs : List ℕ) → map (literal_value a) (map literal_of vs) ≡ map a vs
  plain_values [] = refl
  plain_values (v ∷ vs) = ap₂ (λ (x : Val) (xs : List Val). x ∷ xs) (variable_value a v) (plain_values vs)

  free_shown : (c : Circuit)
      → map (literal_value a) (free_literals c) ≡ free_only (resets_of c) (map a (latch_variables c))
  free_shown c =
      plain_values (free_only (resets_of c) (latch_variables c)) ∙ free_map a (resets_of c) (latch_variables c)

  with_shown : (v literal : ℕ) (ds : List ℕ) → AllByRecursion (Holds a) (gates_with v literal ds)
      → map (literal_value a) (negations v ds)
      ≡ map (λ (x : Val). value_not (value_and (literal_value a literal) x)) (map (literal_value a) ds)
  with_shown v literal [] hold = refl
  with_shown v literal (d ∷ ds) hold =
      ap₂ (λ (x : Val) (xs : List Val). x ∷ xs)
      (negation_value a (literal_of v) ∙ ap value_not (variable_value a v ∙ gate_has a v literal d hold.0))
      (with_shown (v + 1) literal ds hold.1)

-- ---- the circuit with equal starts, and without

module _ (m : Circuit) (xs ys : List ℕ) (a : ℕ → Val) (state given : List Val)
    (is : IsStepAssignment (with_equal_starts xs ys m) state given a) where
  abbrev later : ℕ
  later = m.max_var + 1

  abbrev ds : List ℕ
  ds = differences (later + 1) xs ys

  abbrev first : ℕ
  first = later + 1 + 3 * length ds

  abbrev not_later : ℕ
  not_later = negation_of (literal_of later)

  abbrev latch : Latch
  latch = record { var = later; next = 1; reset = resets.Zero }

  all_hold : AllByRecursion (Holds a) (m.gates ++ (differing (later + 1) xs ys ++ gates_with first not_later ds))
  all_hold = each_gate (Holds a) (m.gates ++ (differing (later + 1) xs ys ++ gates_with first not_later ds)) is.gates

  inner_hold : AllByRecursion (Holds a) m.gates
  inner_hold = front (Holds a) m.gates (differing (later + 1) xs ys ++ gates_with first not_later ds) all_hold

  behind_hold : AllByRecursion (Holds a) (differing (later + 1) xs ys ++ gates_with first not_later ds)
  behind_hold = back (Holds a) m.gates (differing (later + 1) xs ys ++ gates_with first not_later ds) all_hold

  pub inner : IsStepAssignment m (map a (latch_variables m)) given a
  inner = record {
    constant = is.constant;
    inputs = is.inputs;
    latches = refl;
    gates = λ g g_in. All-contains (Holds a) m.gates g (All-from_recursion (Holds a) m.gates inner_hold) g_in;
  }

  pub outer_state : state ≡ map a (latch_variables m) ++ a later ∷ []
  outer_state =
      sym is.latches
      ∙ ap (map a) (map-append (λ (l : Latch). l.var) m.latches (latch ∷ []))
      ∙ map-append a (latch_variables m) (later ∷ [])

  pub outer_next : map (literal_value a) (next_literals (with_equal_starts xs ys m))
      ≡ map (literal_value a) (next_literals m) ++ One ∷ []
  outer_next =
      ap (map (literal_value a)) (map-append (λ (l : Latch). l.next) m.latches (latch ∷ []))
      ∙ map-append (literal_value a) (next_literals m) (1 ∷ [])
      ∙ ap (λ (v : Val). map (literal_value a) (next_literals m) ++ value_not v ∷ []) is.constant

  pub outer_constraints : map (literal_value a) (m.constraints ++ negations first ds)
      ≡ map (literal_value a) m.constraints
      ++ map (λ (x : Val). value_not (unequal_now (a later) x))
      (differ (map (literal_value a) xs) (map (literal_value a) ys))
  outer_constraints =
      map-append (literal_value a) m.constraints (negations first ds)
      ∙ ap (λ (vs : List Val). map (literal_value a) m.constraints ++ vs)
      (with_shown a first not_later ds
      (back (Holds a) (differing (later + 1) xs ys) (gates_with first not_later ds) behind_hold)
      ∙ ap₂ (λ (l : Val) (vs : List Val). map (λ (x : Val). value_not (value_and l x)) vs)
      (negation_value a (literal_of later) ∙ ap value_not (variable_value a later))
      (differences_shown a (later + 1) xs ys
      (front (Holds a) (differing (later + 1) xs ys) (gates_with first not_later ds) behind_hold)))

started_shows_both : (c d : Circuit) (row : Row) → AreComparable c d → IsRow (started_miter c d) row
    → (later : Val) × (r s : Row) × IsRow c r × IsRow d s × (s.inputs ≡ r.inputs) × (row ≡ started_row c d later r s)
started_shows_both c d row fit (a, shown) =
    let xs = free_literals c in
    let ys = free_literals (moved c d) in
    let m = plain_miter c d in
    let f = shifted c.max_var in
    let state = row.state in
    let given = row.inputs in
    let is = shown.assigned in
    let within = inner m xs ys a state given is in
    let inner_state = map a (latch_variables m) in
    let r = row_shown c a in
    let s = row_shown d (λ v. a (f v)) in
    let later = a (m.max_var + 1) in
    let of_second : map (literal_value a) ys ≡ free_only (resets_of d) s.state =
    free_shown a (moved c d)
    ∙ ap₂ (λ (rs : List Reset) (vs : List Val). free_only rs vs) (moved_resets f d.latches)
    (same_state f a d.latches) in
    let unequal_are : differ (map (literal_value a) xs) (map (literal_value a) ys) ≡ unequal c d r s =
    ap₂ differ (free_shown a c) of_second in (
      later,
      r,
      s,
      is_first c d fit a inner_state given within,
      is_second c d fit a inner_state given within,
      same_given c d fit a inner_state given within,
      same_row row (started_row c d later r s)
          (outer_state m xs ys a state given is
          ∙ ap (λ (vs : List Val). vs ++ later ∷ []) (state_is c d fit a inner_state given within))
          (sym is.inputs)
          shown.outputs_shown
          (shown.next_shown ∙ outer_next m xs ys a state given is
          ∙ ap (λ (vs : List Val). vs ++ One ∷ []) (next_is c d fit a inner_state given within))
          (shown.bad_shown ∙ bad_is c d fit a inner_state given within)
          (shown.constraints_shown ∙ outer_constraints m xs ys a state given is
          ∙ ap (λ (vs : List Val). r.constraints ++ map (λ (x : Val). value_not (unequal_now later x)) vs) unequal_are),
    )

-- ---- traces

same_head : (x y : Val) → x ∷ [] ≡ y ∷ [] → x ≡ y
same_head x y is = cc

record FollowStarted (c d : Circuit) (f g : List Val) (flag : Val) (vectors : List (List Val)) (rows : List Row)
    : Type 0 where
  pub rs : List Row
  pub ss : List Row
  pub first : Follow c f vectors rs
  pub second : Follow d g vectors ss
  pub joined : rows ≡ started_rows c d flag rs ss

module _ (c d : Circuit) (fit : AreComparable c d) where
  follow_started : (f g : List Val) (flag : Val) (vectors : List (List Val)) (rows : List Row)
      → length f ≡ length c.latches → length g ≡ length d.latches
      → Follow (started_miter c d) ((f ++ g) ++ flag ∷ []) vectors rows → FollowStarted c d f g flag vectors rows
  follow_started f g flag [] [] long long_too follow =
      record { rs = []; ss = []; first = tt; second = tt; joined = refl }
  follow_started f g flag [] (row ∷ rows) long long_too follow = absurd follow
  follow_started f g flag (v ∷ vs) [] long long_too follow = absurd follow
  follow_started f g flag (v ∷ vs) (row ∷ rows) long long_too follow =
      let shown = started_shows_both c d row fit follow.2 in
      let now : Val = shown.0 in
      let r : Row = shown.1 in
      let s : Row = shown.2 in
      let is_r : IsRow c r = shown.3 in
      let is_s : IsRow d s = shown.4 in
      let is : row ≡ started_row c d now r s = shown.6 in
      let state : (r.state ++ s.state) ++ now ∷ [] ≡ (f ++ g) ++ flag ∷ [] =
      sym (ap (λ (x : Row). x.state) is) ∙ follow.0 in
      let given : r.inputs ≡ v = sym (ap (λ (x : Row). x.inputs) is) ∙ follow.1 in
      let as_long : length r.state ≡ length f = state_length c r is_r ∙ sym long in
      let as_long_too : length s.state ≡ length g = state_length d s is_s ∙ sym long_too in
      let whole : length (r.state ++ s.state) ≡ length (f ++ g) =
      length-append r.state s.state ∙ ap₂ (λ (x y : ℕ). x + y) as_long as_long_too ∙ sym (length-append f g) in
      let states : r.state ++ s.state ≡ f ++ g =
      same_front (r.state ++ s.state) (now ∷ []) (f ++ g) (flag ∷ []) whole state in
      let same_later : now ≡ flag =
      same_head now flag (same_back (r.state ++ s.state) (now ∷ []) (f ++ g) (flag ∷ []) whole state) in
      let next : row.next ≡ (r.next ++ s.next) ++ One ∷ [] = ap (λ (x : Row). x.next) is in
      let rest = follow_started r.next s.next One vs rows (next_length c r is_r) (next_length d s is_s)
      (subst (λ (xs : List Val). Follow (started_miter c d) xs vs rows) next follow.3) in
      record {
        rs = r ∷ rest.rs;
        ss = s ∷ rest.ss;
        first = (same_front r.state s.state f g as_long states, given, is_r, rest.first);
        second = (same_back r.state s.state f g as_long states, shown.5 ∙ given, is_s, rest.second);
        joined = ap₂ (λ (x : Row) (xs : List Row). x ∷ xs)
            (is ∙ ap (λ (l : Val). started_row c d l r s) same_later) rest.joined;
      }

started_first : (c d : Circuit) (f g : List Val) → IsFirstState c f → IsFirstState d g
    → IsFirstState (started_miter c d) ((f ++ g) ++ Zero ∷ [])
started_first c d f g start start_too =
    let latch : Latch = record { var = (plain_miter c d).max_var + 1; next = 1; reset = resets.Zero } in
    let of_miter : AllZip MayStartAt (map (λ (l : Latch). l.reset) (plain_miter c d).latches) (f ++ g) =
    subst (λ (rs : List Reset). AllZip MayStartAt rs (f ++ g)) (sym (resets_joined c d))
    (starts_joined f g (map (λ (l : Latch). l.reset) c.latches) (map (λ (l : Latch). l.reset) d.latches) start
    start_too) in
    subst (λ (rs : List Reset). AllZip MayStartAt rs ((f ++ g) ++ Zero ∷ []))
    (sym (map-append (λ (l : Latch). l.reset) (plain_miter c d).latches (latch ∷ [])))
    (starts_joined (f ++ g) (Zero ∷ []) (map (λ (l : Latch). l.reset) (plain_miter c d).latches) (resets.Zero ∷ [])
    of_miter
    (refl, tt))

module _ (c d : Circuit) (f g : List Val) (vectors : List (List Val)) (fit : AreComparable c d)
    (good : IsWellFormed c) (good_too : IsWellFormed d) (good_miter : IsWellFormed (started_miter c d))
    (start : IsFirstState c f) (start_too : IsFirstState d g) where
  pub started_parted : (rows : List Row) → IsTrace (started_miter c d) ((f ++ g) ++ Zero ∷ []) vectors rows
      → (rs ss : List Row) × IsTrace c f vectors rs × IsTrace d g vectors ss × (rows ≡ started_rows c d Zero rs ss)
  started_parted rows trace =
      let both = follow_started c d fit f g Zero vectors rows (first_length c f start) (first_length d g start_too)
      trace.1 in
      (both.rs, both.ss, (start, both.first), (start_too, both.second), both.joined)

  pub started_met : (rs ss : List Row) → IsTrace c f vectors rs → IsTrace d g vectors ss
      → IsTrace (started_miter c d) ((f ++ g) ++ Zero ∷ []) vectors (started_rows c d Zero rs ss)
  started_met rs ss trace trace_too =
      let one = one_trace (started_miter c d) ((f ++ g) ++ Zero ∷ []) vectors good_miter
      (started_first c d f g start start_too) (each_long c f vectors rs trace.1) in
      let both = follow_started c d fit f g Zero vectors one.0 (first_length c f start) (first_length d g start_too)
      one.1.1 in
      let same : both.rs ≡ rs = rows_follow_once c good f vectors both.rs rs both.first trace.1 in
      let same_too : both.ss ≡ ss = rows_follow_once d good_too g vectors both.ss ss both.second trace_too.1 in
      subst (IsTrace (started_miter c d) ((f ++ g) ++ Zero ∷ []) vectors)
      (both.joined ∙ ap₂ (started_rows c d Zero) same same_too) one.1
