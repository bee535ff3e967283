-- From a step that is confirmed of a circuit with a loop back to a lasso.
use Rattle.std.proofs.Common.{◌≡◌, ◌+◌, ◌<◌, ◌++◌, ◌∙◌, ◌⊎◌, ℕ, zero, suc, List, [], ◌∷◌, ap, ap₂, arith, drop, get_or}
use Rattle.std.proofs.Common.{inl, inr, length, map, refl, subst, sym, take}
use Rattle.std.specs.List.{All, AllByRecursion, AllZip}
use Rattle.std.proofs.lemmas.List.{length-append, length-map, map-append}
use Rattle.std.proofs.lemmas.List.Elements.{All-cons, All-head, All-nil, All-tail}
use Rattle.std.proofs.lemmas.Slice.Zip.{AllZip-long}
use Rattle.aig_circuit.specs.declared.circuit.Circuit.{Circuit}
use Rattle.aig_circuit.specs.declared.circuit.Latch.{Latch}
use Rattle.aig_circuit.specs.declared.circuit.Reset.{Reset}
use Rattle.aig_circuit.specs.declared.circuit.Reset.TheVariants as resets
use Rattle.aig_circuit.specs.declared.value.Val.{Val}
use Rattle.aig_circuit.specs.declared.value.Val.TheVariants.{Zero, One, X}
use Rattle.aig_circuit.specs.Values.{value_and, value_not}
use Rattle.aig_meaning.specs.Meaning.{IsRow, Row, latch_variables}
use Rattle.aig_meaning.specs.Trace.{Follow, IsFirstState, MayStartAt, state_after}
use Rattle.aig_meaning.proofs.Traces.{bad_length, inputs_length, next_length}
use Rattle.aig_cnf.proofs.Existing.{IsSure}
use Rattle.aig_unroll.specs.SideBySide.{and_all}
use Rattle.aig_witness.specs.Witness.{IsBad, IsHeld}
use Rattle.aig_lasso.specs.Goals.{with_goals}
use Rattle.aig_lasso.specs.Lasso.{IsLassoAt, Meet}
use Rattle.aig_live.specs.Laws.{ConfirmedMeansLasso}
use Rattle.aig_live.specs.Values.{either, here_value, kept_values, noted_values, same_value, same_values}
use Rattle.aig_live.specs.WithLoop.{copying, first_copied, first_copy, first_met, first_noted}
use Rattle.aig_live.specs.WithLoop.{new_latches, noting, save, with_loop}
use Rattle.aig_live.proofs.Made.{made_step}

abbrev pub IsOne : Val → Type 0
IsOne v = v ≡ One

-- ---- what it takes for these values to be 1, with x or without

either_one : (x y : Val) → either x y ≡ One → (x ≡ One) ⊎ (y ≡ One)
either_one Zero Zero is = cc
either_one Zero One is = inr refl
either_one Zero X is = cc
either_one One y is = inl refl
either_one X Zero is = cc
either_one X One is = inr refl
either_one X X is = cc

and_one : (x y : Val) → value_and x y ≡ One → (x ≡ One) × (y ≡ One)
and_one Zero y is = cc
and_one One y is = (refl, is)
and_one X Zero is = cc
and_one X One is = cc
and_one X X is = cc

same_one : (x q : Val) → same_value x q ≡ One → x ≡ q
same_one Zero Zero is = refl
same_one Zero One is = cc
same_one Zero X is = cc
same_one One Zero is = cc
same_one One One is = refl
same_one One X is = cc
same_one X Zero is = cc
same_one X One is = cc
same_one X X is = cc

all_one : (held : Val) (xs : List Val) → and_all held xs ≡ One → (held ≡ One) × AllByRecursion IsOne xs
all_one held [] is = (is, tt)
all_one held (x ∷ xs) is =
    let rest = all_one (value_and held x) xs is in
    let both = and_one held x rest.0 in
    (both.0, (both.1, rest.1))

same_all : (xs qs : List Val) → length xs ≡ length qs → AllByRecursion IsOne (same_values xs qs) → xs ≡ qs
same_all [] [] long ones = refl
same_all [] (q ∷ qs) long ones = absurd (omega (arith, long))
same_all (x ∷ xs) [] long ones = absurd (omega (arith, long))
same_all (x ∷ xs) (q ∷ qs) long ones =
    ap₂ (λ (v : Val) (vs : List Val). v ∷ vs) (same_one x q ones.0) (same_all xs qs (omega (arith, long)) ones.1)

same_sure : (x q : Val) → same_value x q ≡ One → IsSure x
same_sure Zero q is = tt
same_sure One q is = tt
same_sure X Zero is = cc
same_sure X One is = cc
same_sure X X is = cc

all_known : (xs qs : List Val) → length xs ≡ length qs → AllByRecursion IsOne (same_values xs qs)
    → AllByRecursion IsSure xs
all_known [] qs long ones = tt
all_known (x ∷ xs) [] long ones = absurd (omega (arith, long))
all_known (x ∷ xs) (q ∷ qs) long ones =
    (same_sure x q ones.0, all_known xs qs (omega (arith, long)) ones.1)

here_known : (s qs : List Val) → length s ≡ length qs → here_value s qs ≡ One → AllByRecursion IsSure s
here_known s qs long is = all_known s qs long (all_one One (same_values s qs) is).1

and_zero : (x : Val) → value_and x Zero ≡ Zero
and_zero Zero = refl
and_zero One = refl
and_zero X = refl

either_none : (q : Val) → either Zero q ≡ q
either_none Zero = refl
either_none One = refl
either_none X = refl

either_first : (x : Val) → either x Zero ≡ x
either_first Zero = refl
either_first One = refl
either_first X = refl

-- nothing is saved
pub kept_zero : (xs qs : List Val) → length xs ≡ length qs → kept_values Zero xs qs ≡ qs
kept_zero [] [] long = refl
kept_zero [] (q ∷ qs) long = absurd (omega (arith, long))
kept_zero (x ∷ xs) [] long = absurd (omega (arith, long))
kept_zero (x ∷ xs) (q ∷ qs) long =
    ap₂ (λ (v : Val) (vs : List Val). v ∷ vs) (either_none q) (kept_zero xs qs (omega (arith, long)))

-- the state is saved
pub kept_one : (xs qs : List Val) → length xs ≡ length qs → kept_values One xs qs ≡ xs
kept_one [] [] long = refl
kept_one [] (q ∷ qs) long = absurd (omega (arith, long))
kept_one (x ∷ xs) [] long = absurd (omega (arith, long))
kept_one (x ∷ xs) (q ∷ qs) long =
    ap₂ (λ (v : Val) (vs : List Val). v ∷ vs) (either_first x) (kept_one xs qs (omega (arith, long)))

pub kept_long : (now : Val) (xs qs : List Val) → length xs ≡ length qs
    → length (kept_values now xs qs) ≡ length qs
kept_long now [] [] long = refl
kept_long now [] (q ∷ qs) long = absurd (omega (arith, long))
kept_long now (x ∷ xs) [] long = absurd (omega (arith, long))
kept_long now (x ∷ xs) (q ∷ qs) long = ap suc (kept_long now xs qs (omega (arith, long)))

-- what may be saved, and is known, is
saved_value : (now x q : Val) → ¬ (now ≡ Zero) → IsSure (either (value_and now x) (value_and (value_not now) q))
    → either (value_and now x) (value_and (value_not now) q) ≡ x
saved_value Zero x q some known = absurd (some refl)
saved_value One x q some known = either_first x
saved_value X Zero Zero some known = refl
saved_value X Zero One some known = absurd known
saved_value X Zero X some known = absurd known
saved_value X One Zero some known = absurd known
saved_value X One One some known = absurd known
saved_value X One X some known = absurd known
saved_value X X Zero some known = absurd known
saved_value X X One some known = absurd known
saved_value X X X some known = absurd known

saved_values : (now : Val) (xs qs : List Val) → ¬ (now ≡ Zero) → length xs ≡ length qs
    → AllByRecursion IsSure (kept_values now xs qs) → kept_values now xs qs ≡ xs
saved_values now [] [] some long known = refl
saved_values now [] (q ∷ qs) some long known = absurd (omega (arith, long))
saved_values now (x ∷ xs) [] some long known = absurd (omega (arith, long))
saved_values now (x ∷ xs) (q ∷ qs) some long known =
    ap₂ (λ (v : Val) (vs : List Val). v ∷ vs) (saved_value now x q some known.0)
    (saved_values now xs qs some (omega (arith, long)) known.1)

not_zero_by : (e : Val) → ¬ (e ≡ One) → ¬ (value_not e ≡ Zero)
not_zero_by Zero is_not is = cc
not_zero_by One is_not is = is_not refl
not_zero_by X is_not is = cc

saving_some : (e v : Val) → ¬ (e ≡ One) → v ≡ One → ¬ (value_and v (value_not e) ≡ Zero)
saving_some e v is_not one is =
    not_zero_by e is_not (ap (λ (x : Val). value_and x (value_not e)) (sym one) ∙ is)

saving_none : (e v : Val) → e ≡ One → value_and v (value_not e) ≡ Zero
saving_none e v is = ap (λ (x : Val). value_and v (value_not x)) is ∙ and_zero v

here_one : (s qs : List Val) → length s ≡ length qs → here_value s qs ≡ One → s ≡ qs
here_one s qs long is = same_all s qs long (all_one One (same_values s qs) is).1

ones_at : (ms : List Val) (k : ℕ) → AllByRecursion IsOne ms → k < length ms → get_or ms k Zero ≡ One
ones_at [] k ones below = absurd (omega (arith, below))
ones_at (m ∷ ms) zero ones below = ones.0
ones_at (m ∷ ms) (suc k) ones below = ones_at ms k ones.1 (omega (arith, below))

noted_at : (i : Val) (gs ms : List Val) (k : ℕ) → get_or (noted_values i gs ms) k Zero ≡ One
    → (get_or ms k Zero ≡ One) ⊎ ((i ≡ One) × (get_or gs k Zero ≡ One))
noted_at i [] ms k is = cc
noted_at i (g ∷ gs) [] k is = cc
noted_at i (g ∷ gs) (m ∷ ms) zero is = elim (either_one (value_and i g) m is) [
  | inl now ↦ inr (and_one i g now)
  | inr before ↦ inl before
]
noted_at i (g ∷ gs) (m ∷ ms) (suc k) is = noted_at i gs ms k is

pub noted_long : (i : Val) (gs ms : List Val) → length gs ≡ length ms → length (noted_values i gs ms) ≡ length ms
noted_long i [] [] long = refl
noted_long i [] (m ∷ ms) long = absurd (omega (arith, long))
noted_long i (g ∷ gs) [] long = absurd (omega (arith, long))
noted_long i (g ∷ gs) (m ∷ ms) long = ap suc (noted_long i gs ms (omega (arith, long)))

one_or_not : (v : Val) → (v ≡ One) ⊎ (¬ (v ≡ One))
one_or_not Zero = inr (λ is. cc)
one_or_not One = inl refl
one_or_not X = inr (λ is. cc)

single : (x : Val) (p : ℕ) → get_or (x ∷ []) p Zero ≡ One → x ≡ One
single x zero is = is
single x (suc p) is = cc

-- ---- a run back

meet_later : (b : Row) (bs : List Row) (goal : ℕ) → Meet bs goal → Meet (b ∷ bs) goal
meet_later b bs goal met = (b ∷ met.0, met.1, met.2, ap (λ (rs : List Row). b ∷ rs) met.3, met.4)

meet_now : (b : Row) (bs : List Row) (goal : ℕ) → IsBad goal b → Meet (b ∷ bs) goal
meet_now b bs goal is = ([], bs, b, refl, is)

-- each goal was met before, or is by one of the rows
abbrev AreMet : ℕ → List Val → List Row → Type 0
AreMet goals ms bs = (k : ℕ) → k < goals → (get_or ms k Zero ≡ One) ⊎ Meet bs k

-- the loop begins among the rows, which meet the goals from there on
record HasLoop (goals : ℕ) (s ms : List Val) (bs : List Row) : Type 0 where
  pub stem : List Row
  pub turn : Row
  pub turns : List Row
  pub parted : bs ≡ stem ++ (turn ∷ turns)
  pub there : state_after s bs ≡ state_after s stem
  pub met : AreMet goals ms (turn ∷ turns)

-- the loop was entered before, with the state that is saved, or begins among the rows
abbrev Ends : ℕ → List Val → Val → List Val → List Val → List Row → Type 0
Ends goals s e qs ms bs =
    ((e ≡ One) × (state_after s bs ≡ qs) × AreMet goals ms bs) ⊎ ((¬ (e ≡ One)) × HasLoop goals s ms bs)

-- all but the last
record IsLast (n : ℕ) (xs : List Val) : Type 0 where
  pub last : Val
  pub whole : xs ≡ take n xs ++ (last ∷ [])
  pub long : length (take n xs) ≡ n

last_of : (n : ℕ) (xs : List Val) → length xs ≡ n + 1 → IsLast n xs
last_of zero [] long = absurd (omega (arith, long))
last_of zero (x ∷ []) long = record { last = x; whole = refl; long = refl }
last_of zero (x ∷ y ∷ ys) long = absurd (omega (arith, long))
last_of (suc n) [] long = absurd (omega (arith, long))
last_of (suc n) (x ∷ xs) long =
    let rest = last_of n xs (omega (arith, long)) in
    record { last = rest.last; whole = ap (λ (vs : List Val). x ∷ vs) rest.whole; long = ap suc rest.long }

module _ (d : Circuit) where
  abbrev goals : ℕ
  goals = length d.bad

  record IsBack (s : List Val) (e : Val) (qs ms : List Val) (vectors : List (List Val)) (before : List Row)
      : Type 0 where
    pub rows : List Row
    pub follow : Follow d s (map (take (length d.inputs)) (take (length before) vectors)) rows
    pub held : All IsHeld rows
    pub known : AllByRecursion IsSure (state_after s rows)
    pub ends : Ends goals s e qs ms rows

  module _ (s : List Val) (v e : Val) (qs : List Val) (long : length s ≡ length qs) (ms : List Val) (b : Row)
      (bs : List Row) (known : AllByRecursion IsSure (state_after b.next bs)) where
    abbrev i : Val
    i = either e v

    abbrev now : Val
    now = value_and v (value_not e)

    abbrev qs_next : List Val
    qs_next = kept_values now s qs

    abbrev ms_next : List Val
    ms_next = noted_values i b.bad ms

    now_or_later : AreMet goals ms_next bs → AreMet goals ms (b ∷ bs)
    now_or_later met k below = elim (met k below) [
      | inl noted_one ↦ elim (noted_at i b.bad ms k noted_one) [
        | inl is ↦ inl is
        | inr bad_now ↦ inr (meet_now b bs k bad_now.1)
      ]
      | inr later ↦ inr (meet_later b bs k later)
    ]

    -- the loop was entered before, or is now
    entered_by_now : i ≡ One → state_after b.next bs ≡ qs_next → AreMet goals ms_next bs
        → Ends goals s e qs ms (b ∷ bs)
    entered_by_now is back met = elim (one_or_not e) [
      | inl before ↦
          let same : qs_next ≡ qs =
          ap (λ (x : Val). kept_values x s qs) (saving_none e v before) ∙ kept_zero s qs long in
          inl (before, back ∙ same, now_or_later met)
      | inr is_not ↦
          let v_one : v ≡ One = elim (either_one e v is) [
            | inl before ↦ absurd (is_not before)
            | inr one ↦ one
          ] in
          let saved : qs_next ≡ s =
          saved_values now s qs (saving_some e v is_not v_one) long (subst (AllByRecursion IsSure) back known) in
          inr (
            is_not,
            record {
              stem = [];
              turn = b;
              turns = bs;
              parted = refl;
              there = back ∙ saved;
              met = now_or_later met;
            },
          )
    ]

    entered_later : ¬ (i ≡ One) → HasLoop goals b.next ms_next bs → Ends goals s e qs ms (b ∷ bs)
    entered_later is_not loop = inr (
      λ before. is_not (ap (λ (x : Val). either x v) before),
      record {
        stem = b ∷ loop.stem;
        turn = loop.turn;
        turns = loop.turns;
        parted = ap (λ (rs : List Row). b ∷ rs) loop.parted;
        there = loop.there;
        met = λ k below. elim (loop.met k below) [
          | inl noted_one ↦ elim (noted_at i b.bad ms k noted_one) [
            | inl is ↦ inl is
            | inr bad_now ↦ absurd (is_not bad_now.0)
          ]
          | inr later ↦ inr later
        ];
      },
    )

    ends_before : Ends goals b.next i qs_next ms_next bs → Ends goals s e qs ms (b ∷ bs)
    ends_before (inl entered_one) = entered_by_now entered_one.0 entered_one.1 entered_one.2
    ends_before (inr loop) = entered_later loop.0 loop.1

  last_input : (r : Row) → IsRow (with_loop d) r → IsLast (length d.inputs) r.inputs
  last_input r is =
      last_of (length d.inputs) r.inputs
      (inputs_length (with_loop d) r is ∙ length-append d.inputs (save d ∷ []))

  walk : (property : ℕ) (before : List Row) (row : Row) (behind : List Row) (state : List Val)
      (vectors : List (List Val)) (s : List Val) (e : Val) (qs ms : List Val)
      → Follow (with_loop d) state vectors (before ++ (row ∷ behind)) → state ≡ s ++ (e ∷ (qs ++ ms))
      → length s ≡ length d.latches → length qs ≡ length d.latches → length ms ≡ length d.bad
      → All IsHeld before → IsBad property row → IsBack s e qs ms vectors before
  walk property [] row behind state [] s e qs ms follow at long copies_long many held bad = absurd follow
  walk property [] row behind state (vec ∷ vs) s e qs ms follow at long copies_long many held bad =
      let given = last_input row follow.2 in
      let step =
      made_step d row (take (length d.inputs) row.inputs) given.last s e qs ms follow.2 given.whole given.long
      (follow.0 ∙ at) long copies_long in
      let is : and_all One (e ∷ here_value s qs ∷ ms) ≡ One =
      single (and_all One (e ∷ here_value s qs ∷ ms)) property
      (ap (λ (xs : List Val). get_or xs property Zero) (sym step.bad) ∙ bad) in
      let ones = (all_one One (e ∷ here_value s qs ∷ ms) is).1 in
      let as_long : length s ≡ length qs = long ∙ sym copies_long in
      record {
        rows = [];
        follow = tt;
        held = All-nil IsHeld;
        known = here_known s qs as_long ones.1.0;
        ends = inl (
          ones.0,
          here_one s qs as_long ones.1.0,
          λ k below. inl (ones_at ms k ones.1.1 (omega (arith, below, many))),
        );
      }
  walk property (r ∷ rs) row behind state [] s e qs ms follow at long copies_long many held bad = absurd follow
  walk property (r ∷ rs) row behind state (vec ∷ vs) s e qs ms follow at long copies_long many held bad =
      let given = last_input r follow.2 in
      let v : Val = given.last in
      let step = made_step d r (take (length d.inputs) r.inputs) v s e qs ms follow.2 given.whole given.long
      (follow.0 ∙ at) long copies_long in
      let b : Row = step.base in
      let i_now : Val = either e v in
      let saving_now : Val = value_and v (value_not e) in
      let as_long : length s ≡ length qs = long ∙ sym copies_long in
      let many_too : length b.bad ≡ length ms = bad_length d b step.is_row ∙ sym many in
      let rest = walk property rs row behind r.next vs b.next i_now (kept_values saving_now s qs)
      (noted_values i_now b.bad ms) follow.3 step.next (next_length d b step.is_row)
      (kept_long saving_now s qs as_long ∙ copies_long) (noted_long i_now b.bad ms many_too ∙ many)
      (All-tail IsHeld r rs held) bad in
      let held_now : IsHeld b =
      subst (λ (cs : List Val). All IsOne cs) (sym step.constraints) (All-head IsHeld r rs held) in
      record {
        rows = b ∷ rest.rows;
        follow = (step.state, step.inputs ∙ ap (take (length d.inputs)) follow.1, step.is_row, rest.follow);
        held = All-cons IsHeld b rest.rows held_now rest.held;
        known = rest.known;
        ends = ends_before s v e qs as_long ms b rest.rows rest.known rest.ends;
      }

-- ---- how such a run starts

record IsCut (R : Reset → Val → Type 0) (xs ys : List Reset) (n : ℕ) (zs : List Val) : Type 0 where
  pub whole : zs ≡ take n zs ++ drop n zs
  pub first_part : AllZip R xs (take n zs)
  pub second_part : AllZip R ys (drop n zs)

cut : (R : Reset → Val → Type 0) (xs ys : List Reset) (n : ℕ) (zs : List Val) → n ≡ length xs → AllZip R (xs ++ ys) zs
    → IsCut R xs ys n zs
cut R [] ys zero zs many all = record { whole = refl; first_part = tt; second_part = all }
cut R [] ys (suc n) zs many all = absurd (omega (arith, many))
cut R (x ∷ xs) ys zero zs many all = absurd (omega (arith, many))
cut R (x ∷ xs) ys (suc n) [] many all = absurd all
cut R (x ∷ xs) ys (suc n) (z ∷ zs) many all =
    let rest = cut R xs ys n zs (omega (arith, many)) all.1 in
    record {
      whole = ap (λ (vs : List Val). z ∷ vs) rest.whole;
      first_part = (all.0, rest.first_part);
      second_part = rest.second_part;
    }

none_met : (v m : ℕ) (gs : List ℕ) (ms : List Val) → AllZip MayStartAt (map (λ (l : Latch). l.reset) (noting v m gs)) ms
    → (k : ℕ) → ¬ (get_or ms k Zero ≡ One)
none_met v m [] [] starts k is = cc
none_met v m [] (x ∷ xs) starts k is = absurd starts
none_met v m (g ∷ gs) [] starts k is = absurd starts
none_met v m (g ∷ gs) (x ∷ xs) starts zero is = let both : Zero ≡ One = sym starts.0 ∙ is in cc
none_met v m (g ∷ gs) (x ∷ xs) starts (suc k) is = none_met (v + 2) (m + 1) gs xs starts.1 k is

pub many_copies : (v q : ℕ) (xs : List ℕ) → length (copying v q xs) ≡ length xs
many_copies v q [] = refl
many_copies v q (x ∷ xs) = ap suc (many_copies (v + 3) (q + 1) xs)

pub many_notes : (v m : ℕ) (gs : List ℕ) → length (noting v m gs) ≡ length gs
many_notes v m [] = refl
many_notes v m (g ∷ gs) = ap suc (many_notes (v + 2) (m + 1) gs)

-- a first state of the circuit with a loop
record IsStart (d : Circuit) (state : List Val) : Type 0 where
  pub copies : List Val
  pub ms : List Val
  pub starts : IsFirstState d (take (length d.latches) state)
  pub is : state ≡ take (length d.latches) state ++ (Zero ∷ (copies ++ ms))
  pub copies_long : length copies ≡ length d.latches
  pub many : length ms ≡ length d.bad
  pub none : (k : ℕ) → ¬ (get_or ms k Zero ≡ One)

pub resets_are : (d : Circuit) → map (λ (l : Latch). l.reset) (with_loop d).latches
    ≡ map (λ (l : Latch). l.reset) d.latches
    ++ (resets.Zero
    ∷ (map (λ (l : Latch). l.reset) (copying (first_copied d) (first_copy d) (latch_variables d))
    ++ map (λ (l : Latch). l.reset) (noting (first_noted d) (first_met d) d.bad)))
resets_are d =
    map-append (λ (l : Latch). l.reset) d.latches (new_latches d)
    ∙ ap (λ (rs : List Reset). map (λ (l : Latch). l.reset) d.latches ++ (resets.Zero ∷ rs))
    (map-append (λ (l : Latch). l.reset) (copying (first_copied d) (first_copy d) (latch_variables d))
    (noting (first_noted d) (first_met d) d.bad))

head_zero : (rs : List Reset) (vs : List Val) → AllZip MayStartAt (resets.Zero ∷ rs) vs
    → (ws : List Val) × (vs ≡ Zero ∷ ws) × AllZip MayStartAt rs ws
head_zero rs [] all = absurd all
head_zero rs (v ∷ vs) all = (vs, ap (λ (x : Val). x ∷ vs) all.0, all.1)

start_of : (d : Circuit) (state : List Val) → IsFirstState (with_loop d) state → IsStart d state
start_of d state starts =
    let own = map (λ (l : Latch). l.reset) d.latches in
    let theirs = map (λ (l : Latch). l.reset) (copying (first_copied d) (first_copy d) (latch_variables d)) in
    let goals_too = map (λ (l : Latch). l.reset) (noting (first_noted d) (first_met d) d.bad) in
    let all : AllZip MayStartAt (own ++ (resets.Zero ∷ (theirs ++ goals_too))) state =
    subst (λ (rs : List Reset). AllZip MayStartAt rs state) (resets_are d) starts in
    let outer = cut MayStartAt own (resets.Zero ∷ (theirs ++ goals_too)) (length d.latches) state
    (sym (length-map d.latches (λ (l : Latch). l.reset))) all in
    let middle = head_zero (theirs ++ goals_too) (drop (length d.latches) state) outer.second_part in
    let n : length d.latches ≡ length theirs =
    sym (length-map (copying (first_copied d) (first_copy d) (latch_variables d)) (λ (l : Latch). l.reset)
    ∙ many_copies (first_copied d) (first_copy d) (latch_variables d) ∙ length-map d.latches (λ (l : Latch). l.var)) in
    let inner = cut MayStartAt theirs goals_too (length d.latches) middle.0 n middle.2 in
    record {
      copies = take (length d.latches) middle.0;
      ms = drop (length d.latches) middle.0;
      starts = outer.first_part;
      is = outer.whole
          ∙ ap (λ (vs : List Val). take (length d.latches) state ++ vs)
          (middle.1 ∙ ap (λ (vs : List Val). Zero ∷ vs) inner.whole);
      copies_long = AllZip-long MayStartAt theirs (take (length d.latches) middle.0) inner.first_part ∙ sym n;
      many = AllZip-long MayStartAt goals_too (drop (length d.latches) middle.0) inner.second_part
          ∙ length-map (noting (first_noted d) (first_met d) d.bad) (λ (l : Latch). l.reset)
          ∙ many_notes (first_noted d) (first_met d) d.bad;
      none = none_met (first_noted d) (first_met d) d.bad (drop (length d.latches) middle.0) inner.second_part;
    }

lasso_at : (goals : ℕ) (s qs ms : List Val) (rows : List Row) → All IsHeld rows
    → ((k : ℕ) → ¬ (get_or ms k Zero ≡ One)) → Ends goals s Zero qs ms rows
    → (start : ℕ) × IsLassoAt goals s rows start
lasso_at goals s qs ms rows held none (inl before) = let clash : Zero ≡ One = before.0 in cc
lasso_at goals s qs ms rows held none (inr ends) =
    let loop = ends.1 in (
      length loop.stem,
      record {
        stem = loop.stem;
        turn = loop.turn;
        turns = loop.turns;
        parted = loop.parted;
        place = refl;
        closed = loop.there;
        held = held;
        met = λ goal below. elim (loop.met goal below) [
          | inl is ↦ absurd (none goal is)
          | inr met ↦ met
        ];
      },
    )

pub confirmed_means_lasso : ConfirmedMeansLasso
confirmed_means_lasso c property claim step verdict =
    let d : Circuit = with_goals property c in
    let is = verdict.is_verdict.confirmed in
    let starts = start_of d claim.first verdict.trace.0 in
    let s : List Val = take (length d.latches) claim.first in
    let follow : Follow (with_loop d) claim.first claim.steps (is.before ++ (is.row ∷ is.behind)) =
    subst (λ (rs : List Row). Follow (with_loop d) claim.first claim.steps rs) is.parted verdict.trace.1 in
    let long : length s ≡ length d.latches =
    AllZip-long MayStartAt (map (λ (l : Latch). l.reset) d.latches) s starts.starts
    ∙ length-map d.latches (λ (l : Latch). l.reset) in
    let ran = walk d claim.property is.before is.row is.behind claim.first claim.steps s Zero starts.copies starts.ms
    follow starts.is long starts.copies_long starts.many is.held is.is_bad in
    let lasso = lasso_at (length d.bad) s starts.copies starts.ms ran.rows ran.held starts.none ran.ends in
    let there : Follow d s (map (take (length d.inputs)) (take step claim.steps)) ran.rows =
    subst (λ (n : ℕ). Follow d s (map (take (length d.inputs)) (take n claim.steps)) ran.rows) (sym is.place) ran.follow
    in
    (lasso.0, record { rows = ran.rows; trace = (starts.starts, there); lasso = lasso.1 })
