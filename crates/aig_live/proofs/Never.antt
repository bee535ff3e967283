-- A fair run leads the circuit with a loop to its bad state, since among enough states, with all goals met between any
-- two, two are the same.
use Rattle.std.proofs.Common.{◌≡◌, ◌≢◌, ◌+◌, ◌-◌, ◌*◌, ◌<◌, ◌≤◌, ◌++◌, ◌∙◌, ℕ, zero, suc, List, [], ◌∷◌, ap, ap₂, arith}
use Rattle.std.proofs.Common.{get_or, inl, inr, length, map, refl, slice_index_or, subst, sym}
use Rattle.std.specs.List.{All, AllByRecursion, AllZip}
use Rattle.std.proofs.lemmas.Bool.{cases_lt}
use Rattle.std.proofs.lemmas.List.{length-append, length-map}
use Rattle.std.proofs.lemmas.List.Elements.{All-cons, All-nil}
use Rattle.std.proofs.lemmas.Slice.Zip.{AllZip-long}
use Rattle.aig_circuit.specs.declared.circuit.Circuit.{Circuit}
use Rattle.aig_circuit.specs.declared.circuit.Latch.{Latch}
use Rattle.aig_circuit.specs.declared.circuit.Reset.{Reset}
use Rattle.aig_circuit.specs.declared.circuit.Reset.TheVariants as resets
use Rattle.aig_circuit.specs.declared.value.Val.{Val}
use Rattle.aig_circuit.specs.declared.value.Val.TheVariants.{Zero, One, X}
use Rattle.aig_circuit.specs.Values.{value_and, value_not}
use Rattle.aig_circuit.specs.Wellformed.{AreDistinct, IsAmong, IsWellFormed}
use Rattle.aig_circuit.proofs.Checking.{at_most_below}
use Rattle.aig_meaning.specs.Completion.{RowStays, Stays}
use Rattle.aig_meaning.specs.Meaning.{IsRow, Row, latch_variables, next_literals}
use Rattle.aig_meaning.specs.Trace.{Follow, IsFirstState, IsTrace, MayStartAt}
use Rattle.aig_meaning.proofs.Related.{known_next}
use Rattle.aig_meaning.proofs.Traces.{bad_length, inputs_length, one_row, one_trace, row_stays, state_length}
use Rattle.aig_cnf.proofs.Existing.{IsSure}
use Rattle.aig_unroll.specs.SideBySide.{and_all}
use Rattle.aig_unroll.specs.Unrolled.{resets_of}
use Rattle.aig_reach.proofs.Setting.{all_stay, are_sure, sure, sure_starts}
use Rattle.aig_invariant.proofs.Kept.{all_sure, one_kept, ones_kept}
use Rattle.aig_witness.specs.declared.verdict.Verdict.{Verdict}
use Rattle.aig_witness.specs.declared.verdict.Verdict.TheVariants.{Confirmed, NotConfirmed}
use Rattle.aig_witness.specs.Witness.{Claim, IsBad, IsConfirmedAt, IsHeld, IsVerdict}
use Rattle.aig_witness.proofs.Verdicts.{claims_have_files, one_verdict}
use Rattle.aig_lasso.specs.Endless.{IsFairRun}
use Rattle.aig_lasso.specs.Goals.{with_goals}
use Rattle.aig_lasso.specs.Laws.{GoesRound}
use Rattle.aig_lasso.proofs.Round.{lassos_are_fair_runs}
use Rattle.aig_live.specs.Laws.{LassosAreConfirmed, LivenessIsSafety, NeverMeansNoFairRun, lasso_of}
use Rattle.aig_live.specs.Values.{either, here_value, kept_values, noted_values, same_values}
use Rattle.aig_live.specs.WithLoop.{copying, first_copied, first_copy, first_met, first_noted, noting, save, with_loop}
use Rattle.aig_live.proofs.Back.{IsOne, confirmed_means_lasso, kept_long, kept_one, kept_zero, noted_long, resets_are}
use Rattle.aig_live.proofs.Formed.{goals_within, made_is_well_formed}
use Rattle.aig_live.proofs.Made.{IsStep, made_step}

-- ---- a fair run without x

record IsSureRun (d : Circuit) (rows : ℕ → Row) : Type 0 where
  pub fair : IsFairRun d rows
  pub known : (t : ℕ) → AllByRecursion IsSure (rows t).state

module _ (d : Circuit) (formed : IsWellFormed d) (rows : ℕ → Row) (fair : IsFairRun d rows) where
  record IsKeptRow (row : Row) (state : List Val) : Type 0 where
    pub kept : Row
    pub at : kept.state ≡ state
    pub is_row : IsRow d kept
    pub stays : RowStays row kept
    pub known : AllByRecursion IsSure kept.next

  kept_from : (row : Row) (state : List Val) → IsRow d row → AllZip Stays row.state state → AllByRecursion IsSure state
      → IsKeptRow row state
  kept_from row state is stay known =
      let given : List Val = map sure row.inputs in
      let one = one_row d state given formed (AllZip-long Stays row.state state stay ∙ state_length d row is)
      (length-map row.inputs sure ∙ inputs_length d row is) in
      let kept : Row = one.0 in
      let shown = one.3 in
      record {
        kept = kept;
        at = one.1;
        is_row = shown;
        stays = row_stays d formed row kept (subst (λ (s : List Val). AllZip Stays row.state s) (sym one.1) stay)
            (subst (λ (s : List Val). AllZip Stays row.inputs s) (sym one.2) (all_stay row.inputs)) is shown;
        known = subst (AllByRecursion IsSure) (sym shown.1.next_shown)
            (all_sure d formed kept.state kept.inputs shown.0 shown.1.assigned
            (subst (AllByRecursion IsSure) (sym one.1) known)
            (subst (AllByRecursion IsSure) (sym one.2) (are_sure row.inputs)) (next_literals d) (known_next d formed));
      }

  record IsThere (t : ℕ) : Type 0 where
    pub state : List Val
    pub known : AllByRecursion IsSure state
    pub row : IsKeptRow (rows t) state

  abbrev there : (t : ℕ) → IsThere t
  there zero = record {
    state = map sure (rows 0).state;
    known = are_sure (rows 0).state;
    row = kept_from (rows 0) (map sure (rows 0).state) (fair.endless.each 0) (all_stay (rows 0).state)
        (are_sure (rows 0).state);
  }
  there (suc t) = record {
    state = (there t).row.kept.next;
    known = (there t).row.known;
    row = kept_from (rows (suc t)) (there t).row.kept.next (fair.endless.each (suc t))
        (subst (λ (s : List Val). AllZip Stays s (there t).row.kept.next) (sym (fair.endless.goes_on t))
        (there t).row.stays.next) (there t).row.known;
  }

  abbrev kept_rows : ℕ → Row
  kept_rows t = (there t).row.kept

  sure_run : IsSureRun d kept_rows
  sure_run = record {
    fair = record {
      endless = record {
        starts = subst (λ (s : List Val). IsFirstState d s) (sym (there 0).row.at)
            (sure_starts (resets_of d) (rows 0).state fair.endless.starts);
        each = λ t. (there t).row.is_row;
        goes_on = λ t. (there (suc t)).row.at;
      };
      held = λ t.
          ones_kept (rows t).constraints (kept_rows t).constraints (fair.held t) (there t).row.stays.constraints;
      recurrent = λ goal below from.
          let r = fair.recurrent goal below from in
          (r.0, r.1, one_kept (rows r.0).bad (kept_rows r.0).bad goal (there r.0).row.stays.bad r.2);
    };
    known = λ t. subst (AllByRecursion IsSure) (sym (there t).row.at) (there t).known;
  }

-- ---- codes of states

abbrev bit : Val → ℕ
bit Zero = 0
bit One = 1
bit X = 0

abbrev code : List Val → ℕ
code [] = 0
code (v ∷ vs) = bit v + 2 * code vs

abbrev power : ℕ → ℕ
power zero = 1
power (suc n) = 2 * power n

bit_below : (v : Val) → bit v < 2
bit_below Zero = omega arith
bit_below One = omega arith
bit_below X = omega arith

code_below : (n : ℕ) (vs : List Val) → length vs ≡ n → code vs < power n
code_below zero [] long = omega arith
code_below zero (v ∷ vs) long = absurd (omega (arith, long))
code_below (suc n) [] long = absurd (omega (arith, long))
code_below (suc n) (v ∷ vs) long =
    let rest = code_below n vs (omega (arith, long)) in omega (arith, bit_below v, rest)

code_same : (vs ws : List Val) → length vs ≡ length ws → AllByRecursion IsSure vs → AllByRecursion IsSure ws
    → code vs ≡ code ws → vs ≡ ws
code_same [] [] long sure_v sure_w same = refl
code_same [] (w ∷ ws) long sure_v sure_w same = absurd (omega (arith, long))
code_same (v ∷ vs) [] long sure_v sure_w same = absurd (omega (arith, long))
code_same (Zero ∷ vs) (Zero ∷ ws) long sure_v sure_w same =
    ap (λ (xs : List Val). Zero ∷ xs)
    (code_same vs ws (omega (arith, long)) sure_v.1 sure_w.1 (omega (arith, same)))
code_same (Zero ∷ vs) (One ∷ ws) long sure_v sure_w same = absurd (omega (arith, same))
code_same (One ∷ vs) (Zero ∷ ws) long sure_v sure_w same = absurd (omega (arith, same))
code_same (One ∷ vs) (One ∷ ws) long sure_v sure_w same =
    ap (λ (xs : List Val). One ∷ xs)
    (code_same vs ws (omega (arith, long)) sure_v.1 sure_w.1 (omega (arith, same)))
code_same (X ∷ vs) (w ∷ ws) long sure_v sure_w same = absurd sure_v.0
code_same (Zero ∷ vs) (X ∷ ws) long sure_v sure_w same = absurd sure_w.0
code_same (One ∷ vs) (X ∷ ws) long sure_v sure_w same = absurd sure_w.0

-- of states without end, each as long, two are the same
module _ (size : ℕ) (f : ℕ → List Val) (long : (i : ℕ) → length (f i) ≡ size)
    (known : (i : ℕ) → AllByRecursion IsSure (f i)) (none : (i j : ℕ) → i < j → ¬ (f i ≡ f j)) where
  abbrev codes : ℕ → ℕ → List ℕ
  codes i zero = []
  codes i (suc n) = code (f i) ∷ codes (suc i) n

  many_codes : (i n : ℕ) → length (codes i n) ≡ n
  many_codes i zero = refl
  many_codes i (suc n) = ap suc (many_codes (suc i) n)

  codes_below : (i n : ℕ) → AllByRecursion (λ (x : ℕ). x < power size) (codes i n)
  codes_below i zero = tt
  codes_below i (suc n) = (code_below size (f i) (long i), codes_below (suc i) n)

  in_codes : (x i n : ℕ) → IsAmong x (codes i n) → (j : ℕ) × (i ≤ j) × (x ≡ code (f j))
  in_codes x i zero among = absurd among
  in_codes x i (suc n) (inl is) = (i, omega arith, is)
  in_codes x i (suc n) (inr later) =
      let there_too = in_codes x (suc i) n later in (there_too.0, omega (arith, there_too.1), there_too.2)

  codes_distinct : (i n : ℕ) → AreDistinct (codes i n)
  codes_distinct i zero = tt
  codes_distinct i (suc n) = (
    λ among.
        let twin = in_codes (code (f i)) (suc i) n among in
        none i twin.0 (omega (arith, twin.1))
        (code_same (f i) (f twin.0) (long i ∙ sym (long twin.0)) (known i) (known twin.0) twin.2),
    codes_distinct (suc i) n,
  )

  too_many : ⊥
  too_many =
      let few = at_most_below (power size) (codes 0 (suc (power size))) (codes_distinct 0 (suc (power size)))
      (codes_below 0 (suc (power size))) in
      absurd (omega (arith, few, many_codes 0 (suc (power size))))

-- ---- values

either_second : (x : Val) → either x One ≡ One
either_second Zero = refl
either_second One = refl
either_second X = refl

all_ones : (held : Val) (xs : List Val) → held ≡ One → AllByRecursion IsOne xs → and_all held xs ≡ One
all_ones held [] is ones = is
all_ones held (x ∷ xs) is ones = all_ones (value_and held x) xs (ap₂ value_and is ones.0) ones.1

same_ones : (xs : List Val) → AllByRecursion IsSure xs → AllByRecursion IsOne (same_values xs xs)
same_ones [] known = tt
same_ones (Zero ∷ xs) known = (refl, same_ones xs known.1)
same_ones (One ∷ xs) known = (refl, same_ones xs known.1)
same_ones (X ∷ xs) known = absurd known.0

here_is_one : (xs : List Val) → AllByRecursion IsSure xs → here_value xs xs ≡ One
here_is_one xs known = all_ones One (same_values xs xs) refl (same_ones xs known)

noted_keeps : (i : Val) (gs ms : List Val) (k : ℕ) → length gs ≡ length ms → get_or ms k Zero ≡ One
    → get_or (noted_values i gs ms) k Zero ≡ One
noted_keeps i [] [] k long is = is
noted_keeps i [] (m ∷ ms) k long is = absurd (omega (arith, long))
noted_keeps i (g ∷ gs) [] k long is = absurd (omega (arith, long))
noted_keeps i (g ∷ gs) (m ∷ ms) zero long is =
    ap (λ (x : Val). either (value_and i g) x) is ∙ either_second (value_and i g)
noted_keeps i (g ∷ gs) (m ∷ ms) (suc k) long is = noted_keeps i gs ms k (omega (arith, long)) is

noted_now : (i : Val) (gs ms : List Val) (k : ℕ) → length gs ≡ length ms → i ≡ One → get_or gs k Zero ≡ One
    → get_or (noted_values i gs ms) k Zero ≡ One
noted_now i [] ms k long one is = cc
noted_now i (g ∷ gs) [] k long one is = absurd (omega (arith, long))
noted_now i (g ∷ gs) (m ∷ ms) zero long one is = ap (λ (x : Val). either x m) (ap₂ value_and one is)
noted_now i (g ∷ gs) (m ∷ ms) (suc k) long one is = noted_now i gs ms k (omega (arith, long)) one is

ones_each : (ms : List Val) → ((k : ℕ) → k < length ms → get_or ms k Zero ≡ One) → AllByRecursion IsOne ms
ones_each [] each = tt
ones_each (m ∷ ms) each = (each 0 (omega arith), ones_each ms (λ k below. each (suc k) (omega (arith, below))))

-- ---- points of a fair run between which each goal is met

module _ (d : Circuit) (rows : ℕ → Row) (fair : IsFairRun d rows) where
  abbrev goals : ℕ
  goals = length d.bad

  -- behind a step, a step up to which so many goals are met
  record IsCovered (n from : ℕ) : Type 0 where
    pub till : ℕ
    pub later : from < till
    pub met : (k : ℕ) → k < n → (t : ℕ) × (from ≤ t) × (t < till) × IsBad k (rows t)

  cover : (n : ℕ) → n ≤ length d.bad → (from : ℕ) → IsCovered n from
  cover zero few from = record { till = suc from; later = omega arith; met = λ k below. absurd (omega (arith, below)) }
  cover (suc n) few from =
      let rest = cover n (omega (arith, few)) from in
      let one = fair.recurrent n (omega (arith, few)) from in
      record {
        till = rest.till + suc one.0;
        later = omega (arith, rest.later);
        met = λ k below. elim (cases_lt k n) [
          | inl less ↦
              let there_too = rest.met k less in
              (there_too.0, there_too.1, omega (arith, there_too.2), there_too.3)
          | inr not_less ↦
              let same : n ≡ k = omega (arith, below, not_less) in
              (one.0, one.1, omega arith, subst (λ (j : ℕ). IsBad j (rows one.0)) same one.2)
        ];
      }

  abbrev covered : (from : ℕ) → IsCovered (length d.bad) from
  covered from = cover (length d.bad) (omega arith) from

  abbrev point : ℕ → ℕ
  point zero = 0
  point (suc i) = (covered (point i)).till

  ascending : (i j : ℕ) → i < j → point i < point j
  ascending i zero less = absurd (omega (arith, less))
  ascending i (suc j) less = elim (cases_lt i j) [
    | inl before ↦ let so_far = ascending i j before in omega (arith, so_far, (covered (point j)).later)
    | inr not_before ↦
        let same : j ≡ i = omega (arith, less, not_before) in
        subst (λ (k : ℕ). point k < point (suc j)) same (covered (point j)).later
  ]

  not_before_next : (i j : ℕ) → i < j → point (suc i) ≤ point j
  not_before_next i j less = elim (cases_lt (suc i) j) [
    | inl before ↦ let so_far = ascending (suc i) j before in omega (arith, so_far)
    | inr not_before ↦
        let same : j ≡ suc i = omega (arith, less, not_before) in
        subst (λ (k : ℕ). point (suc i) ≤ point k) (sym same) (omega arith)
  ]

  met_between : (i j : ℕ) → i < j → (k : ℕ) → k < length d.bad
      → (t : ℕ) × (point i ≤ t) × (t < point j) × IsBad k (rows t)
  met_between i j less k below =
      let there_too = (covered (point i)).met k below in
      let till = not_before_next i j less in
      (there_too.0, there_too.1, omega (arith, there_too.2, till), there_too.3)

-- ---- a loop is closed

zip_append : (R : Reset → Val → Type 0) (xs ys : List Reset) (zs ws : List Val) → AllZip R xs zs → AllZip R ys ws
    → AllZip R (xs ++ ys) (zs ++ ws)
zip_append R [] ys [] ws first second = second
zip_append R [] ys (z ∷ zs) ws first second = absurd first
zip_append R (x ∷ xs) ys [] ws first second = absurd first
zip_append R (x ∷ xs) ys (z ∷ zs) ws first second = (first.0, zip_append R xs ys zs ws first.1 second)

abbrev no_mets : List ℕ → List Val
no_mets [] = []
no_mets (g ∷ gs) = Zero ∷ no_mets gs

copy_starts : (v q : ℕ) (xs : List ℕ) → AllZip MayStartAt (map (λ (l : Latch). l.reset) (copying v q xs)) (no_mets xs)
copy_starts v q [] = tt
copy_starts v q (x ∷ xs) = (refl, copy_starts (v + 3) (q + 1) xs)

note_starts : (v m : ℕ) (gs : List ℕ) → AllZip MayStartAt (map (λ (l : Latch). l.reset) (noting v m gs)) (no_mets gs)
note_starts v m [] = tt
note_starts v m (g ∷ gs) = (refl, note_starts (v + 2) (m + 1) gs)

no_mets_many : (gs : List ℕ) → length (no_mets gs) ≡ length gs
no_mets_many [] = refl
no_mets_many (g ∷ gs) = ap suc (no_mets_many gs)

rows_same : (d : Circuit) → IsWellFormed d → (r s : Row) → IsRow d r → IsRow d s → r.state ≡ s.state
    → r.inputs ≡ s.inputs → r ≡ s
rows_same d formed r s is_r is_s states inputs =
    let one = one_row d s.state s.inputs formed (state_length d s is_s) (inputs_length d s is_s) in
    one.4 r states inputs is_r ∙ sym (one.4 s refl refl is_s)

-- the new input: 1 at this step alone
abbrev pulse : ℕ → ℕ → Val
pulse zero zero = One
pulse zero (suc t) = Zero
pulse (suc p) zero = Zero
pulse (suc p) (suc t) = pulse p t

pulse_there : (p : ℕ) → pulse p p ≡ One
pulse_there zero = refl
pulse_there (suc p) = pulse_there p

pulse_before : (p t : ℕ) → t < p → pulse p t ≡ Zero
pulse_before zero t less = absurd (omega (arith, less))
pulse_before (suc p) zero less = refl
pulse_before (suc p) (suc t) less = pulse_before p t (omega (arith, less))

pulse_behind : (p t : ℕ) → p < t → pulse p t ≡ Zero
pulse_behind zero zero less = absurd (omega (arith, less))
pulse_behind zero (suc t) less = refl
pulse_behind (suc p) zero less = absurd (omega (arith, less))
pulse_behind (suc p) (suc t) less = pulse_behind p t (omega (arith, less))

module _ (d : Circuit) (formed : IsWellFormed d) (formed_too : IsWellFormed (with_loop d)) (rows : ℕ → Row)
    (fair : IsFairRun d rows) (p q : ℕ) (sure_knot : AllByRecursion IsSure (rows p).state) (order : p < q) (same : (rows q).state ≡ (rows p).state)
    (between : (k : ℕ) → k < length d.bad → (t : ℕ) × (p ≤ t) × (t < q) × IsBad k (rows t)) where
  abbrev knot : List Val
  knot = (rows p).state

  long : (t : ℕ) → length (rows t).state ≡ length d.latches
  long t = state_length d (rows t) (fair.endless.each t)

  record IsGood (t : ℕ) (state : List Val) : Type 0 where
    pub e : Val
    pub qs : List Val
    pub ms : List Val
    pub is : state ≡ (rows t).state ++ (e ∷ (qs ++ ms))
    pub copies_long : length qs ≡ length d.latches
    pub many : length ms ≡ length d.bad
    pub before : t ≤ p → e ≡ Zero
    pub entered : p < t → e ≡ One
    pub copied : p < t → qs ≡ knot
    pub met : (k u : ℕ) → p ≤ u → u < t → IsBad k (rows u) → get_or ms k Zero ≡ One

  module _ (t : ℕ) (state : List Val) (good : IsGood t state) (r : Row) (at : r.state ≡ state)
      (given : r.inputs ≡ (rows t).inputs ++ (pulse p t ∷ [])) (is_row : IsRow (with_loop d) r) where
    abbrev v_now : Val
    v_now = pulse p t

    step : IsStep d r (rows t).inputs v_now (rows t).state good.e good.qs good.ms
    step =
        made_step d r (rows t).inputs v_now (rows t).state good.e good.qs good.ms is_row given
        (inputs_length d (rows t) (fair.endless.each t)) (at ∙ good.is) (long t) good.copies_long

    base_is : step.base ≡ rows t
    base_is = rows_same d formed step.base (rows t) step.is_row (fair.endless.each t) step.state step.inputs

    now_held : IsHeld r
    now_held =
        subst (λ (cs : List Val). All IsOne cs) (ap (λ (b : Row). b.constraints) (sym base_is) ∙ step.constraints)
        (fair.held t)

    abbrev i_now : Val
    i_now = either good.e v_now

    abbrev saving_now : Val
    saving_now = value_and v_now (value_not good.e)

    abbrev qs_next : List Val
    qs_next = kept_values saving_now (rows t).state good.qs

    as_long : length (rows t).state ≡ length good.qs
    as_long = long t ∙ sym good.copies_long

    inside_now : p ≤ t → i_now ≡ One
    inside_now reached = elim (cases_lt p t) [
      | inl before ↦ ap (λ (x : Val). either x v_now) (good.entered before)
      | inr not_before ↦
          let here_too : p ≡ t = omega (arith, reached, not_before) in
          let one : v_now ≡ One = ap (λ (u : ℕ). pulse p u) (sym here_too) ∙ pulse_there p in
          ap (λ (x : Val). either good.e x) one ∙ either_second good.e
    ]

    outside_now : t < p → i_now ≡ Zero
    outside_now less = ap₂ either (good.before (omega (arith, less))) (pulse_before p t less)

    copied_now : p ≤ t → qs_next ≡ knot
    copied_now reached = elim (cases_lt p t) [
      | inl before ↦
          let none : saving_now ≡ Zero = ap (λ (x : Val). value_and x (value_not good.e)) (pulse_behind p t before) in
          ap (λ (x : Val). kept_values x (rows t).state good.qs) none
          ∙ kept_zero (rows t).state good.qs as_long ∙ good.copied before
      | inr not_before ↦
          let here_too : p ≡ t = omega (arith, reached, not_before) in
          let one : v_now ≡ One = ap (λ (u : ℕ). pulse p u) (sym here_too) ∙ pulse_there p in
          let zero_too : good.e ≡ Zero = good.before (omega (arith, here_too)) in
          let some : saving_now ≡ One = ap₂ (λ (x y : Val). value_and x (value_not y)) one zero_too in
          ap (λ (x : Val). kept_values x (rows t).state good.qs) some
          ∙ kept_one (rows t).state good.qs as_long ∙ ap (λ (u : ℕ). (rows u).state) (sym here_too)
    ]

    as_many : length (rows t).bad ≡ length good.ms
    as_many = bad_length d (rows t) (fair.endless.each t) ∙ sym good.many

    met_next : (k u : ℕ) → p ≤ u → u < suc t → IsBad k (rows u)
        → get_or (noted_values i_now (rows t).bad good.ms) k Zero ≡ One
    met_next k u reached below bad = elim (cases_lt u t) [
      | inl before ↦ noted_keeps i_now (rows t).bad good.ms k as_many (good.met k u reached before bad)
      | inr not_before ↦
          let now : u ≡ t = omega (arith, below, not_before) in
          noted_now i_now (rows t).bad good.ms k as_many (inside_now (omega (arith, reached, now)))
          (subst (λ (j : ℕ). IsBad k (rows j)) now bad)
    ]

    good_next : IsGood (suc t) r.next
    good_next = record {
      e = i_now;
      qs = qs_next;
      ms = noted_values i_now (rows t).bad good.ms;
      is = step.next
          ∙ ap (λ (b : Row). b.next ++ (i_now ∷ (qs_next ++ noted_values i_now b.bad good.ms))) base_is
          ∙ ap (λ (s : List Val). s ++ (i_now ∷ (qs_next ++ noted_values i_now (rows t).bad good.ms)))
          (sym (fair.endless.goes_on t));
      copies_long = kept_long saving_now (rows t).state good.qs as_long ∙ good.copies_long;
      many = noted_long i_now (rows t).bad good.ms as_many ∙ good.many;
      before = λ below. outside_now (omega (arith, below));
      entered = λ below. inside_now (omega (arith, below));
      copied = λ below. copied_now (omega (arith, below));
      met = met_next;
    }

    bad_now : t ≡ q → IsBad 0 r
    bad_now last =
        let behind : p < t = omega (arith, order, last) in
        let e_one : good.e ≡ One = good.entered behind in
        let knotted : (rows t).state ≡ knot = ap (λ (u : ℕ). (rows u).state) last ∙ same in
        let here_too : here_value (rows t).state good.qs ≡ One =
        ap₂ here_value knotted (good.copied behind) ∙ here_is_one knot sure_knot in
        let all_met : AllByRecursion IsOne good.ms =
        ones_each good.ms (λ k below.
        let there_too = between k (omega (arith, below, good.many)) in
        good.met k there_too.0 there_too.1 (omega (arith, there_too.2, last)) there_too.3) in
        ap (λ (xs : List Val). get_or xs 0 Zero) step.bad
        ∙ all_ones One (good.e ∷ here_value (rows t).state good.qs ∷ good.ms) refl (e_one, (here_too, all_met))

  abbrev vector_at : ℕ → List Val
  vector_at t = (rows t).inputs ++ (pulse p t ∷ [])

  abbrev steps_from : ℕ → ℕ → List (List Val)
  steps_from t zero = vector_at t ∷ []
  steps_from t (suc n) = vector_at t ∷ steps_from (suc t) n

  vector_long : (t : ℕ) → length (vector_at t) ≡ length (with_loop d).inputs
  vector_long t =
      length-append (rows t).inputs (pulse p t ∷ [])
      ∙ ap (λ (n : ℕ). n + 1) (inputs_length d (rows t) (fair.endless.each t))
      ∙ sym (length-append d.inputs (save d ∷ []))

  steps_long : (t n : ℕ) → AllByRecursion (λ (v : List Val). length v ≡ length (with_loop d).inputs) (steps_from t n)
  steps_long t zero = (vector_long t, tt)
  steps_long t (suc n) = (vector_long t, steps_long (suc t) n)

  walk : (t n : ℕ) (state : List Val) (rs : List Row) → t + n ≡ q → IsGood t state
      → Follow (with_loop d) state (steps_from t n) rs → IsConfirmedAt 0 rs n
  walk t zero state [] till good follow = absurd follow
  walk t zero state (r ∷ x ∷ rs) till good follow = absurd follow.3
  walk t zero state (r ∷ []) till good follow = record {
    before = [];
    row = r;
    behind = [];
    parted = refl;
    place = refl;
    is_bad = bad_now t state good r follow.0 follow.1 follow.2 (omega (arith, till));
    holds = now_held t state good r follow.0 follow.1 follow.2;
    held = All-nil IsHeld;
  }
  walk t (suc n) state [] till good follow = absurd follow
  walk t (suc n) state (r ∷ rs) till good follow =
      let next_one = good_next t state good r follow.0 follow.1 follow.2 in
      let rest = walk (suc t) n r.next rs (omega (arith, till)) next_one follow.3 in
      record {
        before = r ∷ rest.before;
        row = rest.row;
        behind = rest.behind;
        parted = ap (λ (xs : List Row). r ∷ xs) rest.parted;
        place = ap suc rest.place;
        is_bad = rest.is_bad;
        holds = rest.holds;
        held = All-cons IsHeld r rest.before (now_held t state good r follow.0 follow.1 follow.2) rest.held;
      }

  abbrev first : List Val
  first = (rows 0).state ++ (Zero ∷ (no_mets (latch_variables d) ++ no_mets d.bad))

  abbrev loop_claim : Claim
  loop_claim = record { property = 0; first = first; steps = steps_from 0 q }

  starts : IsFirstState (with_loop d) first
  starts =
      subst (λ (rs : List Reset). AllZip MayStartAt rs first) (sym (resets_are d))
      (zip_append MayStartAt (map (λ (l : Latch). l.reset) d.latches)
      (resets.Zero
      ∷ (map (λ (l : Latch). l.reset) (copying (first_copied d) (first_copy d) (latch_variables d))
      ++ map (λ (l : Latch). l.reset) (noting (first_noted d) (first_met d) d.bad)))
      (rows 0).state (Zero ∷ (no_mets (latch_variables d) ++ no_mets d.bad)) fair.endless.starts (
        refl,
        zip_append MayStartAt
            (map (λ (l : Latch). l.reset) (copying (first_copied d) (first_copy d) (latch_variables d)))
            (map (λ (l : Latch). l.reset) (noting (first_noted d) (first_met d) d.bad)) (no_mets (latch_variables d))
            (no_mets d.bad) (copy_starts (first_copied d) (first_copy d) (latch_variables d))
            (note_starts (first_noted d) (first_met d) d.bad),
      ))

  good_first : IsGood 0 first
  good_first = record {
    e = Zero;
    qs = no_mets (latch_variables d);
    ms = no_mets d.bad;
    is = refl;
    copies_long = no_mets_many (latch_variables d) ∙ length-map d.latches (λ (l : Latch). l.var);
    many = no_mets_many d.bad;
    before = λ below. refl;
    entered = λ below. absurd (omega (arith, below));
    copied = λ below. absurd (omega (arith, below));
    met = λ k u reached below bad. absurd (omega (arith, below));
  }

  decided : (rs : List Row)
      → ((others : List Row) → IsTrace (with_loop d) first (steps_from 0 q) others → others ≡ rs)
      → IsConfirmedAt 0 rs q → (v : Verdict) → IsVerdict (with_loop d) loop_claim v
      → (n : ℕ) × (n ≤ q) × IsVerdict (with_loop d) loop_claim (Confirmed n)
  decided rs once confirmed (Confirmed n) is = elim (cases_lt q n) [
    | inl earlier ↦
        absurd (is.is_verdict.first q earlier
        (subst (λ (xs : List Row). IsConfirmedAt 0 xs q) (sym (once is.rows is.trace)) confirmed))
    | inr not_earlier ↦ (n, omega (arith, not_earlier), is)
  ]
  decided rs once confirmed NotConfirmed is =
      absurd (is.is_verdict q
      (subst (λ (xs : List Row). IsConfirmedAt 0 xs q) (sym (once is.rows is.trace)) confirmed))

  loop_is_confirmed : (claim : Claim) × (n : ℕ) × (n ≤ q) × IsVerdict (with_loop d) claim (Confirmed n)
  loop_is_confirmed =
      let one = one_trace (with_loop d) first (steps_from 0 q) formed_too starts (steps_long 0 q) in
      let confirmed = walk 0 q first one.0 (omega arith) good_first one.1.1 in
      let file = claims_have_files (with_loop d) loop_claim one.0 formed_too (omega arith) one.1 in
      let verdict = one_verdict (with_loop d) file.0 loop_claim formed_too file.1 in
      let at = decided one.0 one.2 confirmed verdict.0 verdict.1 in
      (loop_claim, at.0, at.1, at.2)

pub never_means_no_fair_run : NeverMeansNoFairRun
never_means_no_fair_run c property good room never rows fair =
    let d : Circuit = with_goals property c in
    let formed = goals_within c property good room in
    let formed_too = made_is_well_formed c property good room in
    let kept : ℕ → Row = kept_rows d formed rows fair in
    let run : IsSureRun d kept = sure_run d formed rows fair in
    let at = point d kept run.fair in
    too_many (length d.latches) (λ i. (kept (at i)).state)
    (λ i. state_length d (kept (at i)) (run.fair.endless.each (at i))) (λ i. run.known (at i))
    (λ i j less same.
    let confirmed = loop_is_confirmed d formed formed_too kept run.fair (at i) (at j) (run.known (at i))
    (ascending d kept run.fair i j less) (sym same) (met_between d kept run.fair i j less) in
    never confirmed.0 confirmed.1 confirmed.3)

-- ---- a lasso without x is such a loop

known_is_sure : (vs : List Val) → AllByRecursion (λ (v : Val). v ≢ X) vs → AllByRecursion IsSure vs
known_is_sure [] known = tt
known_is_sure (Zero ∷ vs) known = (tt, known_is_sure vs known.1)
known_is_sure (One ∷ vs) known = (tt, known_is_sure vs known.1)
known_is_sure (X ∷ vs) known = absurd (known.0 refl)

known_step : (steps : List (List Val))
    → AllByRecursion (λ (given : List Val). AllByRecursion (λ (v : Val). v ≢ X) given) steps
    → (t : ℕ) → t < length steps → AllByRecursion IsSure (slice_index_or steps t [])
known_step [] known t below = absurd (omega (arith, below))
known_step (given ∷ steps) known zero below = known_is_sure given known.0
known_step (given ∷ steps) known (suc t) below = known_step steps known.1 t (omega (arith, below))

module _ (d : Circuit) (formed : IsWellFormed d) (rows : ℕ → Row) (fair : IsFairRun d rows)
    (steps : List (List Val)) (start : ℕ) (round : GoesRound steps start rows)
    (sure_first : AllByRecursion IsSure (rows 0).state)
    (known : AllByRecursion (λ (given : List Val). AllByRecursion (λ (v : Val). v ≢ X) given) steps) where
  sure_state : (t : ℕ) → t ≤ length steps → AllByRecursion IsSure (rows t).state
  sure_state zero low = sure_first
  sure_state (suc t) low =
      let shown = fair.endless.each t in
      let given : AllByRecursion IsSure (rows t).inputs =
      subst (AllByRecursion IsSure) (sym (round.inputs t (omega (arith, low))))
      (known_step steps known t (omega (arith, low))) in
      subst (AllByRecursion IsSure) (sym (fair.endless.goes_on t ∙ shown.1.next_shown))
      (all_sure d formed (rows t).state (rows t).inputs shown.0 shown.1.assigned
      (sure_state t (omega (arith, low))) given (next_literals d) (known_next d formed))

  -- what is so at a step in the loop is so at one of its first round
  in_first_round : (k fuel t : ℕ) → t ≤ fuel → start ≤ t → IsBad k (rows t)
      → (u : ℕ) × (start ≤ u) × (u < length steps) × IsBad k (rows u)
  in_first_round k zero t low reached bad =
      (t, reached, omega (arith, low, reached, round.whole, round.some), bad)
  in_first_round k (suc fuel) t low reached bad = elim (cases_lt t (length steps)) [
    | inl early ↦ (t, reached, early, bad)
    | inr late ↦
        let behind : start + round.size ≤ t = omega (arith, late, round.whole) in
        let back : (t - round.size) + round.size ≡ t = omega (arith, behind) in
        let in_loop : start ≤ t - round.size = omega (arith, behind) in
        let same : rows (t - round.size) ≡ rows t = sym (round.again (t - round.size) in_loop) ∙ ap rows back in
        in_first_round k fuel (t - round.size) (omega (arith, low, behind, round.some)) in_loop
        (subst (IsBad k) (sym same) bad)
  ]

pub lassos_are_confirmed : LassosAreConfirmed
lassos_are_confirmed c claim start good room is without_x =
    let d : Circuit = with_goals claim.property c in
    let formed = goals_within c claim.property good room in
    let formed_too = made_is_well_formed c claim.property good room in
    let run = lassos_are_fair_runs c claim start is in
    let rows : ℕ → Row = run.0 in
    let fair : IsFairRun d rows = run.1 in
    let round : GoesRound claim.steps start rows = run.3 in
    let sure_first : AllByRecursion IsSure (rows 0).state =
    subst (AllByRecursion IsSure) (sym run.2) (known_is_sure claim.first without_x.0) in
    let sure_knot : AllByRecursion IsSure (rows start).state =
    sure_state d formed rows fair claim.steps start round sure_first without_x.1 start
    (omega (arith, round.whole)) in
    let same : (rows (length claim.steps)).state ≡ (rows start).state =
    ap (λ (t : ℕ). (rows t).state) (sym round.whole)
    ∙ ap (λ (r : Row). r.state) (round.again start (omega arith)) in
    loop_is_confirmed d formed formed_too rows fair start (length claim.steps) sure_knot
    (omega (arith, round.whole, round.some)) same
    (λ k below.
    let bad = fair.recurrent k below start in
    in_first_round d formed rows fair claim.steps start round sure_first without_x.1 k bad.0 bad.0
    (omega arith) bad.1 bad.2)

pub liveness_is_safety : LivenessIsSafety
liveness_is_safety c property good room = (
  never_means_no_fair_run c property good room,
  λ none claim step verdict.
      let lasso = confirmed_means_lasso c property claim step verdict in
      let fair = lassos_are_fair_runs c (lasso_of c property claim step) lasso.0 lasso.1 in
      none fair.0 fair.1,
)
