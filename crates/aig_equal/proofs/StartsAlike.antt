-- The same where uninitialised latches start alike.
use Rattle.std.proofs.Common.{◌≡◌, ◌↔◌, ◌≤◌, ◌+◌, ◌++◌, ◌∙◌, ◌∷◌, ◌⊎◌, ℕ, suc, List, [], ap}
use Rattle.std.proofs.Common.{ap₂, arith, inl, inr, length, map, refl, subst, sym, drop, take, ⊎_elim}
use Rattle.std.specs.List.{All, AllByRecursion, AllZip}
use Rattle.std.proofs.lemmas.List.{map-append, take-append-drop}
use Rattle.std.proofs.lemmas.List.Elements.{All-append, All-cons, All-head, All-nil, All-tail}
use Rattle.aig_circuit.specs.declared.circuit.Circuit.{Circuit}
use Rattle.aig_circuit.specs.declared.circuit.Latch.{Latch}
use Rattle.aig_circuit.specs.declared.circuit.Reset.{Reset}
use Rattle.aig_circuit.specs.declared.circuit.Reset.TheVariants as resets
use Rattle.aig_circuit.specs.declared.value.Val.{Val}
use Rattle.aig_circuit.specs.declared.value.Val.TheVariants.{Zero, One, X}
use Rattle.aig_circuit.specs.Values.{value_and, value_not}
use Rattle.aig_meaning.specs.Meaning.{Row}
use Rattle.aig_meaning.specs.Trace.{Follow, IsFirstState, IsTrace, MayStartAt}
use Rattle.aig_miter.specs.Both.{StayAlike, differ, seen}
use Rattle.aig_miter.specs.Parts.Comparable.{AreComparable}
use Rattle.aig_miter.specs.Miter.{plain_miter}
use Rattle.aig_miter.specs.Starts.{free_only, started_miter, started_row, started_rows, unequal, unequal_now}
use Rattle.aig_unroll.specs.Unrolled.{resets_of}
use Rattle.aig_miter.proofs.Started.{started_met, started_parted}
use Rattle.aig_miter.proofs.Traces.{first_parted, starts_parted}
use Rattle.aig_replay.specs.Finding.{hit_from}
use Rattle.aig_replay.proofs.FirstFound.{first_is_found}
use Rattle.aig_witness.specs.Witness.{IsBad, IsConfirmedAt, IsHeld}
use Rattle.aig_equal.specs.Alike.{AreAlikeFor, IsUnreachedFor, StartAlike}
use Rattle.aig_equal.proofs.Alike.{AreCompared, cut_follow, here, later as one_later, none_in, row_alike}
use Rattle.aig_equal.proofs.Alike.{row_fine, seen_length, take_few}
use Rattle.aig_equal.proofs.Alike.{up_to}

-- ---- constraints on the start

and_zero : (v : Val) → value_and v Zero ≡ Zero
and_zero Zero = refl
and_zero One = refl
and_zero X = refl

-- in a later step, or where no values differ, the constraints are 1
starts_held : (later : Val) (xs : List Val) → (later ≡ One) ⊎ AllByRecursion (λ x. x ≡ Zero) xs
    → All (λ (v : Val). v ≡ One) (map (λ (x : Val). value_not (unequal_now later x)) xs)
starts_held later [] so = All-nil (λ (v : Val). v ≡ One)
starts_held later (x ∷ xs) so =
    All-cons (λ (v : Val). v ≡ One) (value_not (unequal_now later x))
    (map (λ (y : Val). value_not (unequal_now later y)) xs)
    (⊎_elim (λ (e : later ≡ One). ap (λ (l : Val). value_not (value_and (value_not l) x)) e)
    (λ (all : AllByRecursion (λ y. y ≡ Zero) (x ∷ xs)).
    ap (λ (y : Val). value_not (value_and (value_not later) y)) all.0 ∙ ap value_not (and_zero (value_not later))) so)
    (starts_held later xs
    (⊎_elim (λ (e : later ≡ One). inl e) (λ (all : AllByRecursion (λ y. y ≡ Zero) (x ∷ xs)). inr all.1) so))

not_of_one : (v : Val) → value_not v ≡ One → v ≡ Zero
not_of_one Zero is = refl
not_of_one One is = cc
not_of_one X is = cc

-- in the first step they say that no values differ
starts_equal : (xs : List Val)
    → All (λ (v : Val). v ≡ One) (map (λ (x : Val). value_not (unequal_now Zero x)) xs)
    → AllByRecursion (λ x. x ≡ Zero) xs
starts_equal [] held = tt
starts_equal (x ∷ xs) held = (
  not_of_one x
      (All-head (λ (v : Val). v ≡ One) (value_not x) (map (λ (y : Val). value_not (unequal_now Zero y)) xs) held),
  starts_equal xs
      (All-tail (λ (v : Val). v ≡ One) (value_not x) (map (λ (y : Val). value_not (unequal_now Zero y)) xs) held),
)

held_front : (xs ys : List Val) → All (λ (v : Val). v ≡ One) (xs ++ ys) → All (λ (v : Val). v ≡ One) xs
held_front [] ys held = All-nil (λ (v : Val). v ≡ One)
held_front (x ∷ xs) ys held =
    All-cons (λ (v : Val). v ≡ One) x xs (All-head (λ (v : Val). v ≡ One) x (xs ++ ys) held)
    (held_front xs ys (All-tail (λ (v : Val). v ≡ One) x (xs ++ ys) held))

held_back : (xs ys : List Val) → All (λ (v : Val). v ≡ One) (xs ++ ys) → All (λ (v : Val). v ≡ One) ys
held_back [] ys held = held
held_back (x ∷ xs) ys held = held_back xs ys (All-tail (λ (v : Val). v ≡ One) x (xs ++ ys) held)

-- ---- runs

module _ (c d : Circuit) (fit : AreComparable c d) where
  alike : (f g : List Val) (later : Val) (vectors : List (List Val)) (rs ss : List Row) → Follow c f vectors rs
      → Follow d g vectors ss
      → (later ≡ One) ⊎ AllByRecursion (λ x. x ≡ Zero) (differ (free_only (resets_of c) f) (free_only (resets_of d) g))
      → ((p at : ℕ) → ¬ IsConfirmedAt p (started_rows c d later rs ss) at) → StayAlike rs ss
  alike f g later [] [] [] follow follow_too so none = tt
  alike f g later [] [] (s ∷ ss) follow follow_too so none = absurd follow_too
  alike f g later [] (r ∷ rs) ss follow follow_too so none = absurd follow
  alike f g later (v ∷ vs) [] ss follow follow_too so none = absurd follow
  alike f g later (v ∷ vs) (r ∷ rs) [] follow follow_too so none = absurd follow_too
  alike f g later (v ∷ vs) (r ∷ rs) (s ∷ ss) follow follow_too so none =
      let e : length (seen r) ≡ length (seen s) =
      seen_length c r follow.2 ∙ sym fit.seen ∙ sym (seen_length d s follow_too.2) in
      let row = started_row c d later r s in
      let rows = started_rows c d One rs ss in
      let states : differ (free_only (resets_of c) f) (free_only (resets_of d) g) ≡ unequal c d r s =
      ap₂ (λ (x y : List Val). differ (free_only (resets_of c) x) (free_only (resets_of d) y)) (sym follow.0)
      (sym follow_too.0) in
      let started = starts_held later (unequal c d r s)
      (subst (λ (xs : List Val). (later ≡ One) ⊎ AllByRecursion (λ x. x ≡ Zero) xs) states so) in
      λ holds.
      let held : IsHeld row =
      All-append (λ (v : Val). v ≡ One) r.constraints
      (map (λ (x : Val). value_not (unequal_now later x)) (unequal c d r s)) holds started in (
        row_alike r s e (λ i bad. none i 0 (here i row rows held bad)),
        alike r.next s.next One vs rs ss follow.3 follow_too.3 (inl refl)
            (λ p at is. none p (suc at) (one_later p row rows at held is)),
      )

  -- rows that stay alike have no bad state while the constraints hold
  fine : (p : ℕ) (later : Val) (before : List Row) (row : Row) (behind rs ss : List Row)
      → started_rows c d later rs ss ≡ before ++ row ∷ behind
      → StayAlike rs ss → All IsHeld before → IsHeld row → ¬ IsBad p row
  fine p later [] row behind [] ss is stay held holds bad = cc
  fine p later [] row behind (r ∷ rs) [] is stay held holds bad = absurd stay
  fine p later [] row behind (r ∷ rs) (s ∷ ss) is stay held holds bad =
      let same : started_row c d later r s ≡ row = cc in
      let starts = map (λ (x : Val). value_not (unequal_now later x)) (unequal c d r s) in
      row_fine r s (stay (held_front r.constraints starts (subst IsHeld (sym same) holds))).0 p
      (subst (IsBad p) (sym same) bad)
  fine p later (b ∷ bs) row behind [] ss is stay held holds bad = cc
  fine p later (b ∷ bs) row behind (r ∷ rs) [] is stay held holds bad = absurd stay
  fine p later (b ∷ bs) row behind (r ∷ rs) (s ∷ ss) is stay held holds bad =
      let same : started_row c d later r s ≡ b = cc in
      let rest : started_rows c d One rs ss ≡ bs ++ row ∷ behind = cc in
      let starts = map (λ (x : Val). value_not (unequal_now later x)) (unequal c d r s) in
      fine p One bs row behind rs ss rest
      (stay (held_front r.constraints starts (subst IsHeld (sym same) (All-head IsHeld b bs held)))).1
      (All-tail IsHeld b bs held) holds bad

  -- where a first row is held, the first states are equal
  first_held : (before : List Row) (row : Row) (behind rs ss : List Row) (f g : List Val) (vectors : List (List Val))
      → started_rows c d Zero rs ss ≡ before ++ row ∷ behind → Follow c f vectors rs → Follow d g vectors ss
      → All IsHeld before → IsHeld row → StartAlike c d f g
  first_held before row behind [] ss f g vectors is follow follow_too held holds = empty before is where
    empty : (before : List Row) → [] ≡ before ++ row ∷ behind → StartAlike c d f g
    empty [] e = cc
    empty (b ∷ bs) e = cc
  first_held before row behind (r ∷ rs) [] f g vectors is follow follow_too held holds = empty before is where
    empty : (before : List Row) → [] ≡ before ++ row ∷ behind → StartAlike c d f g
    empty [] e = cc
    empty (b ∷ bs) e = cc
  first_held before row behind (r ∷ rs) (s ∷ ss) f g [] is follow follow_too held holds = absurd follow
  first_held before row behind (r ∷ rs) (s ∷ ss) f g (v ∷ vs) is follow follow_too held holds =
      let first = first_row before is held holds in
      let equal = starts_equal (unequal c d r s)
      (held_back r.constraints (map (λ (x : Val). value_not (unequal_now Zero x)) (unequal c d r s)) first) in
      subst (AllByRecursion (λ x. x ≡ Zero))
      (ap₂ (λ (x y : List Val). differ (free_only (resets_of c) x) (free_only (resets_of d) y)) follow.0 follow_too.0)
      equal where
        first_row : (before : List Row) → started_row c d Zero r s ∷ started_rows c d One rs ss ≡ before ++ row ∷ behind
            → All IsHeld before → IsHeld row → IsHeld (started_row c d Zero r s)
        first_row [] e held holds = let same : started_row c d Zero r s ≡ row = cc in subst IsHeld (sym same) holds
        first_row (b ∷ bs) e held holds =
            let same : started_row c d Zero r s ≡ b = cc in subst IsHeld (sym same) (All-head IsHeld b bs held)

-- a first state of the miter with equal starts is one of each circuit and a 0
record IsPartedFirst (c d : Circuit) (first : List Val) : Type 0 where
  pub f : List Val
  pub g : List Val
  pub starts : IsFirstState c f
  pub starts_too : IsFirstState d g
  pub parted : first ≡ (f ++ g) ++ Zero ∷ []

last_zero : (xs : List Val) → AllZip MayStartAt (resets.Zero ∷ []) xs → xs ≡ Zero ∷ []
last_zero [] start = absurd start
last_zero (x ∷ []) start = ap (λ (v : Val). v ∷ []) start.0
last_zero (x ∷ y ∷ ys) start = absurd start.1

first_of_started : (c d : Circuit) (first : List Val) → IsFirstState (started_miter c d) first → IsPartedFirst c d first
first_of_started c d first start =
    let latch : Latch = record { var = (plain_miter c d).max_var + 1; next = 1; reset = resets.Zero } in
    let inner = map (λ (l : Latch). l.reset) (plain_miter c d).latches in
    let n = length inner in
    let both = starts_parted inner (resets.Zero ∷ []) first
    (subst (λ (rs : List Reset). AllZip MayStartAt rs first)
    (map-append (λ (l : Latch). l.reset) (plain_miter c d).latches (latch ∷ [])) start) in
    let parts = first_parted c d (take n first) both.0 in
    let k = length c.latches in
    record {
      f = take k (take n first);
      g = drop k (take n first);
      starts = parts.0;
      starts_too = parts.1;
      parted = sym (take-append-drop n first)
          ∙ ap₂ (λ (xs ys : List Val). xs ++ ys) (sym (take-append-drop k (take n first)))
          (last_zero (drop n first) both.1);
    }

pub alike_from_equal_starts : (a b : Circuit) (frames : ℕ) → AreCompared a b (started_miter a b)
    → AreAlikeFor frames a b ↔ IsUnreachedFor frames (started_miter a b)
alike_from_equal_starts a b frames are = (
  λ alike_for claim step low verdict.
      let parts = first_of_started a b claim.first verdict.trace.0 in
      let rows = verdict.rows in
      let is = verdict.is_verdict.confirmed in
      let vectors = take (suc step) claim.steps in
      let whole : IsTrace (started_miter a b) ((parts.f ++ parts.g) ++ Zero ∷ []) claim.steps rows =
      subst (λ (xs : List Val). IsTrace (started_miter a b) xs claim.steps rows) parts.parted verdict.trace in
      let cut : IsTrace (started_miter a b) ((parts.f ++ parts.g) ++ Zero ∷ []) vectors (take (suc step) rows) = (
        whole.0,
        cut_follow (started_miter a b) (suc step) ((parts.f ++ parts.g) ++ Zero ∷ []) claim.steps rows whole.1,
      ) in
      let both = started_parted a b parts.f parts.g vectors are.fit are.first are.second are.miter parts.starts
      parts.starts_too (take (suc step) rows) cut in
      let few : length vectors ≤ frames = omega (arith, take_few (suc step) claim.steps, low) in
      let shown : take (suc step) rows ≡ is.before ++ is.row ∷ [] =
      ap (λ (rs : List Row). take (suc step) rs) is.parted
      ∙ ap (λ (n : ℕ). take (suc n) (is.before ++ is.row ∷ is.behind)) is.place
      ∙ up_to is.before is.row is.behind in
      let joined = sym both.4 ∙ shown in
      let start = first_held a b are.fit is.before is.row [] both.0 both.1 parts.f parts.g vectors joined both.2.1
      both.3.1 is.held is.holds in
      let stay = alike_for parts.f parts.g vectors both.0 both.1 few both.2 both.3 start in
      fine a b are.fit claim.property Zero is.before is.row [] both.0 both.1 joined stay is.held is.holds is.is_bad,
  λ unreached first second vectors rs ss few trace trace_too start.
      let whole = started_met a b first second vectors are.fit are.first are.second are.miter trace.0 trace_too.0 rs ss
      trace trace_too in
      let rows = started_rows a b Zero rs ss in
      alike a b are.fit first second Zero vectors rs ss trace.1 trace_too.1 (inr start)
      (none_in (started_miter a b) frames ((first ++ second) ++ Zero ∷ []) vectors rows unreached few whole
      (hit_from 0 rows) (first_is_found rows)),
)
