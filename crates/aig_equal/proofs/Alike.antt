-- Rows that are seen alike are those whose joined row has no bad state, and so run by run.
use Rattle.std.proofs.Common.{◌≡◌, ◌↔◌, ◌<◌, ◌≤◌, ◌+◌, ◌++◌, ◌∙◌, ◌∷◌, ℕ, zero, suc, List, [], Option, None}
use Rattle.std.proofs.Common.{Some, ap, ap₂}
use Rattle.std.proofs.Common.{arith, get_or, length, length-append, map, refl, subst, sym, drop, take}
use Rattle.std.specs.List.{All, AllZip}
use Rattle.std.proofs.lemmas.List.{length-map, take-append-drop}
use Rattle.std.proofs.lemmas.List.Elements.{All-cons, All-head, All-nil, All-tail}
use Rattle.aig_circuit.specs.declared.circuit.Circuit.{Circuit}
use Rattle.aig_circuit.specs.declared.value.Val.{Val}
use Rattle.aig_circuit.specs.declared.value.Val.TheVariants.{Zero, One, X}
use Rattle.aig_circuit.specs.Values.{value_not}
use Rattle.aig_circuit.specs.Wellformed.{IsWellFormed}
use Rattle.aig_meaning.specs.Meaning.{IsRow, Row, literal_value}
use Rattle.aig_meaning.specs.Trace.{Follow, IsTrace}
use Rattle.aig_meaning.proofs.Traces.{bad_length}
use Rattle.aig_miter.specs.Both.{Agree, AreSeenAlike, StayAlike, differ, joined_row, joined_rows, seen}
use Rattle.aig_miter.specs.Parts.Comparable.{AreComparable}
use Rattle.aig_miter.specs.Miter.{compared, plain_miter}
use Rattle.aig_miter.proofs.Traces.{first_parted, met, parted}
use Rattle.aig_replay.specs.declared.search.Hit.{Hit}
use Rattle.aig_replay.specs.Finding.{hit_from}
use Rattle.aig_replay.specs.Laws.{IsFoundIn}
use Rattle.aig_replay.proofs.FirstFound.{first_is_found}
use Rattle.aig_witness.specs.Witness.{Claim, IsBad, IsConfirmedAt, IsHeld}
use Rattle.aig_equal.specs.Alike.{IsUnreachedFor}

-- none of these values is 1
abbrev HasNoOne : List Val → Type 0
HasNoOne xs = (i : ℕ) → ¬ (get_or xs i Zero ≡ One)

-- ---- values

not_zero : (v : Val) → ¬ (value_not v ≡ One) → ¬ (v ≡ Zero)
not_zero v not is = not (ap value_not is)

no_constraint_fails : (vs : List Val) → HasNoOne (map value_not vs) → All (λ (v : Val). ¬ (v ≡ Zero)) vs
no_constraint_fails [] none = All-nil (λ (v : Val). ¬ (v ≡ Zero))
no_constraint_fails (v ∷ vs) none =
    All-cons (λ (x : Val). ¬ (x ≡ Zero)) v vs (not_zero v (none 0)) (no_constraint_fails vs (λ i. none (suc i)))

-- what the values that differ, before others, say
seen_by : (xs ys zs : List Val) → length xs ≡ length ys → HasNoOne (differ xs ys ++ zs) → AllZip Agree xs ys
seen_by [] [] zs e none = tt
seen_by [] (y ∷ ys) zs e none = absurd (omega (arith, e))
seen_by (x ∷ xs) [] zs e none = absurd (omega (arith, e))
seen_by (x ∷ xs) (y ∷ ys) zs e none = (none 0, seen_by xs ys zs (omega (arith, e)) (λ i. none (suc i)))

behind_by : (xs ys zs : List Val) → length xs ≡ length ys → HasNoOne (differ xs ys ++ zs) → HasNoOne zs
behind_by [] [] zs e none = none
behind_by [] (y ∷ ys) zs e none = absurd (omega (arith, e))
behind_by (x ∷ xs) [] zs e none = absurd (omega (arith, e))
behind_by (x ∷ xs) (y ∷ ys) zs e none = behind_by xs ys zs (omega (arith, e)) (λ i. none (suc i))

not_of_one : (v : Val) → value_not v ≡ One → v ≡ Zero
not_of_one Zero is = refl
not_of_one One is = cc
not_of_one X is = cc

none_fails : (vs : List Val) → All (λ (v : Val). ¬ (v ≡ Zero)) vs → HasNoOne (map value_not vs)
none_fails [] all i is = cc
none_fails (v ∷ vs) all zero is = All-head (λ (x : Val). ¬ (x ≡ Zero)) v vs all (not_of_one v is)
none_fails (v ∷ vs) all (suc i) is = none_fails vs (All-tail (λ (x : Val). ¬ (x ≡ Zero)) v vs all) i is

none_differs : (xs ys zs : List Val) → AllZip Agree xs ys → HasNoOne zs → HasNoOne (differ xs ys ++ zs)
none_differs [] [] zs all none i is = none i is
none_differs [] (y ∷ ys) zs all none i is = absurd all
none_differs (x ∷ xs) [] zs all none i is = absurd all
none_differs (x ∷ xs) (y ∷ ys) zs all none zero is = all.0 is
none_differs (x ∷ xs) (y ∷ ys) zs all none (suc i) is = none_differs xs ys zs all.1 none i is

-- ---- rows

outputs_length : (c : Circuit) (row : Row) → IsRow c row → length row.outputs ≡ length c.outputs
outputs_length c row is = ap length is.1.outputs_shown ∙ length-map c.outputs (literal_value is.0)

pub seen_length : (c : Circuit) (row : Row) → IsRow c row → length (seen row) ≡ length (compared c)
seen_length c row is =
    length-append row.outputs row.bad ∙ ap₂ (λ (m n : ℕ). m + n) (outputs_length c row is) (bad_length c row is)
    ∙ sym (length-append c.outputs c.bad)

pub row_alike : (r s : Row) → length (seen r) ≡ length (seen s) → HasNoOne (joined_row r s).bad → AreSeenAlike r s
row_alike r s e none = (
  seen_by (seen r) (seen s) (map value_not s.constraints) e none,
  no_constraint_fails s.constraints (behind_by (seen r) (seen s) (map value_not s.constraints) e none),
)

pub row_fine : (r s : Row) → AreSeenAlike r s → HasNoOne (joined_row r s).bad
row_fine r s alike =
    none_differs (seen r) (seen s) (map value_not s.constraints) alike.0 (none_fails s.constraints alike.1)

-- ---- runs

pub here : (p : ℕ) (row : Row) (rows : List Row) → IsHeld row → IsBad p row → IsConfirmedAt p (row ∷ rows) 0
here p row rows holds bad = record {
  before = [];
  row = row;
  behind = rows;
  parted = refl;
  place = refl;
  is_bad = bad;
  holds = holds;
  held = All-nil IsHeld;
}

pub later : (p : ℕ) (row : Row) (rows : List Row) (at : ℕ) → IsHeld row → IsConfirmedAt p rows at
    → IsConfirmedAt p (row ∷ rows) (suc at)
later p row rows at holds is = record {
  before = row ∷ is.before;
  row = is.row;
  behind = is.behind;
  parted = ap (λ (rs : List Row). row ∷ rs) is.parted;
  place = ap suc is.place;
  is_bad = is.is_bad;
  holds = is.holds;
  held = All-cons IsHeld row is.before holds is.held;
}

module _ (c d : Circuit) (fit : AreComparable c d) where
  alike : (f g : List Val) (vectors : List (List Val)) (rs ss : List Row) → Follow c f vectors rs
      → Follow d g vectors ss → ((p at : ℕ) → ¬ IsConfirmedAt p (joined_rows rs ss) at) → StayAlike rs ss
  alike f g [] [] [] follow follow_too none = tt
  alike f g [] [] (s ∷ ss) follow follow_too none = absurd follow_too
  alike f g [] (r ∷ rs) ss follow follow_too none = absurd follow
  alike f g (v ∷ vs) [] ss follow follow_too none = absurd follow
  alike f g (v ∷ vs) (r ∷ rs) [] follow follow_too none = absurd follow_too
  alike f g (v ∷ vs) (r ∷ rs) (s ∷ ss) follow follow_too none =
      let e : length (seen r) ≡ length (seen s) =
      seen_length c r follow.2 ∙ sym fit.seen ∙ sym (seen_length d s follow_too.2) in
      λ holds. (
        row_alike r s e (λ i bad. none i 0 (here i (joined_row r s) (joined_rows rs ss) holds bad)),
        alike r.next s.next vs rs ss follow.3 follow_too.3
            (λ p at is. none p (suc at) (later p (joined_row r s) (joined_rows rs ss) at holds is)),
      )

-- rows that stay alike have no bad state while the constraints hold
fine : (p : ℕ) (before : List Row) (row : Row) (behind rs ss : List Row) → joined_rows rs ss ≡ before ++ row ∷ behind
    → StayAlike rs ss → All IsHeld before → IsHeld row → ¬ IsBad p row
fine p [] row behind [] ss is stay held holds bad = cc
fine p [] row behind (r ∷ rs) [] is stay held holds bad = absurd stay
fine p [] row behind (r ∷ rs) (s ∷ ss) is stay held holds bad =
    let same : joined_row r s ≡ row = cc in
    row_fine r s (stay (subst IsHeld (sym same) holds)).0 p (subst (IsBad p) (sym same) bad)
fine p (b ∷ bs) row behind [] ss is stay held holds bad = cc
fine p (b ∷ bs) row behind (r ∷ rs) [] is stay held holds bad = absurd stay
fine p (b ∷ bs) row behind (r ∷ rs) (s ∷ ss) is stay held holds bad =
    let same : joined_row r s ≡ b = cc in
    let rest : joined_rows rs ss ≡ bs ++ row ∷ behind = cc in
    fine p bs row behind rs ss rest (stay (subst IsHeld (sym same) (All-head IsHeld b bs held))).1
    (All-tail IsHeld b bs held) holds bad

rows_length : (c : Circuit) (state : List Val) (vectors : List (List Val)) (rows : List Row)
    → Follow c state vectors rows → length rows ≡ length vectors
rows_length c state [] [] follow = refl
rows_length c state [] (row ∷ rows) follow = absurd follow
rows_length c state (v ∷ vs) [] follow = absurd follow
rows_length c state (v ∷ vs) (row ∷ rows) follow =
    ap (λ (n : ℕ). suc n) (rows_length c row.next vs rows follow.3)

within : (p : ℕ) (rows : List Row) (at : ℕ) → IsConfirmedAt p rows at → at < length rows
within p rows at is =
    omega (arith, ap length is.parted, length-append is.before (is.row ∷ is.behind), is.place)

-- where no claim is confirmed, nothing is confirmed in a run
pub none_in : (c : Circuit) (frames : ℕ) (first : List Val) (vectors : List (List Val)) (rows : List Row)
    → IsUnreachedFor frames c → length vectors ≤ frames → IsTrace c first vectors rows
    → (o : Option Hit) → IsFoundIn rows o → (p at : ℕ) → ¬ IsConfirmedAt p rows at
none_in c frames first vectors rows unreached few trace None found p at is = found p at is
none_in c frames first vectors rows unreached few trace (Some f) found p at is =
    let claim : Claim = record { property = f.property; first = first; steps = vectors } in
    let low : f.step < frames =
    omega (arith, within f.property rows f.step found.confirmed, rows_length c first vectors rows trace.1, few) in
    unreached claim f.step low (record { rows = rows; trace = trace; is_verdict = found })

-- a run up to a step
pub take_few : {T : Type 0} (k : ℕ) (xs : List T) → length (take k xs) ≤ k
take_few zero xs = omega arith
take_few (suc k) [] = omega arith
take_few (suc k) (x ∷ xs) = omega (arith, take_few k xs)

pub up_to : (before : List Row) (row : Row) (behind : List Row)
    → take (suc (length before)) (before ++ row ∷ behind) ≡ before ++ row ∷ []
up_to [] row behind = refl
up_to (b ∷ bs) row behind = ap (λ (rs : List Row). b ∷ rs) (up_to bs row behind)

pub cut_follow : (c : Circuit) (k : ℕ) (state : List Val) (vectors : List (List Val)) (rows : List Row)
    → Follow c state vectors rows → Follow c state (take k vectors) (take k rows)
cut_follow c zero state vectors rows follow = tt
cut_follow c (suc k) state [] [] follow = tt
cut_follow c (suc k) state [] (row ∷ rows) follow = absurd follow
cut_follow c (suc k) state (v ∷ vs) [] follow = absurd follow
cut_follow c (suc k) state (v ∷ vs) (row ∷ rows) follow =
    (follow.0, follow.1, follow.2, cut_follow c k row.next vs rows follow.3)

-- the circuits can be compared, and all three are well formed
pub record AreCompared (a b m : Circuit) : Type 0 where
  pub fit : AreComparable a b
  pub first : IsWellFormed a
  pub second : IsWellFormed b
  pub miter : IsWellFormed m

-- alike for so many steps, whatever states they start in
abbrev pub AreFreelyAlike : ℕ → Circuit → Circuit → Type 0
AreFreelyAlike frames a b = (first second : List Val) (vectors : List (List Val)) (rs ss : List Row)
    → length vectors ≤ frames → IsTrace a first vectors rs → IsTrace b second vectors ss → StayAlike rs ss

pub freely_alike : (a b : Circuit) (frames : ℕ) → AreCompared a b (plain_miter a b)
    → AreFreelyAlike frames a b ↔ IsUnreachedFor frames (plain_miter a b)
freely_alike a b frames are = (
  λ alike_for claim step low verdict.
      let f = take (length a.latches) claim.first in
      let g = drop (length a.latches) claim.first in
      let starts = first_parted a b claim.first verdict.trace.0 in
      let whole : IsTrace (plain_miter a b) (f ++ g) claim.steps verdict.rows =
      subst (λ (xs : List Val). IsTrace (plain_miter a b) xs claim.steps verdict.rows)
      (sym (take-append-drop (length a.latches) claim.first)) verdict.trace in
      let rows = verdict.rows in
      let is = verdict.is_verdict.confirmed in
      let vectors = take (suc step) claim.steps in
      let cut : IsTrace (plain_miter a b) (f ++ g) vectors (take (suc step) rows) =
      (whole.0, cut_follow (plain_miter a b) (suc step) (f ++ g) claim.steps rows whole.1) in
      let both = parted a b f g vectors are.fit are.first are.second are.miter starts.0 starts.1
      (take (suc step) rows) cut in
      let few : length vectors ≤ frames = omega (arith, take_few (suc step) claim.steps, low) in
      let stay = alike_for f g vectors both.0 both.1 few both.2 both.3 in
      let shown : take (suc step) rows ≡ is.before ++ is.row ∷ [] =
      ap (λ (rs : List Row). take (suc step) rs) is.parted
      ∙ ap (λ (n : ℕ). take (suc n) (is.before ++ is.row ∷ is.behind)) is.place
      ∙ up_to is.before is.row is.behind in
      fine claim.property is.before is.row [] both.0 both.1 (sym both.4 ∙ shown) stay is.held is.holds is.is_bad,
  λ unreached first second vectors rs ss few trace trace_too.
      let whole = met a b first second vectors are.fit are.first are.second are.miter trace.0 trace_too.0 rs ss trace
      trace_too in
      let rows = joined_rows rs ss in
      alike a b are.fit first second vectors rs ss trace.1 trace_too.1
      (none_in (plain_miter a b) frames (first ++ second) vectors rows unreached few whole (hit_from 0 rows)
      (first_is_found rows)),
)
