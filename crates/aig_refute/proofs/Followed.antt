-- Lines that were followed, piece by piece.
use Rattle.std.proofs.Common.{◌≡◌, ◌≢◌, ◌<◌, ◌≤◌, ◌+◌, ◌-◌, ◌++◌, ◌∙◌, ⊎_elim, ℕ, List, [], ◌∷◌, length, take, fold}
use Rattle.std.proofs.Common.{arith, ap, append_assoc, inl, inr, sym, subst, ap₂}
use Rattle.std.specs.Prelude.{slice_index}
use Rattle.std.proofs.lemmas.Bool.{cases_lt}
use Rattle.std.proofs.lemmas.Grind.{common_steps}
use Rattle.std.proofs.lemmas.List.{take-append-le}
use Rattle.std.proofs.lemmas.List.Sums.{fold-append}
use Rattle.std.proofs.Math.Seq.{take-append-add}
use Rattle.aig_fault.specs.declared.fault.Fault.{Fault}
use Rattle.aig_refute.specs.Kept.{ComesToRest, DoesNotFollow, IsKept, IsStored}
use Rattle.aig_io.specs.Runs.{AtEnd, Broken, Open}
use Rattle.aig_refute.specs.Lines.{Step, missing_end, next}
use Rattle.aig_refute.specs.Refuted.{AreInLines, Followed, IsLineFault, IsStepFault, ShowsNothing, followed}
use Rattle.aig_refute.specs.Refuted.{IsRefusedWhere, followed_to, step_at, unread}
use Rattle.aig_refute.specs.declared.reader.LineEnd.TheVariants as ends
use Rattle.aig_refute.specs.declared.reader.RefutationFormat.{RefutationFormat}
use Rattle.aig_refute.proofs.Resting.{rests_stored}

-- what propagation leaves of the clauses of a store, it leaves of those that are kept
pub does_not_follow : (kept : List ℕ → Type 0) (words clause : List ℕ) → ComesToRest words clause
    → ((other : List ℕ) → kept other → IsStored words other) → DoesNotFollow kept clause
does_not_follow kept words clause rest stored = record {
  known = rest.known;
  refuted = rest.refuted;
  consistent = rest.consistent;
  at_rest = λ other is. rests_stored words clause rest other (stored other is);
}

never_open : Open ≡ AtEnd → ⊥
never_open is = cc

pub never_broken : Broken ≡ AtEnd → ⊥
never_broken is = cc

-- first come the one bytes, then the others
module _ (from : Followed) (first second : List ℕ) where
  pub to_both : fold followed from (first ++ second) ≡ fold followed (fold followed from first) second
  to_both = fold-append followed from first second

  to_more : (place : ℕ)
      → followed_to from (first ++ second) (length first + place) ≡ followed_to (fold followed from first) second place
  to_more place =
      ap (fold followed from) (take-append-add first second place)
      ∙ fold-append followed from first (take place second)

  byte_more : (place : ℕ) → slice_index (first ++ second) (length first + place) ≡ slice_index second place
  byte_more place = grind (arith, common_steps)

  step_more : (place : ℕ)
      → step_at from (first ++ second) (length first + place) ≡ step_at (fold followed from first) second place
  step_more place =
      ap₂ (λ (f : Followed) (byte : ℕ). next f.reading byte) (to_more place) (byte_more place)

  step_less : (place : ℕ) → place < length first
      → step_at from (first ++ second) place ≡ step_at from first place
  step_less place lt =
      let all : take place (first ++ second) ≡ take place first = take-append-le place first second (omega arith) in
      let byte : slice_index (first ++ second) place ≡ slice_index first place = grind (arith, common_steps) in
      ap₂ (λ (bytes : List ℕ) (b : ℕ). next (fold followed from bytes).reading b) all byte

  pub in_lines_both : AreInLines from first → AreInLines (fold followed from first) second
      → AreInLines from (first ++ second)
  in_lines_both one two = λ place lt.
      let len : length (first ++ second) ≡ length first + length second = grind (arith, common_steps) in
      ⊎_elim
      (λ (l : place < length first).
      λ (h : (step_at from (first ++ second) place).end ≡ ends.Bad).
      one place l (ap (λ (s : Step). s.end) (sym (step_less place l)) ∙ h))
      (λ (g : length first ≤ place).
      let n : ℕ = place - length first in
      let at : length first + n ≡ place = omega arith in
      λ (h : (step_at from (first ++ second) place).end ≡ ends.Bad).
      two n (omega arith)
      (ap (λ (s : Step). s.end) (sym (step_more n) ∙ ap (step_at from (first ++ second)) at) ∙ h))
      (cases_lt place (length first))

  -- what is wrong with the one is wrong with both
  pub fault_longer : (given : List (List ℕ)) (fault : Fault) → IsLineFault given from first fault
      → IsLineFault given from (first ++ second) fault
  fault_longer given fault is =
      let len : length (first ++ second) ≡ length first + length second = grind (arith, common_steps) in
      let lt : is.0 < length first = is.1 in
      let all : take is.0 (first ++ second) ≡ take is.0 first = take-append-le is.0 first second (omega arith) in (
        is.0,
        omega arith,
        subst (λ (bytes : List ℕ).
            IsStepFault given (fold followed from bytes).changes (step_at from (first ++ second) is.0) fault)
            (sym all) (subst (λ (s : Step). IsStepFault given (followed_to from first is.0).changes s fault)
            (sym (step_less is.0 lt)) is.2),
      )

  pub fault_more : (given : List (List ℕ)) (fault : Fault) → IsLineFault given (fold followed from first) second fault
      → IsLineFault given from (first ++ second) fault
  fault_more given fault is =
      let len : length (first ++ second) ≡ length first + length second = grind (arith, common_steps) in
      let inside : is.0 < length second = is.1 in (
        length first + is.0,
        omega arith,
        subst (λ (f : Followed). IsStepFault given f.changes (step_at from (first ++ second)
            (length first + is.0)) fault)
            (sym (to_more is.0))
            (subst (λ (s : Step).
            IsStepFault given (followed_to (fold followed from first) second is.0).changes s fault)
            (sym (step_more is.0)) is.2),
      )

  pub shows_nothing_more : (given : List (List ℕ)) → AreInLines from first
      → ShowsNothing given (fold followed from first) second → ShowsNothing given from (first ++ second)
  shows_nothing_more given lines shows = record {
    in_lines = in_lines_both lines shows.in_lines;
    unfollowed = subst (λ (f : Followed). DoesNotFollow (IsKept given f.changes) []) (sym to_both) shows.unfollowed;
  }

-- one byte more is in a line
pub in_lines_more : (from : Followed) (bytes : List ℕ) (k byte : ℕ) → AreInLines from (take k bytes)
    → (next (fold followed from (take k bytes)).reading byte).end ≢ ends.Bad
    → take (k + 1) bytes ≡ take k bytes ++ byte ∷ [] → AreInLines from (take (k + 1) bytes)
in_lines_more from bytes k byte lines good more =
    let now : Followed = fold followed from (take k bytes) in
    let last : AreInLines now (byte ∷ []) = λ place lt.
    let is : place ≡ 0 = omega (arith, lt) in
    λ (h : (step_at now (byte ∷ []) place).end ≡ ends.Bad).
    good (sym (ap (λ (p : ℕ). (step_at now (byte ∷ []) p).end) is) ∙ h) in
    subst (AreInLines from) (sym more) (in_lines_both from (take k bytes) (byte ∷ []) lines last)

-- what is refused at the end of some bytes is refused where others come behind them
pub refused_behind : (format : RefutationFormat) (given : List (List ℕ)) (limit : ℕ) (fault : Fault)
    (bytes behind : List ℕ) → IsRefusedWhere format given limit fault bytes Open
    → IsRefusedWhere format given limit fault (bytes ++ behind) AtEnd
refused_behind format given limit fault bytes behind (inl why) =
    let from : Followed = unread format limit in
    let last : List ℕ = missing_end (fold followed from (bytes ++ behind)).reading in
    inl (
      tt,
      subst (λ (text : List ℕ). IsLineFault given from text fault) (sym (append_assoc bytes behind last))
          (fault_longer from bytes (behind ++ last) given fault why.1),
    )
refused_behind format given limit fault bytes behind (inr why) = absurd (never_open why.1)
