-- What a call answers, once it is known what was made.
use Rattle.std.proofs.Common.{◌≡◌, ◌⊎◌, List, ℕ, Result, Ok, Err, IfErr, IfOk, OnOk, inl, inr, subst, sym}
use Rattle.aig_fault.specs.Stopping.{StopsFor}
use Rattle.aig_fault.specs.declared.fault.Fault.{Fault}
use Rattle.aig_fault.specs.declared.stopped.Stopped.{Stopped}
use Rattle.aig_fault.specs.declared.stopped.Stopped.TheVariants as stops
use Rattle.aig_library.specs.Answers.{Refused, ShowAnswers, TextAnswers}
use Rattle.aig_library.specs.Numbers as numbers
use Rattle.aig_library.specs.Outcome.{IsPlaced, StopsInMemory, ending, out_of_memory, outcome_of}
use Rattle.aig_library.specs.declared.outcome.Outcome.{Outcome}

-- what is told where nothing was made
pub told : (IsFault : Fault → Type 0) (stopped : Stopped) (outcome : Outcome) → outcome ≡ outcome_of stopped
    → StopsInMemory IsFault stopped → Refused IsFault outcome ⊎ (outcome ≡ out_of_memory)
told IsFault (stops.Refused fault) outcome is why = inl (record { fault = fault; is_fault = why; told = is })
told IsFault stops.OutOfMemory outcome is why = inr is
told IsFault stops.ReadFailed outcome is why = inr is
told IsFault stops.WriteFailed outcome is why = inr is

-- what stops a call for one reason stops it for another that follows
pub stops_as : (This Then : Fault → Type 0) (stopped : Stopped) → ((fault : Fault) → This fault → Then fault)
    → StopsInMemory This stopped → StopsInMemory Then stopped
stops_as This Then (stops.Refused fault) then why = then fault why
stops_as This Then stops.OutOfMemory then why = tt
stops_as This Then stops.ReadFailed then why = tt
stops_as This Then stops.WriteFailed then why = tt

-- what stops a call that calls no device stops it in memory
pub stops_within : (Holds : Fault → Type 0) (stopped : Stopped) → StopsFor Holds stopped → StopsInMemory Holds stopped
stops_within Holds (stops.Refused fault) why = why
stops_within Holds stopped why = tt

-- what holds of a text holds of what has it
pub text_is : {V : Type 0} (items : V → List ℕ) (IsText : List ℕ → Type 0) (wanted : List ℕ) (made : Result V Stopped)
    → IsText wanted → IfOk made (λ v. items v ≡ wanted) → IfOk made (λ v. IsText (items v))
text_is items IsText wanted (Ok v) is same = subst IsText (sym same) is
text_is items IsText wanted (Err stopped) is same = tt

-- what is answered, by what is known of what was made: a text is placed, or something is shown by it
module _ {V : Type 0} (items : V → List ℕ) (CanDo : Type 0) (IsFault IsWhy : Fault → Type 0) (IsWhat : List ℕ → Type 0)
    (outcome : Outcome) (can : CanDo) (why_is : (fault : Fault) → IsWhy fault → IsFault fault) where
  pub text_answered : (IsText : List ℕ → Type 0) (before after : List ℕ)
      → ((text : List ℕ) → IsWhat text → IsText text) → (made : Result V Stopped)
      → IfOk made (λ v. IsWhat (items v)) → IfErr made (StopsInMemory IsWhy)
      → IfOk made (λ v. IsPlaced (items v) before after outcome)
      → IfErr made (λ stopped. (after ≡ before) × (outcome ≡ outcome_of stopped))
      → TextAnswers CanDo IsText IsFault before after outcome
  text_answered IsText before after text_is (Ok v) what why placed kept =
      inr (can, inl (record { text = items v; is_text = text_is (items v) what; placed = placed }))
  text_answered IsText before after text_is (Err stopped) what why placed kept =
      inr (can, inr (kept.0, told IsFault stopped outcome kept.1 (stops_as IsWhy IsFault stopped why_is why)))

  pub show_answered : (IsShown : Type 0) → ((text : List ℕ) → IsWhat text → IsShown) → (made : Result V Stopped)
      → IfOk made (λ v. IsWhat (items v)) → IfErr made (StopsInMemory IsWhy)
      → OnOk made (outcome ≡ ending numbers.done 0 0) → IfErr made (λ stopped. outcome ≡ outcome_of stopped)
      → ShowAnswers CanDo IsShown IsFault outcome
  show_answered IsShown shown_is (Ok v) what why done is = inr (can, inl (shown_is (items v) what, done))
  show_answered IsShown shown_is (Err stopped) what why done is =
      inr (can, inr (tt, told IsFault stopped outcome is (stops_as IsWhy IsFault stopped why_is why)))
