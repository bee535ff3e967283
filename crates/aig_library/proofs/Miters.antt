-- What is answered where a miter is asked for, once the first circuit was read.
use Rattle.std.proofs.Common.{◌≡◌, List, ℕ, Result, Ok, Err, IfErr, IfOk, inl, inr, subst}
use Rattle.aig_commands.specs.Jobs.{Makes}
use Rattle.aig_commands.specs.declared.job.Job.{Job}
use Rattle.aig_commands.specs.declared.job.Reading.TheVariants as readings
use Rattle.aig_fault.specs.declared.stopped.Stopped.{Stopped}
use Rattle.aig_fault.specs.declared.stopped.Stopped.TheVariants as stops
use Rattle.aig_library.specs.Answers.{MiterAnswers}
use Rattle.aig_library.specs.Asked.{CanCompare, comparison}
use Rattle.aig_library.specs.Memory.{Comes}
use Rattle.aig_library.specs.Outcome.{IsPlaced, StopsInMemory, second_outcome}
use Rattle.aig_library.specs.declared.memory.Inputs.{Inputs}
use Rattle.aig_library.specs.declared.outcome.Outcome.{Outcome}
use Rattle.aig_library.proofs.Comings.{miter_refused, miter_text}

module _ {V : Type 0} (items : V → List ℕ) (options max_var : ℕ) (one : List ℕ) (inputs : Inputs) (next : Job)
    (before after : List ℕ) (outcome : Outcome) (can : CanCompare options max_var)
    (makes : Makes (readings.First (comparison options max_var)) one next) where
  pub miter_answered : (made : Result V Stopped) → IfOk made (λ v. Comes inputs next (Ok (items v)))
      → IfErr made (StopsInMemory (λ fault. Comes inputs next (Err fault)))
      → IfOk made (λ v. IsPlaced (items v) before after outcome)
      → IfErr made (λ stopped. (after ≡ before) × (outcome ≡ second_outcome stopped))
      → MiterAnswers options max_var one inputs.file.now before after outcome
  miter_answered (Ok v) comes why placed kept =
      let (first, is_first, then) = makes in
      let request = comparison options max_var in
      inl (inr (
        can,
        inl (record {
          text = items v;
          is_text = record {
            first = first;
            is_first = is_first;
            is_text = miter_text inputs request first (items v) (subst (λ j. Comes inputs j (Ok (items v))) then comes);
          };
          placed = placed;
        }),
      ))
  miter_answered (Err (stops.Refused fault)) comes why placed kept =
      let (first, is_first, then) = makes in
      let request = comparison options max_var in
      inr (
        can,
        kept.0,
        record {
          first = first;
          fault = fault;
          is_first = is_first;
          is_fault = miter_refused inputs request first fault (subst (λ j. Comes inputs j (Err fault)) then why);
          told = kept.1;
        },
      )
  miter_answered (Err stops.OutOfMemory) comes why placed kept = inl (inr (can, inr (kept.0, inr kept.1)))
  miter_answered (Err stops.ReadFailed) comes why placed kept = inl (inr (can, inr (kept.0, inr kept.1)))
  miter_answered (Err stops.WriteFailed) comes why placed kept = inl (inr (can, inr (kept.0, inr kept.1)))
