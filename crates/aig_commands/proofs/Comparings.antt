-- What comes of two circuits that are read to be compared.
use Rattle.std.proofs.Common.{◌≡◌, ℕ, List, Option, None, Some, Result, Ok, Err, IfErr, inl, inr}
use Rattle.aig_circuit.specs.declared.circuit.Circuit.{Circuit}
use Rattle.aig_command.specs.declared.request.Miter.{Miter}
use Rattle.aig_fault.specs.Stopping.{StopsFor}
use Rattle.aig_fault.specs.declared.kind.Kind.{Kind}
use Rattle.aig_fault.specs.declared.stopped.Stopped.{Stopped}
use Rattle.aig_fault.specs.declared.stopped.Stopped.TheVariants as stops
use Rattle.aig_fault.proofs.Stoppings.{stops_weaker}
use Rattle.aig_miter.specs.Outcome.{made_unless, miter_of, pair_fault}
use Rattle.aig_miter.specs.Starts.{miter}
use Rattle.aig_rows.specs.Outcomes.{GivesOrMemory}
use Rattle.aig_commands.specs.Comparing.{IsPaired, NotAccepted, NotFirst, NotMadeOf, NotMiter}
use Rattle.aig_commands.specs.File.{IsFileOf}

module _ (request : Miter) (bytes : List ℕ) where
  -- a circuit that was read cannot be the first
  pub not_first : (first : Circuit) (stopped : Stopped) → StopsFor (NotAccepted request first) stopped
      → IsFileOf bytes request.max_var first → StopsFor (λ fault. NotFirst request fault bytes) stopped
  not_first first stopped why file =
      stops_weaker (NotAccepted request first) (λ fault. NotFirst request fault bytes) stopped
      (λ fault is. inr (first, file, is)) why

  -- no miter is made of the second
  pub not_miter : (first second : Circuit) (stopped : Stopped) → StopsFor (NotMadeOf request first second) stopped
      → IsFileOf bytes request.max_var second → StopsFor (λ fault. NotMiter request first fault bytes) stopped
  not_miter first second stopped why file =
      stops_weaker (NotMadeOf request first second) (λ fault. NotMiter request first fault bytes) stopped
      (λ fault is. inr (second, file, is)) why

-- a pair of circuits is refused, and nothing else stops it
only_refused : (fault : Option Kind) (m : Circuit) (stopped : Stopped) → made_unless fault m ≡ Err stopped
    → StopsFor (λ f. made_unless fault m ≡ Err (stops.Refused f)) stopped
only_refused None m stopped is = cc
only_refused (Some kind) m (stops.Refused f) is = is
only_refused (Some kind) m stops.OutOfMemory is = tt
only_refused (Some kind) m stops.ReadFailed is = cc
only_refused (Some kind) m stops.WriteFailed is = cc

-- what no miter is made of
pub not_made : (request : Miter) (first second paired : Circuit) (made : Result Circuit Stopped)
    → IsPaired request.by_name first second paired → GivesOrMemory (λ m. m) made (miter_of first paired)
    → IfErr made (StopsFor (NotMadeOf request first second))
not_made request first second paired (Ok m) is_paired says = tt
not_made request first second paired (Err stopped) is_paired (inl memory) = rw memory tt
not_made request first second paired (Err stopped) is_paired (inr is) =
    stops_weaker (λ fault. miter_of first paired ≡ Err (stops.Refused fault)) (NotMadeOf request first second) stopped
    (λ fault e. inr (paired, is_paired, e)) (only_refused (pair_fault first paired) (miter first paired) stopped is)
