-- A verdict on a run of the circuit that shows goals is one on the claim of that run.
use Rattle.std.proofs.Common.{ℕ}
use Rattle.aig_circuit.specs.declared.circuit.Circuit.{Circuit}
use Rattle.aig_witness.specs.Witness.{Claim}
use Rattle.aig_lasso.specs.Goals.{with_goals}
use Rattle.aig_lasso.specs.Judging.{IsLassoFrom}
use Rattle.aig_lasso.specs.Lasso.{IsLasso}
use Rattle.aig_lasso.specs.Laws.{VerdictsAreOnClaims}
use Rattle.aig_lasso.specs.declared.verdict.LassoVerdict.TheVariants.{Confirmed, NotConfirmed}

module _ (c : Circuit) (claim : Claim) where
  claimed : (start : ℕ) → IsLassoFrom (with_goals claim.property c) claim.first claim.steps start
      → IsLasso c claim start
  claimed start is = record { rows = is.rows; trace = is.trace; lasso = is.lasso }

  shown : (start : ℕ) → IsLasso c claim start
      → IsLassoFrom (with_goals claim.property c) claim.first claim.steps start
  shown start is = record { rows = is.rows; trace = is.trace; lasso = is.lasso }

pub verdicts_are_on_claims : VerdictsAreOnClaims
verdicts_are_on_claims c claim (Confirmed start) is =
    (claimed c claim start is.0, λ earlier low other. is.1 earlier low (shown c claim earlier other))
verdicts_are_on_claims c claim NotConfirmed is = λ start other. is start (shown c claim start other)
