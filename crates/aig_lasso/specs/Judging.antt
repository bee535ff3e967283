-- What is said of a run whose steps are to be a stem and a loop. Of a circuit whose bad states are goals.
use Rattle.std.specs.Prelude.{◌<◌, ℕ, List, length}
use Rattle.aig_circuit.specs.declared.circuit.Circuit.{Circuit}
use Rattle.aig_circuit.specs.declared.value.Val.{Val}
use Rattle.aig_meaning.specs.Meaning.{Row}
use Rattle.aig_meaning.specs.Trace.{IsTrace}
use Rattle.aig_lasso.specs.Lasso.{IsLassoAt}
use Rattle.aig_lasso.specs.declared.verdict.LassoVerdict.{LassoVerdict}
use Rattle.aig_lasso.specs.declared.verdict.LassoVerdict.TheVariants.{Confirmed, NotConfirmed}

-- the circuit's trace from this first state by these steps is a lasso whose loop begins at this step
pub record IsLassoFrom (c : Circuit) (first : List Val) (steps : List (List Val)) (start : ℕ) : Type 0 where
  pub rows : List Row
  pub trace : IsTrace c first steps rows
  pub lasso : IsLassoAt (length c.bad) first rows start

-- the verdict on it: the first step at which a loop begins, or that there is none
abbrev pub IsVerdictOn : Circuit → List Val → List (List Val) → LassoVerdict → Type 0
IsVerdictOn c first steps (Confirmed start) =
    IsLassoFrom c first steps start × ((earlier : ℕ) → earlier < start → ¬ IsLassoFrom c first steps earlier)
IsVerdictOn c first steps NotConfirmed = (start : ℕ) → ¬ IsLassoFrom c first steps start
