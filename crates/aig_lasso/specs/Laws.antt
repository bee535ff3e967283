-- What the definitions say of one another.
use Rattle.std.specs.Prelude.{◌≡◌, ◌+◌, ◌<◌, ◌≤◌, ◌++◌, ℕ, List, [], ◌∷◌, length, slice_index_or}
use Rattle.aig_circuit.specs.declared.circuit.Circuit.{Circuit}
use Rattle.aig_circuit.specs.declared.value.Val.{Val}
use Rattle.aig_meaning.specs.Meaning.{Row}
use Rattle.aig_meaning.specs.Trace.{state_after}
use Rattle.aig_witness.specs.Witness.{Claim}
use Rattle.aig_lasso.specs.Endless.{IsFairRun}
use Rattle.aig_lasso.specs.Goals.{with_goals}
use Rattle.aig_lasso.specs.Judging.{IsVerdictOn}
use Rattle.aig_lasso.specs.Lasso.{IsLasso, IsLassoAt, IsLassoVerdict}
use Rattle.aig_lasso.specs.declared.verdict.LassoVerdict.{LassoVerdict}

-- A run without end has the inputs of these steps, and from this one on those of the last so many over and over.
pub record GoesRound (steps : List (List Val)) (start : ℕ) (rows : ℕ → Row) : Type 0 where
  pub size : ℕ
  pub whole : start + size ≡ length steps
  pub some : 0 < size
  pub inputs : (t : ℕ) → t < length steps → (rows t).inputs ≡ slice_index_or steps t []
  pub again : (t : ℕ) → start ≤ t → rows (t + size) ≡ rows t

-- A lasso is a run without end in which all constraints always hold, and in which each literal of the justice property
-- and each fairness constraint is 1 again and again: that by its steps, and then its loop for ever.
abbrev pub LassosAreFairRuns : Type 0
LassosAreFairRuns = (c : Circuit) (claim : Claim) (start : ℕ) → IsLasso c claim start
    → (rows : ℕ → Row) × IsFairRun (with_goals claim.property c) rows
    × ((rows 0).state ≡ claim.first) × GoesRound claim.steps start rows

-- Where rows are a lasso, they are one from each earlier step at which the state is that behind the last row: so it is
-- enough to judge the first such step.
abbrev pub LongestLoopsMeetMost : Type 0
LongestLoopsMeetMost = (goals : ℕ) (first : List Val) (rows : List Row) (start : ℕ) → IsLassoAt goals first rows start
    → (stem : List Row) (turn : Row) (turns : List Row) → rows ≡ stem ++ (turn ∷ turns) → length stem ≤ start
    → state_after first rows ≡ state_after first stem → IsLassoAt goals first rows (length stem)

-- The verdict on a run of the circuit that shows the goals of a justice property is that on the claim of this run.
abbrev pub VerdictsAreOnClaims : Type 0
VerdictsAreOnClaims = (c : Circuit) (claim : Claim) (verdict : LassoVerdict)
    → IsVerdictOn (with_goals claim.property c) claim.first claim.steps verdict → IsLassoVerdict c claim verdict
