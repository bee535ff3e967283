-- Lassos: a run that comes back to a state in which it was, so that it can go round for ever (AIGER 1.9, the hardware
-- model checking competition). Of a circuit whose bad states are goals.
use Rattle.std.specs.Prelude.{◌≡◌, ◌<◌, ◌++◌, ℕ, List, ◌∷◌, length}
use Rattle.std.specs.List.{All}
use Rattle.aig_circuit.specs.declared.circuit.Circuit.{Circuit}
use Rattle.aig_circuit.specs.declared.value.Val.{Val}
use Rattle.aig_meaning.specs.Meaning.{Row}
use Rattle.aig_meaning.specs.Trace.{IsTrace, state_after}
use Rattle.aig_witness.specs.Witness.{Claim, IsBad, IsHeld}
use Rattle.aig_lasso.specs.Goals.{with_goals}
use Rattle.aig_lasso.specs.declared.verdict.LassoVerdict.{LassoVerdict}
use Rattle.aig_lasso.specs.declared.verdict.LassoVerdict.TheVariants.{Confirmed, NotConfirmed}

-- one of the rows meets the goal
abbrev pub Meet : List Row → ℕ → Type 0
Meet rows goal =
    (before : List Row) × (behind : List Row) × (row : Row) × (rows ≡ before ++ (row ∷ behind)) × IsBad goal row

-- The rows from this first state are a lasso whose loop begins at this step: the state behind the last row is that in
-- which the loop begins, the loop has a row and meets each of so many goals, and all constraints hold.
pub record IsLassoAt (goals : ℕ) (first : List Val) (rows : List Row) (start : ℕ) : Type 0 where
  pub stem : List Row
  pub turn : Row
  pub turns : List Row
  pub parted : rows ≡ stem ++ (turn ∷ turns)
  pub place : start ≡ length stem
  pub closed : state_after first rows ≡ state_after first stem
  pub held : All IsHeld rows
  pub met : (goal : ℕ) → goal < goals → Meet (turn ∷ turns) goal

-- the claim that a justice property is met, by the trace of the circuit that shows its goals, is a lasso whose loop
-- begins at this step
pub record IsLasso (c : Circuit) (claim : Claim) (start : ℕ) : Type 0 where
  pub rows : List Row
  pub trace : IsTrace (with_goals claim.property c) claim.first claim.steps rows
  pub lasso : IsLassoAt (length (with_goals claim.property c).bad) claim.first rows start

-- the verdict on such a claim: the first step at which a loop begins, or that there is none
abbrev pub IsLassoVerdict : Circuit → Claim → LassoVerdict → Type 0
IsLassoVerdict c claim (Confirmed start) =
    IsLasso c claim start × ((earlier : ℕ) → earlier < start → ¬ IsLasso c claim earlier)
IsLassoVerdict c claim NotConfirmed = (start : ℕ) → ¬ IsLasso c claim start
