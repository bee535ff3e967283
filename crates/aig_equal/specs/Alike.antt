-- Circuits that are alike: what they show, for so many steps or at every step (this project's profile). What is
-- compared of two rows, and for how long two runs stay alike, `Both` of aig_miter says.
use Rattle.std.specs.Prelude.{◌≡◌, ◌≤◌, ◌<◌, ℕ, List, length}
use Rattle.std.specs.List.{AllByRecursion}
use Rattle.aig_circuit.specs.declared.circuit.Circuit.{Circuit}
use Rattle.aig_circuit.specs.declared.value.Val.{Val}
use Rattle.aig_circuit.specs.declared.value.Val.TheVariants.{Zero}
use Rattle.aig_meaning.specs.Meaning.{Row}
use Rattle.aig_meaning.specs.Trace.{IsTrace}
use Rattle.aig_miter.specs.Both.{StayAlike, differ}
use Rattle.aig_miter.specs.Starts.{free_only}
use Rattle.aig_unroll.specs.Unrolled.{resets_of}
use Rattle.aig_witness.specs.declared.verdict.Verdict.TheVariants.{Confirmed}
use Rattle.aig_witness.specs.Witness.{Claim, IsVerdict}

-- uninitialised latches of both start at equal values, neither of them x: the first of one circuit and the first of the
-- other, and so on, as far as both have some
abbrev pub StartAlike : Circuit → Circuit → List Val → List Val → Type 0
StartAlike a b first second =
    AllByRecursion (λ x. x ≡ Zero) (differ (free_only (resets_of a) first) (free_only (resets_of b) second))

-- Two circuits are alike for so many steps: whatever inputs both get, and whatever states they start in, if those are
-- alike, they stay alike for as long as the constraints of the first hold.
abbrev pub AreAlikeFor : ℕ → Circuit → Circuit → Type 0
AreAlikeFor frames a b = (first second : List Val) (vectors : List (List Val)) (rs ss : List Row)
    → length vectors ≤ frames → IsTrace a first vectors rs → IsTrace b second vectors ss → StartAlike a b first second
    → StayAlike rs ss

-- and at every step
abbrev pub AreAlike : Circuit → Circuit → Type 0
AreAlike a b = (frames : ℕ) → AreAlikeFor frames a b

-- no claim is confirmed at one of the first so many steps
abbrev pub IsUnreachedFor : ℕ → Circuit → Type 0
IsUnreachedFor frames c = (claim : Claim) (step : ℕ) → step < frames → ¬ IsVerdict c claim (Confirmed step)
