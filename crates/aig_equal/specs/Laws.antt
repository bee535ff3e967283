-- What the miter says of its circuits.
use Rattle.std.specs.Prelude.{◌≡◌, ◌↔◌, ℕ, List, [], Bool}
use Rattle.aig_circuit.specs.declared.circuit.Circuit.{Circuit}
use Rattle.aig_circuit.specs.declared.value.Val.{Val}
use Rattle.aig_circuit.specs.Wellformed.{IsWellFormed}
use Rattle.aig_cnf.specs.Clauses.{Satisfies, bad_clauses}
use Rattle.aig_invariant.specs.Invariant.{Cube, with_invariant}
use Rattle.aig_invariant.specs.Outcome.{HasCubes}
use Rattle.aig_meaning.specs.Trace.{IsFirstState}
use Rattle.aig_miter.specs.Laws.{IsMiterOf}
use Rattle.aig_miter.specs.Starts.{pairs}
use Rattle.aig_unroll.specs.Unrolled.{IsUnrolled}
use Rattle.aig_equal.specs.Alike.{AreAlike, AreAlikeFor, IsUnreachedFor, StartAlike}

abbrev pub AlikeExactlyWhereUnreached : Type 0
AlikeExactlyWhereUnreached = (a b m : Circuit) (frames : ℕ) → IsMiterOf a b m
    → AreAlikeFor frames a b ↔ IsUnreachedFor frames m

-- Where nothing satisfies the clauses of the miter, unrolled over so many frames, the circuits are alike for so many
-- steps.
abbrev pub RefutedMeansAlike : Type 0
RefutedMeansAlike = (a b m d : Circuit) (frames : ℕ) → IsMiterOf a b m → IsWellFormed d → IsUnrolled m frames d
    → ((x : ℕ → Bool) → ¬ Satisfies x (bad_clauses d)) → AreAlikeFor frames a b

-- Where nothing satisfies the clauses of the miter with an invariant, unrolled over one frame, they are alike.
abbrev pub InvariantMeansAlike : Type 0
InvariantMeansAlike = (a b m d : Circuit) (bytes : List ℕ) (cubes : List Cube) → IsMiterOf a b m
    → HasCubes m bytes cubes → IsWellFormed (with_invariant cubes m) → IsWellFormed d
    → IsUnrolled (with_invariant cubes m) 1 d → ((x : ℕ → Bool) → ¬ Satisfies x (bad_clauses d)) → AreAlike a b

-- Where not both circuits have an uninitialised latch, all states start alike.
abbrev pub AllStartAlikeWithoutPairs : Type 0
AllStartAlikeWithoutPairs = (a b : Circuit) (first second : List Val) → pairs a b ≡ 0
    → IsFirstState a first → IsFirstState b second → StartAlike a b first second

-- Where circuits have no latches, one step says all.
abbrev pub OneStepSaysAll : Type 0
OneStepSaysAll = (a b : Circuit) → a.latches ≡ [] → b.latches ≡ [] → AreAlikeFor 1 a b → AreAlike a b
