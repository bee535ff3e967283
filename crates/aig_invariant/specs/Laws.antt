-- What the definitions say of one another.
use Rattle.std.specs.Prelude.{◌≡◌, ◌⊎◌, ◌↔◌, ℕ, List, Bool, Option, map}
use Rattle.std.specs.List.{All, Contains}
use Rattle.aig_circuit.specs.declared.circuit.Circuit.{Circuit}
use Rattle.aig_circuit.specs.declared.value.Val.{Val}
use Rattle.aig_circuit.specs.declared.value.Val.TheVariants.{Zero, One}
use Rattle.aig_circuit.specs.Wellformed.{IsWellFormed}
use Rattle.aig_cnf.specs.Clauses.{Satisfies, bad_clauses}
use Rattle.aig_meaning.specs.Meaning.{IsRow, Row}
use Rattle.aig_replay.specs.Alone.{HasSelected, selected_of}
use Rattle.aig_replay.specs.Laws.{IsOfSelected}
use Rattle.aig_unroll.specs.Unrolled.{IsUnrolled}
use Rattle.aig_witness.specs.declared.verdict.Verdict.TheVariants.{Confirmed}
use Rattle.aig_witness.specs.Witness.{Claim, IsHeld, IsVerdict}
use Rattle.aig_invariant.specs.Invariant.{Cube, meets, with_invariant}
use Rattle.aig_invariant.specs.Outcome.{HasCubes}

-- no claim of the selected bad state, or of any where none is selected, is confirmed at any step of any run
abbrev pub IsNever : Circuit → Option ℕ → Type 0
IsNever c selected = (claim : Claim) (step : ℕ) → IsOfSelected selected claim → ¬ IsVerdict c claim (Confirmed step)

-- Where nothing satisfies the clauses of the circuit with an invariant, unrolled over one frame, no claim of the
-- circuit is confirmed at any step, with x or without.
abbrev pub InvariantsMeanNever : Type 0
InvariantsMeanNever = (c d : Circuit) (selected : Option ℕ) (bytes : List ℕ) (cubes : List Cube) → IsWellFormed c
    → HasSelected selected c → HasCubes (selected_of selected c) bytes cubes
    → IsWellFormed (with_invariant cubes (selected_of selected c)) → IsWellFormed d
    → IsUnrolled (with_invariant cubes (selected_of selected c)) 1 d → ((a : ℕ → Bool) → ¬ Satisfies a (bad_clauses d))
    → IsNever c selected

-- A step of the circuit breaks the invariant: its state meets no cube and all constraints are 1, and a bad state is 1,
-- or the next state meets a cube.
pub record Breaks (c : Circuit) (cubes : List Cube) (row : Row) : Type 0 where
  pub is_row : IsRow c row
  pub unmet : All (λ (v : Val). v ≡ Zero) (map (meets row.state) cubes)
  pub held : IsHeld row
  pub wrong : Contains row.bad One ⊎ Contains (map (meets row.next) cubes) One

-- The clauses of a circuit with an invariant can be satisfied exactly where a step of the circuit breaks it. So the
-- clauses of an invariant that no step breaks cannot.
abbrev pub SatisfiableExactlyWhereBroken : Type 0
SatisfiableExactlyWhereBroken = (c d : Circuit) (cubes : List Cube) → IsWellFormed c
    → IsWellFormed (with_invariant cubes c) → IsWellFormed d → IsUnrolled (with_invariant cubes c) 1 d
    → ((a : ℕ → Bool) × Satisfies a (bad_clauses d)) ↔ ((row : Row) × Breaks c cubes row)
