-- Two circuits that list the same literals beside their latches and gates, and the same sizes.
use Rattle.std.specs.Prelude.{◌==◌, ◌&&◌, ℕ, List, Bool}
use Rattle.std.specs.Cmp.Lexicographic.{pointwise}
use Rattle.aig_circuit.specs.declared.circuit.Circuit.{Circuit}

abbrev pub same_numbers : List ℕ → List ℕ → Bool
same_numbers = pointwise (λ m n. m == n)

abbrev pub same_lists : Circuit → Circuit → Bool
same_lists a b =
    same_numbers a.outputs b.outputs
    && (same_numbers a.bad b.bad
    && (same_numbers a.constraints b.constraints
    && ((same_numbers a.justice.sizes b.justice.sizes && same_numbers a.justice.literals b.justice.literals)
    && same_numbers a.fairness b.fairness)))
