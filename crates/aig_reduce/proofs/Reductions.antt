-- What satisfies the clauses of a circuit goes over to what is left of it.
use Rattle.std.proofs.Common.{refl, subst, sym, true, false}
use Rattle.aig_circuit.specs.declared.circuit.Circuit.{Circuit}
use Rattle.aig_alike.proofs.Refuted.{satisfied_alike}
use Rattle.aig_meaning.proofs.Traces.{same_back}
use Rattle.aig_reduce.specs.Laws.{GoesOver, ReductionsAreSatisfiedAlike}
use Rattle.aig_reduce.specs.Reduced.{without_outputs}
use Rattle.aig_reduce.proofs.Formed.{without_outputs_is_well_formed}

goes_to_itself : (c : Circuit) → GoesOver c c
goes_to_itself c a satisfied = (a, satisfied, refl, refl)

-- clauses know nothing of outputs
pub reductions_are_satisfied_alike : ReductionsAreSatisfiedAlike
reductions_are_satisfied_alike true c d good is =
    let alone = without_outputs c in
    let formed = without_outputs_is_well_formed c good in (
      satisfied_alike alone d formed is.formed is.same,
      satisfied_alike d alone is.formed formed (same_back alone d is.same),
    )
reductions_are_satisfied_alike false c d good is =
    subst (λ (e : Circuit). GoesOver c e × GoesOver e c) (sym is) (goes_to_itself c, goes_to_itself c)
