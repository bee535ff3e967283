use Rattle.aig_invariant.proofs.Broken.{satisfiable_exactly_where_broken}
use Rattle.aig_invariant.proofs.laws.satisfiable_exactly_where_broken.Goals as goal

pub returns : goal.returns
returns c = satisfiable_exactly_where_broken
