use Rattle.std.proofs.Common.{List, ℕ, subst}
use Rattle.aig_refute.specs.Kept.{HaveSameLiterals}
use Rattle.aig_refute.proofs.clause_table.is_at.Goals as goal

pub returns : goal.returns
returns c = λ is_true e is.
    subst (λ (l : List ℕ). HaveSameLiterals l c.args.clause.now) (c.clause.ensures e is)
    (c.have_same_literals.ensures is_true)
