use Rattle.std.proofs.Common.{◌∙◌}
use Rattle.aig_refute.proofs.Later.{preserves_back}
use Rattle.aig_refute.proofs.checker.Checker.follows.Goals as goal

pub returns-clause-preserves : goal.returns-clause-preserves
returns-clause-preserves c =
    preserves_back c.args.clause.now c.args.self.now c.contradicts.new.self _ c.contradicts.ensures.supposes
    c.forget.ensures.store
    c.forget.ensures.refuted c.forget.ensures.extends (c.forget.ensures.len ∙ c.known_count-base.ensures)
