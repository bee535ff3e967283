use Rattle.std.proofs.Common.{◌≡◌, ◌∙◌, IfOk, not, ap, sym, subst}
use Rattle.std.proofs.lemmas.Result.{on_ok_weaker}
use Rattle.aig_tables.specs.VarMap.{keys_of}
use Rattle.aig_tables.proofs.Tables.Maps.{has_key, one_more_key}
use Rattle.aig_tables.proofs.var_set.VarSet.insert.Goals as goal

pub returns-clause-added : goal.returns-clause-added
returns-clause-added c =
    rw (← c.self.view_is) (subst (λ b. IfOk c.insert.result (λ added. added ≡ not b))
    (sym (has_key c.self.inside.marks c.args.var)) c.insert.ensures.added)

pub returns-clause-ok : goal.returns-clause-ok
returns-clause-ok c =
    rw (← c.self.view_is) (
    on_ok_weaker c.insert.result (λ is. ap keys_of is ∙ one_more_key c.self.inside.marks c.args.var tt)
    c.insert.ensures.ok)
