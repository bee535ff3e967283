use Rattle.std.proofs.Common.{◌∙◌, ap, sym, is_some}
use Rattle.aig_tables.proofs.Tables.Maps.{has_key}
use Rattle.aig_tables.proofs.var_set.VarSet.contains.Goals as goal

pub returns : goal.returns
returns c = rw (← c.self.view_is)
    (c.is_some.ensures ∙ ap is_some c.get.ensures ∙ sym (has_key c.self.inside.marks c.args.var))
