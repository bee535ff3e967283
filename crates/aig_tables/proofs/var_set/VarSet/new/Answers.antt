use Rattle.aig_tables.proofs.Tables.Maps.{no_keys}
use Rattle.aig_tables.proofs.var_set.VarSet.new.Goals as goal

pub returns : goal.returns
returns c = no_keys c.in_ok-new.field-0 c.in_ok-new.ensures
