use Rattle.aig_tables.proofs.Tables.Maps.{nothing, none_kept}
use Rattle.aig_tables.proofs.var_map.VarMap.new.Goals as goal

pub returns : goal.returns
returns g c =
    nothing _ (none_kept (g.T.Table.Places.covered c.in_ok-new.field-0) (g.T.Table.Places.held c.in_ok-new.field-0)
    c.in_ok-new-2.field-0 c.in_ok-new.ensures c.in_ok-new-2.ensures)
