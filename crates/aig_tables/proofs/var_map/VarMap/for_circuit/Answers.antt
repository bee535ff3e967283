use Rattle.aig_tables.proofs.Tables.Maps.{nothing, none_kept}
use Rattle.aig_tables.proofs.var_map.VarMap.for_circuit.Goals as goal

pub returns : goal.returns
returns g c =
    let places = c.in_ok-for_circuit in
    nothing _ (none_kept (g.T.Table.Places.covered places.field-0) (g.T.Table.Places.held places.field-0)
    c.in_ok-new.field-0 places.ensures c.in_ok-new.ensures)
