use Rattle.std.proofs.Common.{◌∙◌, ap, replicate}
use Rattle.aig_places.proofs.Side.Planes.{table_of_x}
use Rattle.aig_places.proofs.tables.fill_table.Goals as goal

pub returns-clause-lanes : goal.returns-clause-lanes
returns-clause-lanes c l variables below long =
    let filled = c.fill.ensures.after (λ y is. is) ∙ ap (λ n. replicate n c.plane_of.result) long in
    rw filled
    (table_of_x l variables c.plane_of.result c.plane_of.ensures.plane (c.plane_of.ensures.bits l below))
