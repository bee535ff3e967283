use Rattle.std.proofs.Common.{◌≡◌, ◌-◌, ◌∙◌, ◌++◌, ap, arith, replicate, take, List, [], ℕ}
use Rattle.std.proofs.Math.Seq.{take-nil}
use Rattle.aig_places.proofs.Side.Planes.{table_of_x}
use Rattle.aig_places.proofs.tables.new_table.Goals as goal

filled : (n len : ℕ) (plane : List ℕ) (planes : List (List ℕ)) → planes ≡ [] → len ≡ 0
    → take n planes ++ replicate (n - len) plane ≡ replicate n plane
filled n len plane planes none zero = rw (none, zero, take-nil) (ap (λ (m : ℕ). replicate m plane) (omega arith))

pub returns-clause-lanes : goal.returns-clause-lanes
returns-clause-lanes c l below =
    rw (
    c.in_ok-resize.ensures.items
    ∙ filled _ _ c.plane_of.result _ c.new-table.ensures.items c.new-table.ensures.len
    )
    (table_of_x l c.args.variables c.plane_of.result c.plane_of.ensures.plane (c.plane_of.ensures.bits l below))
