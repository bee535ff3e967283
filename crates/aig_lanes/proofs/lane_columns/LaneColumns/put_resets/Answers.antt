use Rattle.std.proofs.Common.{List, length, map, replicate, subst, ℕ}
use Rattle.aig_circuit.specs.declared.value.Val.TheVariants.{X}
use Rattle.aig_meaning.specs.Meaning.{literal_value}
use Rattle.aig_places.specs.Lanes.{IsLane}
use Rattle.aig_step.specs.Parts.Tables.{read_from}
use Rattle.aig_lanes.proofs.lane_columns.LaneColumns.put_resets.Goals as goal

pub returns-clause-state : goal.returns-clause-state
returns-clause-state c l values low is =
    subst (λ (ls : List ℕ). IsLane l c.put_literal_planes.new.state (map (literal_value (read_from values)) ls))
    c.deref-2.ensures.value
    (c.put_literal_planes.ensures l values (replicate (length c.args.self.now.resets.items) X) is
    (c.fill_table.ensures.lanes l (length c.args.self.now.resets.items) low c.requires.state))
