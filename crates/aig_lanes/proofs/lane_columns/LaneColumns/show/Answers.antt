use Rattle.std.proofs.Common.{◌≡◌, ◌-◌, ℕ, List, drop, length, map, subst}
use Rattle.aig_meaning.specs.Meaning.{literal_value}
use Rattle.aig_places.specs.Lanes.{IsLane}
use Rattle.aig_step.specs.Parts.Tables.{read_from}
use Rattle.aig_lanes.proofs.lane_columns.LaneColumns.show.Goals as goal

pub returns-clause-state : goal.returns-clause-state
returns-clause-state c l values before is from =
    let shown = c.args.self.now in
    let next : c.split_at.result.1.now
    ≡ drop (length shown.literals.items - length shown.resets.items) shown.literals.items =
    cc (c.split_at.ensures.back, c.len-3.ensures, c.len-4.ensures, c.deref-2.ensures.value) in
    subst (λ (ls : List ℕ). IsLane l c.put_literal_planes.new.state (map (literal_value (read_from values)) ls)) next
    (c.put_literal_planes.ensures l values before is from)
