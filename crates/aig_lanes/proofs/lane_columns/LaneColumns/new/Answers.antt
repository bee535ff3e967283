use Rattle.std.proofs.Common.{◌≡◌, ◌+◌, All, List, ap, rules, subst, sym, ℕ}
use Rattle.aig_circuit.specs.declared.circuit.Latch.{Latch}
use Rattle.aig_lanes.specs.Parts.Kept.{step_literals}
use Rattle.aig_places.specs.Places.{StandFor}
use Rattle.aig_step.specs.Parts.Tables.{IsLiteralBelow}
use Rattle.aig_lanes.proofs.Benches.Steps.{literals_below}
use Rattle.aig_lanes.proofs.lane_columns.LaneColumns.new.Goals as goal

pub places_for-places-requires : goal.places_for-places-requires
places_for-places-requires c =
    let machine = c.args.machine.now in
    let parts = c.parts-parts.ensures in
    let literals : c.add_next.new.literals.items ≡ step_literals c.args.columns machine = search rules in
    let P = IsLiteralBelow (1 + c.parts-parts.result.now.max_var) in
    subst (λ (n : ℕ). All (IsLiteralBelow n) c.add_next.new.literals.items) (ap (λ n. 1 + n) parts.max_var)
    (subst (All P) (sym literals)
    (literals_below (1 + c.parts-parts.result.now.max_var) c.args.columns machine (record {
      outputs = subst (All P) parts.outputs parts.below.outputs;
      next = subst (All (λ (l : Latch). P l.next)) parts.latches parts.below.next;
      bad = subst (All P) parts.bad parts.below.bad;
      constraints = subst (All P) parts.constraints parts.below.constraints;
    })))

pub returns-clause-shows : goal.returns-clause-shows
returns-clause-shows c =
    let machine = c.args.machine.now in
    let found = c.places_for-places.result in
    let literals : c.add_next.new.literals.items ≡ step_literals c.args.columns machine = search rules in
    record {
      outputs = search rules;
      bad = search rules;
      constraints = search rules;
      resets = search rules;
      places = c.places_for-places.ensures.places;
      literals = subst (λ (ls : List ℕ). StandFor machine found.0 ls found.1.items) literals
          c.places_for-places.ensures.stand;
    }
