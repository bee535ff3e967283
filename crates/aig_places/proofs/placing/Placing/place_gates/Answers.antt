use Rattle.std.proofs.Common.{◌≡◌, ◌∷◌, ◌++◌, ◌∙◌, List, [], arith, rules, subst, take_all}
use Rattle.aig_step.specs.declared.evaluate.Pair.{Pair}
use Rattle.aig_places.specs.Places.{ArePlaced, IsPlaced}
use Rattle.aig_places.proofs.Side.Places.{holders_before, none_placed, placed_more}
use Rattle.aig_places.proofs.placing.Placing.place_gates.Goals as goal

pub loop-pair-init : goal.loop-pair-init
loop-pair-init c =
    let none : c.in-Ok.gates.items ≡ [] = search rules in
    record {
      variable = omega arith;
      places = search rules;
      before = c.requires.before;
      placed = rw none (none_placed c.args.first c.args.self.now.holders.items);
    }

pub loop-pair-preserved : goal.loop-pair-preserved
loop-pair-preserved c =
    let gate = c.in_ok-place_gate.field-0 in
    let first = c.args.first in
    let i = c.loop-pair.pair-index in
    let holders = c.loop-pair.self.holders.items in
    let holders_now = c.place_gate.new.self.holders.items in
    let placed : IsPlaced c.loop-pair.variable c.pair-item.result holders holders_now gate =
    c.in_ok-place_gate.ensures.placed in
    let pushed : c.push.new.self.items ≡ c.loop-pair.gates.items ++ gate ∷ [] = search rules in
    record {
      variable = omega (arith, c.loop-pair.invariant.variable);
      places = c.place_gate.ensures.places ∙ c.loop-pair.invariant.places;
      before = holders_before c.loop-pair.variable c.pair-item.result holders holders_now gate placed
          c.loop-pair.invariant.before;
      placed = rw pushed
          (placed_more first i c.args.pairs.now c.pair-item.result c.args.self.now.holders.items holders holders_now
          c.loop-pair.gates.items gate c.loop-pair-test.true c.pair-item.is
          (rw c.loop-pair.invariant.variable at c.loop-pair.invariant.before) c.loop-pair.invariant.placed
          (rw c.loop-pair.invariant.variable at placed));
    }

pub returns-clause-placed : goal.returns-clause-placed
returns-clause-placed c =
    subst
    (λ (ps : List Pair). ArePlaced c.args.first ps c.args.self.now.holders.items c.loop-pair.self.holders.items
    c.loop-pair.gates.items)
    (take_all c.loop-pair.pair-index c.args.pairs.now c.loop-pair-test.false) c.loop-pair.invariant.placed
