use Rattle.std.proofs.Common.{◌<◌, ◌∙◌, List, [], ap, arith, get_or, length, subst}
use Rattle.std.proofs.lemmas.List.{get_or_default, length-set}
use Rattle.aig_lanes.specs.declared.input_bits.InputWord.{InputWord}
use Rattle.aig_lanes.specs.declared.run.Run.{Run}
use Rattle.aig_lanes.specs.Parts.InputBits.{HoldsInputs}
use Rattle.aig_lanes.proofs.Side.InputBits.{put_more, same_sizes}
use Rattle.aig_lanes.proofs.input_bits.fill_lanes.Goals as goal

pub loop-lane-preserved : goal.loop-lane-preserved
loop-lane-preserved c =
    let runs = c.args.runs.now in
    let lanes = c.loop-lane.lanes in
    let at = c.loop-lane.lane in
    let now = c.fill.new.self in
    let first = c.args.first in
    let in_runs : at < length runs = omega (arith, c.loop-lane-test.true, c.loop-lane.auto.lane-end) in
    let inside : at < length lanes =
    omega (arith, in_runs, c.requires.lanes.0, c.requires.lanes.1, c.loop-lane.invariant.count) in
    let was = get_or_default lanes at c.index-lanes-lane.result [] inside in
    record {
      holds = λ k d.
          put_more (λ i. HoldsInputs first (get_or runs i d)) lanes at now [] inside
          (λ i. c.loop-lane.invariant.holds i d)
          (subst (λ (run : Run). HoldsInputs first run now)
          (c.index-runs-lane.is ∙ get_or_default runs at _ d in_runs) c.fill.ensures.holds) k;
      count = length-set lanes at now ∙ c.loop-lane.invariant.count;
      sizes = λ k.
          same_sizes (λ (ws : List InputWord). length ws) lanes at now [] inside
          (c.fill.ensures.size ∙ ap (λ (ws : List InputWord). length ws) was) k
          ∙ c.loop-lane.invariant.sizes k;
    }

pub returns-clause-holds : goal.returns-clause-holds
returns-clause-holds c = λ l d below.
    c.loop-lane.invariant.holds l d (omega (arith, below, c.loop-lane-test.false, c.loop-lane.auto.lane-end))
