use Rattle.std.proofs.Common.{◌<◌, arith, length}
use Rattle.std.specs.List.{zip}
use Rattle.std.proofs.lemmas.List.Elements.{All-contains}
use Rattle.std.proofs.lemmas.Slice.Zip.{length-zip}
use Rattle.aig_cuts.specs.Cuts.{IsRightAs, Planned}
use Rattle.aig_cuts.proofs.Looking.{each_more, pair_there}
use Rattle.aig_cuts.proofs.check.are_right.Goals as goal

pub loop-at-preserved : goal.loop-at-preserved
loop-at-preserved c =
    let gates = c.args.gates.now in
    let plan = c.args.plan.now in
    let there : c.loop-at.at < length plan = omega arith in
    each_more (λ (p : Planned). IsRightAs (zip gates plan) p.0 p.1) (zip gates plan) c.loop-at.at
    (c.index-gates-at.result, c.index-plan-at.result) (omega (arith, length-zip gates plan))
    (pair_there gates plan c.loop-at.at c.index-gates-at.result c.index-plan-at.result c.loop-at-test.true there
    c.index-gates-at.is c.index-plan-at.is) (c.is_right.ensures c.if-not-is_right.false) c.loop-at.invariant

pub returns : goal.returns
returns c _ g cut =
    let gates = c.args.gates.now in
    let plan = c.args.plan.now in
    All-contains (λ (p : Planned). IsRightAs (zip gates plan) p.0 p.1) (zip gates plan) (g, cut)
    (λ k d below. c.loop-at.invariant k (omega (arith, below, length-zip gates plan)) d)
