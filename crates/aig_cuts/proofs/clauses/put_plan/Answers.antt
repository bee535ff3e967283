use Rattle.std.proofs.Common.{◌<◌, ◌≤◌, List, arith, length, subst}
use Rattle.std.specs.List.{flat_map, zip}
use Rattle.std.proofs.lemmas.List.{take_all}
use Rattle.std.proofs.lemmas.Slice.Zip.{length-zip}
use Rattle.aig_io.specs.Output.{Appended}
use Rattle.aig_io.proofs.Puts.{put_more}
use Rattle.aig_cuts.specs.Cuts.{Planned}
use Rattle.aig_cuts.specs.Parts.Counted.{planned_text}
use Rattle.aig_cuts.proofs.Looking.{pair_there}
use Rattle.aig_cuts.proofs.clauses.put_plan.Goals as goal

pub loop-at-preserved : goal.loop-at-preserved
loop-at-preserved g c =
    let gates = c.args.gates.now in
    let plan = c.args.plan.now in
    let pair : Planned = (c.index-gates-at.result, c.index-plan-at.result) in
    let there : c.loop-at.at < length gates = omega (arith, c.loop-at-test.true, c.requires.few) in
    put_more planned_text (zip gates plan) c.loop-at.at pair pair _ _ _
    (pair_there gates plan c.loop-at.at c.index-gates-at.result c.index-plan-at.result there c.loop-at-test.true
    c.index-gates-at.is c.index-plan-at.is) c.loop-at.invariant c.put_planned.ensures
    (omega (arith, length-zip gates plan))

pub returns : goal.returns
returns g c =
    let planned = zip c.args.gates.now c.args.plan.now in
    let all : length planned ≤ c.loop-at.at = omega (arith, length-zip c.args.gates.now c.args.plan.now) in
    subst (λ (ps : List Planned). Appended c.args.output.now c.loop-at.output (flat_map planned_text ps))
    (take_all c.loop-at.at planned all) c.loop-at.invariant
