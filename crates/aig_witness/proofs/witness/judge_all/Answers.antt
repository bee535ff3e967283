use Rattle.std.proofs.Common.{false, refl, true}
use Rattle.aig_witness.specs.Witness.{Nothing}
use Rattle.aig_witness.specs.Parts.Witnessing.{witness_state}
use Rattle.aig_witness.proofs.WitnessEnds.{came_so, cut_off, judged, wrong_among, wrong_behind}
use Rattle.aig_witness.proofs.witness.judge_all.Goals.{then-not-good-via-else-not-good+then-not-is_whole}
use Rattle.aig_witness.proofs.witness.judge_all.Goals.{then-not-good-via-then-not-good}
use Rattle.aig_witness.proofs.witness.judge_all.Goals as goal

pub returns-in_default : goal.returns-in_default
returns-in_default g c =
    let came = c.in_default.ensures (witness_state c.args.checker.now.circuit Nothing) (refl, c.requires.begun) in
    cut_off _ c.requires.few _ _ c.feed_source.new.feeder c.feed_source.new.taker c.in_default.field-0
    (rw c.requires.limit at came)

pub returns-then-not-good : goal.returns-then-not-good
returns-then-not-good g c =
    let came = c.in-Ok.ensures (witness_state c.args.checker.now.circuit Nothing) (refl, c.requires.begun) in
    let f = c.feed_source.new.feeder in
    let w = c.feed_source.new.taker in
    rw (c.refused_at.ensures, c.number.ensures) (elim c.then-not-good.branch [
      | then-not-good-via-then-not-good b ↦ wrong_among _ c.requires.few _ _ f w
          (came_so _ c.requires.few _ _ f w _ c.in-Ok.good false c.requires.limit b.if-not-good.true came)
      | then-not-good-via-else-not-good+then-not-is_whole b ↦ wrong_behind _ c.requires.few _ _ f w
          (came_so _ c.requires.few _ _ f w _ c.in-Ok.good true c.requires.limit b.if-not-good.false came)
          (b.is_whole.ensures.due b.if-not-is_whole.true)
    ])

pub returns : goal.returns
returns g c =
    let came = c.in-Ok.ensures (witness_state c.args.checker.now.circuit Nothing) (refl, c.requires.begun) in
    let f = c.feed_source.new.feeder in
    let w = c.feed_source.new.taker in
    judged _ c.requires.few _ _ f w c.verdict.result
    (came_so _ c.requires.few _ _ f w _ c.in-Ok.good true c.requires.limit c.if-not-good.false came)
    (c.is_whole.ensures.whole c.if-not-is_whole.false) c.verdict.ensures
