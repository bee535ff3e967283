use Rattle.std.proofs.Common.{false, refl, true}
use Rattle.aig_verdicts.proofs.Ends.{came_so, cut_off, read_whole, wrong_among, wrong_behind}
use Rattle.aig_verdicts.proofs.witness.read_all.Goals.{then-not-good-via-else-not-good+then-not-is_whole}
use Rattle.aig_verdicts.proofs.witness.read_all.Goals.{then-not-good-via-then-not-good}
use Rattle.aig_verdicts.proofs.witness.read_all.Goals as goal
use Rattle.aig_verdicts.specs.Parts.Reading.{reading_state}
use Rattle.aig_witness.specs.Witness.{Nothing}

pub returns-in_default : goal.returns-in_default
returns-in_default g c =
    let first = c.args.reader.now in
    let came = c.in_default.ensures (reading_state first.checker.circuit first.justices false Nothing)
    (record { circuit = refl; justices = refl; stands = c.requires.begun }) in
    cut_off _ _ c.requires.few c.requires.few_justices _ _ c.feed_source.new.feeder c.feed_source.new.taker
    c.in_default.field-0 (rw c.requires.limit at came)

pub returns-then-not-good : goal.returns-then-not-good
returns-then-not-good g c =
    let first = c.args.reader.now in
    let came = c.in-Ok.ensures (reading_state first.checker.circuit first.justices false Nothing)
    (record { circuit = refl; justices = refl; stands = c.requires.begun }) in
    let f = c.feed_source.new.feeder in
    let r = c.feed_source.new.taker in
    rw (c.refused_at.ensures, c.number.ensures) (elim c.then-not-good.branch [
      | then-not-good-via-then-not-good b ↦ wrong_among _ _ c.requires.few c.requires.few_justices _ _ f r
          (came_so _ _ c.requires.few c.requires.few_justices _ _ f r _ c.in-Ok.good false c.requires.limit
          b.if-not-good.true came)
      | then-not-good-via-else-not-good+then-not-is_whole b ↦
          wrong_behind _ _ c.requires.few c.requires.few_justices _ _ f r
          (came_so _ _ c.requires.few c.requires.few_justices _ _ f r _ c.in-Ok.good true c.requires.limit
          b.if-not-good.false came)
          (b.is_whole.ensures.due b.if-not-is_whole.true)
    ])

pub returns : goal.returns
returns g c =
    let first = c.args.reader.now in
    let came = c.in-Ok.ensures (reading_state first.checker.circuit first.justices false Nothing)
    (record { circuit = refl; justices = refl; stands = c.requires.begun }) in
    let f = c.feed_source.new.feeder in
    let r = c.feed_source.new.taker in
    read_whole _ _ c.requires.few c.requires.few_justices _ _ f r
    (came_so _ _ c.requires.few c.requires.few_justices _ _ f r _ c.in-Ok.good true c.requires.limit
    c.if-not-good.false came)
    (c.is_whole.ensures.whole c.if-not-is_whole.false) tt
