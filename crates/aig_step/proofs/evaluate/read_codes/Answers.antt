use Rattle.std.proofs.lemmas.Grind.{common_steps}
use Rattle.std.proofs.Common.{◌+◌, ◌∙◌, ap, sym, take, drop, get_or, arith}
use Rattle.std.proofs.lemmas.List.{length-set, take_more, take_more_set}
use Rattle.aig_step.specs.Stimulus.{values_of}
use Rattle.aig_step.proofs.LineValues.{no_values, values_on, parted}
use Rattle.aig_step.proofs.evaluate.read_codes.Goals as goal

pub returns-in_default-clause-bad : goal.returns-in_default-clause-bad
returns-in_default-clause-bad c = λ _.
    let text = c.args.text.now in
    let i = c.loop-i.i in
    ap values_of (parted text i 0 c.loop-i-test.true)
    ∙ no_values (take i text) (drop (i + 1) text) (get_or text i 0) (sym c.in_default.ensures)

pub loop-i-preserved : goal.loop-i-preserved
loop-i-preserved c = grind (arith, common_steps, take_more, values_on, take_more_set, length-set)
