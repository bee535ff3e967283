use Rattle.std.proofs.Common.{◌∙◌, ap, sym}
use Rattle.aig_verdicts.proofs.Ends.{bad_judged}
use Rattle.aig_verdicts.specs.Parts.Reading.{Reading}
use Rattle.aig_verdicts.proofs.witness.judge_read.Goals as goal
use Rattle.aig_witness.specs.Parts.Witnessing.{verdict_of}

pub returns-in-BadState : goal.returns-in-BadState
returns-in-BadState c = λ bytes is.
    bad_judged c.args.checked.now c.args.reader.now bytes is c.verdict.result
    (ap (λ (r : Reading). r.stage) (sym c.reader.view_is) ∙ c.in-BadState.is)
    (c.verdict.ensures ∙ ap (λ (r : Reading). verdict_of r.checker.search.found) c.reader.view_is)
