use Rattle.std.proofs.Common.{◌∙◌, ℕ, ap, is_some}
use Rattle.aig_step.specs.Stimulus.{entry_in}
use Rattle.aig_batch.proofs.Judging.{entry_judged}
use Rattle.aig_batch.proofs.collected.JudgeLineTaker.take.Goals as goal

pub returns-clause-took : goal.returns-clause-took
returns-clause-took c = λ s at.
    let judged = entry_judged s (entry_in s.inputs c.args.text.now) in
    (at ∙ judged.0, c.is_entry.ensures ∙ ap (λ (n : ℕ). is_some (entry_in n c.args.text.now)) at ∙ judged.1)
