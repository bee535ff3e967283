use Rattle.std.proofs.Common.{List, rules, ℕ}
use Rattle.aig_commands.specs.Jobs.{Makes}
use Rattle.aig_commands.specs.declared.job.Reading.TheVariants as readings
use Rattle.aig_library.specs.Asked.{CanCompare, comparison}
use Rattle.aig_library.proofs.Miters.{miter_answered}
use Rattle.aig_library.proofs.comparing.miter.Goals as goal

pub returns-in-Ok : goal.returns-in-Ok
returns-in-Ok c =
    let can : CanCompare c.args.options c.args.max_var = search rules in
    let request = comparison c.args.options c.args.max_var in
    let makes : Makes (readings.First request) c.args.first.now c.in-Ok.next = search rules in
    miter_answered (λ v. v.items) c.args.options c.args.max_var c.args.first.now _ c.in-Ok.next _ _ _ can makes
    c.run_in_memory.result c.run_in_memory.ensures.ok c.run_in_memory.ensures.err c.answer_second.ensures.text
    c.answer_second.ensures.stopped
