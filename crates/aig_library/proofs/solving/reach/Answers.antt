use Rattle.std.proofs.Common.{rules}
use Rattle.aig_library.specs.Asked.{CanReach}
use Rattle.aig_library.proofs.Answered.{text_answered}
use Rattle.aig_library.proofs.Comings.{answer_refused, answer_text}
use Rattle.aig_library.proofs.solving.reach.Goals as goal

pub returns : goal.returns
returns c =
    let can : CanReach c.args.frames c.args.max_var = search rules in
    text_answered (λ v. v.items) _ _ _ _ _ can
    (answer_refused _ c.args.property c.args.frames c.args.max_var) _ _ _
    (answer_text _ c.args.property c.args.frames c.args.max_var) c.run_in_memory.result
    (rw c.reaching-request.ensures at c.run_in_memory.ensures.ok)
    (rw c.reaching-request.ensures at c.run_in_memory.ensures.err) c.answer.ensures.text c.answer.ensures.stopped
