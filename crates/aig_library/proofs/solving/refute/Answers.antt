use Rattle.std.proofs.Common.{rules}
use Rattle.aig_library.specs.Asked.{CanReach}
use Rattle.aig_library.proofs.Answered.{show_answered}
use Rattle.aig_library.proofs.Comings.{none_refused, none_within}
use Rattle.aig_library.proofs.solving.refute.Goals as goal

pub returns : goal.returns
returns c =
    let can : CanReach c.args.frames c.args.max_var = search rules in
    show_answered (λ v. v.items) _ _ _ _ _ can
    (none_refused _ c.args.property c.args.frames c.args.max_var) _
    (none_within _ c.args.property c.args.frames c.args.max_var) c.run_in_memory.result
    (rw c.reaching-request.ensures at c.run_in_memory.ensures.ok)
    (rw c.reaching-request.ensures at c.run_in_memory.ensures.err) c.answer_shown.ensures.shown
    c.answer_shown.ensures.stopped
