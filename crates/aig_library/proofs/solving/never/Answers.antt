use Rattle.std.proofs.Common.{rules}
use Rattle.aig_library.specs.Asked.{CanProve}
use Rattle.aig_library.proofs.Answered.{show_answered}
use Rattle.aig_library.proofs.Comings.{never_of_model, never_refused}
use Rattle.aig_library.proofs.solving.never.Goals as goal

pub returns : goal.returns
returns c =
    let can : CanProve c.args.max_var = search rules in
    show_answered (λ v. v.items) _ _ _ _ _ can (never_refused _ c.args.property c.args.max_var) _
    (never_of_model _ c.args.property c.args.max_var) c.run_in_memory.result
    (rw c.proving.ensures at c.run_in_memory.ensures.ok)
    (rw c.proving.ensures at c.run_in_memory.ensures.err) c.answer_shown.ensures.shown c.answer_shown.ensures.stopped
