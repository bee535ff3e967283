use Rattle.std.proofs.Common.{rules}
use Rattle.aig_library.specs.Asked.{CanProve}
use Rattle.aig_library.proofs.Answered.{text_answered}
use Rattle.aig_library.proofs.Comings.{proving_refused, proving_text}
use Rattle.aig_library.proofs.solving.invariant_clauses.Goals as goal

pub returns : goal.returns
returns c =
    let can : CanProve c.args.max_var = search rules in
    text_answered (λ v. v.items) _ _ _ _ _ can (proving_refused _ c.args.property c.args.max_var) _ _ _
    (proving_text _ c.args.property c.args.max_var) c.run_in_memory.result
    (rw c.proving.ensures at c.run_in_memory.ensures.ok)
    (rw c.proving.ensures at c.run_in_memory.ensures.err) c.answer.ensures.text c.answer.ensures.stopped
