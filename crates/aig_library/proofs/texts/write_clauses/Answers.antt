use Rattle.std.proofs.Common.{rules}
use Rattle.aig_library.specs.Asked.{CanReach, clauses}
use Rattle.aig_library.proofs.Answered.{text_answered}
use Rattle.aig_library.proofs.Comings.{unrolling_refused, unrolling_text}
use Rattle.aig_library.proofs.texts.write_clauses.Goals as goal

pub returns : goal.returns
returns c =
    let can : CanReach c.args.frames c.args.max_var = search rules in
    let request = clauses c.args.property c.args.frames c.args.max_var in
    text_answered (λ v. v.items) _ _ _ _ _ can
    (unrolling_refused _ request) _ _ _ (unrolling_text _ request) c.run_in_memory.result
    (rw c.clauses.ensures at c.run_in_memory.ensures.ok)
    (rw c.clauses.ensures at c.run_in_memory.ensures.err) c.answer.ensures.text c.answer.ensures.stopped
