use Rattle.std.proofs.Common.{◌<◌, Err, List, Ok, subst, sym, ℕ}
use Rattle.std.proofs.lemmas.Result.{err_from_is_err_and}
use Rattle.aig_commands.specs.Jobs.{Makes, Refuses, sources_left, text_of}
use Rattle.aig_io.specs.Runs.{AtEnd}
use Rattle.aig_library.specs.Memory.{Comes, is_refused, is_written, makes}
use Rattle.aig_library.proofs.Answered.{stops_as, text_is}
use Rattle.aig_commands.proofs.Fewer.{fewer}
use Rattle.aig_library.proofs.Comings.{no_steps_then}
use Rattle.aig_library.proofs.memory.run_in_memory.Goals as goal

pub loop-job-preserved : goal.loop-job-preserved
loop-job-preserved c = record {
  can_do = c.in_ok-job-in-Read.ensures.can_do;
  no_steps = no_steps_then c.in-Read.reading _ c.in_ok-job-in-Read.job
      (rw c.in-Read.is at c.loop-job.invariant.no_steps) c.in_ok-job-in-Read.ensures.made;
  rest = λ answer comes.
      c.loop-job.invariant.rest answer (subst (λ j. Comes c.args.inputs.now j answer) (sym c.in-Read.is)
      (makes c.in-Read.reading c.in_ok-job-in-Read.job answer
      (subst (λ (bytes : List ℕ). Makes c.in-Read.reading bytes c.in_ok-job-in-Read.job)
      (rw c.source.ensures at c.at.ensures) c.in_ok-job-in-Read.ensures.made) comes));
}

pub loop-job-smaller : goal.loop-job-smaller
loop-job-smaller c =
    subst (λ j. sources_left c.in_ok-job-in-Read.job < sources_left j) (sym c.in-Read.is)
    (fewer c.in-Read.reading _ c.in_ok-job-in-Read.job c.in_ok-job-in-Read.ensures.made)

pub returns-in_err-job-in-Read-clause-err : goal.returns-in_err-job-in-Read-clause-err
returns-in_err-job-in-Read-clause-err c =
    let h = err_from_is_err_and c.from_residual.result c.from_residual.ensures.1 in
    rw (h.1, h.2) (stops_as (λ fault. Refuses c.in-Read.reading fault c.at.result.now AtEnd)
    (λ fault. Comes c.args.inputs.now c.args.job (Err fault)) c.in_err-job-in-Read.field-0.0
    (λ fault why.
    c.loop-job.invariant.rest (Err fault) (subst (λ j. Comes c.args.inputs.now j (Err fault)) (sym c.in-Read.is)
    (is_refused c.in-Read.reading fault
    (subst (λ (bytes : List ℕ). Refuses c.in-Read.reading fault bytes AtEnd) (rw c.source.ensures at c.at.ensures)
    why))))
    c.in_err-job-in-Read.ensures.err)

pub returns-in-Write-clause-ok : goal.returns-in-Write-clause-ok
returns-in-Write-clause-ok c =
    text_is (λ v. v.items) (λ text. Comes c.args.inputs.now c.args.job (Ok text)) (text_of c.in-Write.answer)
    c.answer_text.result
    (c.loop-job.invariant.rest (Ok (text_of c.in-Write.answer))
    (subst (λ j. Comes c.args.inputs.now j (Ok (text_of c.in-Write.answer))) (sym c.in-Write.is)
    (is_written c.in-Write.answer)))
    c.answer_text.ensures.ok
