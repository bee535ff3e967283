use Rattle.std.proofs.Common.{rules, subst, sym}
use Rattle.aig_tools.specs.Ends.{Ends, answers_steps, goes_on, is_stopped, refuses, writes}
use Rattle.aig_tools.proofs.Jobs.{as_is}
use Rattle.aig_tools.proofs.program.run.Goals as goal

pub loop-job-preserved : goal.loop-job-preserved
loop-job-preserved g c =
    let now = c.loop-job in
    let read = rw (c.name_at.ensures, c.source-part.ensures) at c.in-Ok.ensures.read in
    record {
      ready = search rules;
      can_do = search rules;
      rest = λ after status ends. now.invariant.rest after status
          (subst (λ j. Ends c.args.names.now j now.world after status) (sym c.in-Read.is)
          (goes_on c.in-Read.reading c.in-Ok.next _ _ after status read ends));
    }

pub returns-in-Err-clause-ends : goal.returns-in-Err-clause-ends
returns-in-Err-clause-ends g c =
    c.loop-job.invariant.rest _ _
    (as_is c.args.names.now _ _ _ _ _ c.in-Read.is
    (is_stopped c.in-Read.reading c.in-Err.stopped _ _ _ _
    (rw (c.name_at.ensures, c.source-part.ensures) at c.in-Err.ensures.read)
    (rw c.source-part.ensures at c.conclude.ensures.concludes)))

pub returns-in-Steps-clause-ends : goal.returns-in-Steps-clause-ends
returns-in-Steps-clause-ends g c =
    c.loop-job.invariant.rest _ _
    (as_is c.args.names.now _ _ _ _ _ c.in-Steps.is
    (answers_steps c.in-Steps.task c.in-Steps.model c.answer_steps-done.result _ _ _ _
    c.answer_steps-done.ensures.transferred
    c.conclude-in-Steps.ensures.concludes))

pub returns-in-Write-clause-ends : goal.returns-in-Write-clause-ends
returns-in-Write-clause-ends g c =
    c.loop-job.invariant.rest _ _
    (as_is c.args.names.now _ _ _ _ _ c.in-Write.is
    (writes c.in-Write.answer c.write-sent.result _ _ _ _ c.write-sent.ensures.sent
    (rw c.without_verdict.ensures at c.conclude-in-Write.ensures.concludes)))

pub returns-in-Refuse-clause-ends : goal.returns-in-Refuse-clause-ends
returns-in-Refuse-clause-ends g c =
    rw c.refuse.ensures.status (c.loop-job.invariant.rest _ _
    (as_is c.args.names.now _ _ _ _ _ c.in-Refuse.is
    (refuses c.in-Refuse.refusal _ _ c.refuse.ensures.reported)))
