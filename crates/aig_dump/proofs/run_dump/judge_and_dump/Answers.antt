use Rattle.aig_dump.proofs.run_dump.judge_and_dump.Goals as goal

pub returns-in-Err-clause-err : goal.returns-in-Err-clause-err
returns-in-Err-clause-err c = c.reason_for_no_dump.ensures c.args.found c.args.witness.now c.in-Err.ensures.err

pub returns-in_ok-dump_run-in-Ok-clause-ok : goal.returns-in_ok-dump_run-in-Ok-clause-ok
returns-in_ok-dump_run-in-Ok-clause-ok c =
    let judged = c.in-Ok.ensures.ok in
    (judged, c.in_ok-dump_run-in-Ok.ensures.ok judged.claim judged.says)
