use Rattle.std.proofs.lemmas.Result.{err_from_is_err_and}
use Rattle.aig_dump.specs.Dumped.{DumpSays, TraceSaysAs}
use Rattle.aig_tools.proofs.Tasks.{of_steps}
use Rattle.aig_tools.proofs.simulation.perform.Goals as goal

pub returns-in-Trace-clause-transferred : goal.returns-in-Trace-clause-transferred
returns-in-Trace-clause-transferred g c =
    rw (c.in-Trace.is, c.without_verdict.ensures)
    (of_steps (TraceSaysAs c.in-Trace.batch c.args.found c.in-Trace.columns) c.write_trace-written.result _ _ _ _
    c.write_trace-written.ensures.transferred)

pub returns-in-Dump-clause-transferred : goal.returns-in-Dump-clause-transferred
returns-in-Dump-clause-transferred g c =
    rw (c.in-Dump.is, c.without_verdict-in-Dump.ensures)
    (of_steps (DumpSays c.in-Dump.batch c.args.found) c.write_dump-written.result _ _ _ _
    c.write_dump-written.ensures.transferred)

pub returns-in_err-judge-in-Verdict-clause-transferred : goal.returns-in_err-judge-in-Verdict-clause-transferred
returns-in_err-judge-in-Verdict-clause-transferred g c =
    let h = err_from_is_err_and c.from_residual.result c.from_residual.ensures.1 in
    rw (c.in-Verdict.is, h.1, h.2) c.in_err-judge-in-Verdict.ensures.transferred

pub returns-in_err-dump_run-in-RunDump-clause-transferred : goal.returns-in_err-dump_run-in-RunDump-clause-transferred
returns-in_err-dump_run-in-RunDump-clause-transferred g c =
    let h = err_from_is_err_and c.from_residual-in_err-dump_run-in-RunDump.result
    c.from_residual-in_err-dump_run-in-RunDump.ensures.1 in
    rw (c.in-RunDump.is, h.1, h.2) c.in_err-dump_run-in-RunDump.ensures.transferred
