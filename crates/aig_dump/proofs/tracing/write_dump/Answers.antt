use Rattle.std.proofs.Common.{◌∙◌, [], is_err, refl, rules}
use Rattle.aig_io.specs.Output.{output_to}
use Rattle.aig_dump.proofs.Dumps.{dumped, nothing_dumped}
use Rattle.aig_dump.proofs.tracing.write_dump.Goals as goal

pub returns-in_default-clause-transferred : goal.returns-in_default-clause-transferred
returns-in_default-clause-transferred g c = nothing_dumped _ _ _ _

pub returns-clause-transferred : goal.returns-clause-transferred
returns-clause-transferred g c =
    let sent = c.finish-sent.result.0 in
    let end = output_to g.W.Sink.history c.finish-sent.result.1 [] (is_err sent) in
    dumped c.args.batch c.args.found.now c.new-wave.result c.trace_into-ran.new.output _ end c.trace_into-ran.result
    c.is_ok.result (c.new-wave.ensures.layout ∙ c.in-Ok.ensures) c.new-wave.ensures.output refl refl
    c.new-wave.ensures.begun c.is_ok.ensures.value c.finish-sent.ensures.put refl sent c.outcome_of_dump.result
    c.is_err.result _ _ _ refl c.finish-sent.ensures.reported c.is_err.ensures.value c.outcome_of_dump.ensures
    c.trace_into-ran.ensures (search rules)
