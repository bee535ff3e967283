use Rattle.std.proofs.Common.{refl, rules}
use Rattle.aig_io.specs.Devices.{TookBeginning}
use Rattle.aig_io.proofs.Puts.{beginning_sent}
use Rattle.aig_commands.proofs.Outcomes.{on_err}
use Rattle.aig_commands.proofs.answer.send_text.Goals as goal

pub returns-clause-err : goal.returns-clause-err
returns-clause-err g c =
    let begun =
    on_err c.finish-sent.result.0
    (TookBeginning c.args.text.now (g.W.Sink.history c.args.sink.now) (g.W.Sink.history c.finish-sent.result.1.now))
    (beginning_sent _ _ _ _ _ c.new-output.ensures refl refl c.put.ensures.put c.finish-sent.ensures.put) in
    search rules
