use Rattle.std.proofs.Common.{refl, rules}
use Rattle.aig_fault.specs.Words.{message_text}
use Rattle.aig_io.specs.Devices.{TookBeginning}
use Rattle.aig_io.proofs.Puts.{beginning_sent}
use Rattle.aig_commands.proofs.Outcomes.{on_err}
use Rattle.aig_commands.proofs.answer.send_message.Goals as goal

pub returns-clause-err : goal.returns-clause-err
returns-clause-err g c =
    let text = message_text c.args.message.now in
    let begun =
    on_err c.finish-sent.result.0
    (TookBeginning text (g.W.Sink.history c.args.sink.now) (g.W.Sink.history c.finish-sent.result.1.now))
    (beginning_sent _ _ _ _ _ c.new-output.ensures refl refl c.put.ensures c.finish-sent.ensures.put) in
    search rules
