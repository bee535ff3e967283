use Rattle.std.proofs.Common.{refl, rules}
use Rattle.aig_io.proofs.Puts.{beginning_sent}
use Rattle.aig_info.proofs.writer.write_info.Goals as goal

pub returns-in_err-sent-clause-err : goal.returns-in_err-sent-clause-err
returns-in_err-sent-clause-err g c =
    let found =
    beginning_sent _ _ _ _ _ c.new-output.ensures refl refl c.put_info.ensures c.finish-sent.ensures.put
    (search rules) in
    search rules
