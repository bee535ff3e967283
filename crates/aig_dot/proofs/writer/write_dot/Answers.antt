use Rattle.std.proofs.Common.{refl, rules}
use Rattle.aig_io.proofs.Puts.{beginning_sent}
use Rattle.aig_dot.proofs.writer.write_dot.Goals as goal

pub returns-in_err-sent-clause-err : goal.returns-in_err-sent-clause-err
returns-in_err-sent-clause-err g c =
    let found =
    beginning_sent _ _ _ _ _ c.new-output.ensures refl refl c.put_picture.ensures c.finish-sent.ensures.put
    (search rules) in
    search rules
