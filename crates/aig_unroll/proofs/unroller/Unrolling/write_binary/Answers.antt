use Rattle.std.proofs.Common.{refl, rules}
use Rattle.aig_io.proofs.Puts.{all_sent, beginning_sent}
use Rattle.aig_unroll.proofs.unroller.Unrolling.write_binary.Goals as goal

pub returns-in_err-sent-clause-err : goal.returns-in_err-sent-clause-err
returns-in_err-sent-clause-err g c =
    let found =
    beginning_sent _ _ _ _ _ c.new-output.ensures refl refl c.put_binary.ensures c.finish-sent.ensures.put
    (search rules) in
    search rules

pub returns-clause-ok : goal.returns-clause-ok
returns-clause-ok g c =
    let found =
    all_sent _ _ _ _ _ c.new-output.ensures refl c.put_binary.ensures c.finish-sent.ensures.put refl (search rules) in
    search rules
