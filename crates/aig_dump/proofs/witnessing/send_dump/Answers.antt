use Rattle.std.proofs.Common.{refl, rules}
use Rattle.aig_io.proofs.Puts.{all_sent, beginning_sent, put_twice}
use Rattle.aig_dump.proofs.witnessing.send_dump.Goals as goal

pub returns-clause-ok : goal.returns-clause-ok
returns-clause-ok g c =
    let put = put_twice _ _ _ _ _ (rw c.comment_line.ensures at c.put.ensures) c.put-2.ensures.put in
    let found = all_sent _ _ _ _ _ c.new-output.ensures refl put c.finish-sent.ensures.put refl (search rules) in
    search rules

pub returns-in_err-sent-clause-err : goal.returns-in_err-sent-clause-err
returns-in_err-sent-clause-err g c =
    let put = put_twice _ _ _ _ _ (rw c.comment_line.ensures at c.put.ensures) c.put-2.ensures.put in
    let found = beginning_sent _ _ _ _ _ c.new-output.ensures refl refl put c.finish-sent.ensures.put (search rules) in
    search rules
