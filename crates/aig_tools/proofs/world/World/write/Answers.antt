use Rattle.std.proofs.Common.{ap, rules}
use Rattle.std.proofs.lemmas.Result.{err_from_is_err_and}
use Rattle.aig_command.specs.Answer.{name_of}
use Rattle.aig_files.specs.Named.{closing}
use Rattle.aig_tools.proofs.NamedFiles.{file_in_part, file_not_kept, sent_so}
use Rattle.aig_tools.proofs.world.World.write.Goals as goal

pub returns-in_err-sent-in-Some-clause-sent : goal.returns-in_err-sent-in-Some-clause-sent
returns-in_err-sent-in-Some-clause-sent g c =
    let h = err_from_is_err_and c.from_residual.result c.from_residual.ensures.1 in
    rw (h.1, ← c.self.view_is) (file_in_part _ _ _ _ _ _ _ _ _ _ _ c.new-file.result c.write-sent.new.sink
    (closing c.write-sent.new.sink.origin.before c.finish-closed.result.0) (ap name_of c.in-Some.is)
    (rw c.as_str.ensures.value at c.new-file.ensures)
    (rw (← c.self.view_is) at c.requires.ready) (search rules) c.in_err-sent-in-Some.ensures.err)

pub returns-in_err-closed-in-Some-clause-sent : goal.returns-in_err-closed-in-Some-clause-sent
returns-in_err-closed-in-Some-clause-sent g c =
    let h =
    err_from_is_err_and c.from_residual-in_err-closed-in-Some.result c.from_residual-in_err-closed-in-Some.ensures.1 in
    rw (h.1, ← c.self.view_is) (file_not_kept _ _ _ _ _ _ _ _ _ _ _ c.new-file.result c.write-sent.new.sink
    (closing c.write-sent.new.sink.origin.before c.finish-closed.result.0) (ap name_of c.in-Some.is)
    (rw c.as_str.ensures.value at c.new-file.ensures)
    (rw (← c.self.view_is) at c.requires.ready) (search rules) c.in_ok-sent-in-Some.ensures.ok c.requires.some
    (search rules))

pub returns-in-None-clause-sent : goal.returns-in-None-clause-sent
returns-in-None-clause-sent g c =
    rw (← c.self.view_is) (sent_so _ _ _ _ _ _ _ c.write.result _ (ap name_of c.in-None.is) c.write.ensures.ok
    c.write.ensures.err)
