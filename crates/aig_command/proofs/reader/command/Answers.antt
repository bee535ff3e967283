use Rattle.std.proofs.Common.{Err, Ok}
use Rattle.std.proofs.lemmas.Result.{err_from_is_err_and}
use Rattle.clap.specs.Words.{kind_of}
use Rattle.aig_command.specs.Answer.{texts}
use Rattle.aig_command.proofs.Answered.{refused_command, refused_usage, rows_known, rows_within, taken_command}
use Rattle.aig_command.proofs.Answered.{taken_usage}
use Rattle.aig_command.proofs.reader.command.Goals as goal

pub read_command-requires : goal.read_command-requires
read_command-requires c =
    record {
      known = rows_known (texts c.args.words.now) c.in-Ok.matches c.in-Ok.ensures.matches c.in-Ok.ensures.kinds;
      within = rows_within (texts c.args.words.now) c.in-Ok.matches c.in-Ok.ensures.matches c.in-Ok.ensures.kinds;
    }

pub returns-in_err-names-in-Ok-clause-err : goal.returns-in_err-names-in-Ok-clause-err
returns-in_err-names-in-Ok-clause-err c =
    let h = err_from_is_err_and c.from_residual.result c.from_residual.ensures.1 in
    rw (h.1, h.2)
    (taken_usage (texts c.args.words.now) c.in-Ok.matches c.in-Ok.ensures.matches c.in-Ok.ensures.kinds
    (Err c.in_err-names-in-Ok.field-0.0) c.in_err-names-in-Ok.ensures.answer)

pub returns-in_err-error_answer-in-Err-clause-err : goal.returns-in_err-error_answer-in-Err-clause-err
returns-in_err-error_answer-in-Err-clause-err c =
    let h =
    err_from_is_err_and c.from_residual-in_err-error_answer-in-Err.result
    c.from_residual-in_err-error_answer-in-Err.ensures.1
    in
    rw (h.1, h.2)
    (refused_usage (texts c.args.words.now) (kind_of c.in-Err.error) c.in-Err.ensures.passes c.in-Err.ensures.kinds
    (Err c.in_err-error_answer-in-Err.field-0.0) c.in_err-error_answer-in-Err.ensures.answer)

pub returns-in_ok-names-in-Ok-clause-ok : goal.returns-in_ok-names-in-Ok-clause-ok
returns-in_ok-names-in-Ok-clause-ok c =
    taken_command (texts c.args.words.now) c.in-Ok.matches c.in-Ok.ensures.matches c.in-Ok.ensures.kinds
    (Ok (c.in_ok-names-in-Ok.names, c.in_ok-names-in-Ok.command)) c.in_ok-names-in-Ok.ensures.answer

pub returns-in_ok-error_answer-in-Err-clause-ok : goal.returns-in_ok-error_answer-in-Err-clause-ok
returns-in_ok-error_answer-in-Err-clause-ok c =
    refused_command (texts c.args.words.now) (kind_of c.in-Err.error) c.in-Err.ensures.passes c.in-Err.ensures.kinds
    (Ok c.in_ok-error_answer-in-Err.field-0) c.in_ok-error_answer-in-Err.ensures.answer
