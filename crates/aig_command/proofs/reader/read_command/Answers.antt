use Rattle.std.proofs.lemmas.Result.{err_from_is_err_and}
use Rattle.aig_command.proofs.Answered.{not_packed, refused_before, refused_packed}
use Rattle.aig_command.proofs.reader.read_command.Goals as goal

pub returns-in_err-names-clause-answer : goal.returns-in_err-names-clause-answer
returns-in_err-names-clause-answer c =
    let h = err_from_is_err_and c.from_residual.result c.from_residual.ensures.1 in
    rw (h.1, h.2) (refused_before _ c.in_err-names.field-0.0 c.in_err-names.ensures.answer)

pub returns-in_err-check_sources-clause-answer : goal.returns-in_err-check_sources-clause-answer
returns-in_err-check_sources-clause-answer c =
    let h =
    err_from_is_err_and c.from_residual-in_err-check_sources.result c.from_residual-in_err-check_sources.ensures.1 in
    rw (h.1, h.2)
    (refused_packed _ c.in_ok-names.names c.in_ok-names.command c.in_err-check_sources.field-0.0
    c.in_ok-names.ensures.answer c.in_err-check_sources.ensures.err.0 c.in_err-check_sources.ensures.err.1)

pub returns-clause-answer : goal.returns-clause-answer
returns-clause-answer c =
    not_packed _ c.in_ok-names.names c.in_ok-names.command c.in_ok-names.ensures.answer c.in_ok-check_sources.ensures.ok
