use Rattle.std.proofs.lemmas.Result.{err_from_is_err_and}
use Rattle.aig_commands.specs.Comparing.{IsMiterText, NotMiter}
use Rattle.aig_commands.specs.File.{IsFileOf}
use Rattle.aig_commands.specs.Jobs.{text_of}
use Rattle.aig_commands.proofs.Comparings.{not_miter}
use Rattle.aig_commands.proofs.Readings.{made_after, stopped_after}
use Rattle.aig_commands.proofs.comparing.read_second.Goals as goal

pub returns-in_err-made-clause-read : goal.returns-in_err-made-clause-read
returns-in_err-made-clause-read g c =
    let request = c.args.request.now in
    let second = c.in_ok-second.second in
    let stopped = c.in_err-made.field-0.0 in
    let h = err_from_is_err_and c.from_residual-in_err-made.result c.from_residual-in_err-made.ensures.1 in
    rw (h.1, h.2) (stopped_after (λ bytes. IsFileOf bytes request.max_var second) _ _ (NotMiter request c.args.first)
    stopped (λ bytes. not_miter request bytes c.args.first second stopped c.in_err-made.ensures.err)
    c.in_ok-second.ensures)

pub returns-clause-read : goal.returns-clause-read
returns-clause-read g c =
    let request = c.args.request.now in
    let second = c.in_ok-second.second in
    let answer = c.in_ok-convert_as.field-0 in
    made_after (λ bytes. IsFileOf bytes request.max_var second) _ _
    (λ bytes. IsMiterText request c.args.first bytes (text_of answer))
    (λ bytes file. record {
      second = second;
      made = c.in_ok-made.made;
      written = c.in_ok-written.written;
      read = file;
      is_made = c.in_ok-made.ensures.ok;
      is_written = c.in_ok-written.ensures;
      written_as = c.in_ok-convert_as.ensures.text;
    })
    c.in_ok-second.ensures
