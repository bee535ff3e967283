use Rattle.std.proofs.Common.{◌∙◌, Ok, ap, inr, sym}
use Rattle.std.proofs.lemmas.Result.{err_from_is_err_and}
use Rattle.aig_lines.specs.Lines.{Ahead, lines_of}
use Rattle.aig_text.proofs.LastBytes.{with_its_comment}
use Rattle.aig_binary.specs.Begun.{binary_then}
use Rattle.aig_binary.proofs.Front.{binary_told, no_binary}
use Rattle.aig_binary.proofs.reader.read_unchecked.Goals as goal

pub returns-in_err-header : goal.returns-in_err-header
returns-in_err-header c =
    let h = err_from_is_err_and c.from_residual.result c.from_residual.ensures.1 in
    rw (h.1, h.2)
    (inr (no_binary c.args.limits.max_var (lines_of c.args.bytes.now) c.in_err-header.field-0.0
    (rw c.new-at.ensures at c.in_err-header.ensures.header)))

pub returns-in-Ok : goal.returns-in-Ok
returns-in-Ok c =
    let told =
    binary_told c.args.limits.max_var (lines_of c.args.bytes.now) c.in_ok-header.header c.filled_header.new.at
    (rw c.new-at.ensures at c.in_ok-header.ensures.header)
    ∙ ap (λ (a : Ahead). binary_then (Ok c.in_ok-header.header) a) (sym c.at.view_is)
    ∙ sym (c.new-reader.ensures.from c.at.inside.rest.now) in
    rw told
    (with_its_comment c.at.inside.rest.now c.in-Ok.found c.with_comment_of.result _ c.in-Ok.ensures.read
    c.with_comment_of.ensures.ok c.with_comment_of.ensures.err)

pub returns-in-Err : goal.returns-in-Err
returns-in-Err c =
    let told =
    binary_told c.args.limits.max_var (lines_of c.args.bytes.now) c.in_ok-header.header c.filled_header.new.at
    (rw c.new-at.ensures at c.in_ok-header.ensures.header)
    ∙ ap (λ (a : Ahead). binary_then (Ok c.in_ok-header.header) a) (sym c.at.view_is)
    ∙ sym (c.new-reader.ensures.from c.at.inside.rest.now) in
    rw told c.in-Err.ensures.read
