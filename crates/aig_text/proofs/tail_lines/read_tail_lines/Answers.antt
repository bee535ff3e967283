use Rattle.std.proofs.Common.{◌∙◌, [], List, ℕ, Ok, ap, arith, length, length-append, rules, sym}
use Rattle.std.proofs.lemmas.Result.{err_from_is_err_and}
use Rattle.aig_lines.specs.Lines.{Ahead, bytes_of, line}
use Rattle.aig_lines.proofs.Cutting.{pieces}
use Rattle.aig_text.proofs.LastBytes.{line_taken, rest_is}
use Rattle.aig_text.proofs.Loops.Text.{no_tail, comment_tail, wrong_symbol, one_symbol, first_bytes, line_then}
use Rattle.aig_text.proofs.Kept.{right_is_told}
use Rattle.aig_text.specs.Reading.{tail_at, with_comment}
use Rattle.aig_text.proofs.tail_lines.read_tail_lines.Goals as goal

pub loop-line-init : goal.loop-line-init
loop-line-init c = record {
  told =
      ap (λ (a : Ahead). tail_at c.args.header.now c.args.names.now c.args.circuit.now a.number a.lines) c.at.view_is;
  counted = search rules;
  taken = ([], ap (λ (a : Ahead). bytes_of a.lines) (sym c.at.view_is) ∙ (pieces c.at.inside.rest.now).joined);
}

pub returns-then-is_comment_line : goal.returns-then-is_comment_line
returns-then-is_comment_line c =
    let at = c.loop-line in
    let after = c.in-Some.after.now in
    let first = line c.in-Some.line.text.now c.in-Some.line.ended in
    let all = bytes_of c.args.at.lines in
    let taken =
    line_taken all at.invariant.taken.0 at.rest.now after first at.invariant.taken.1
    (line_then at.rest.now after first c.in-Some.ensures.lines) in
    record {
      read =
          sym at.invariant.told
          ∙ comment_tail c.args.header.now at.names at.circuit at.number at.rest.now after first
          c.in-Some.ensures.lines (sym c.is_comment_line.ensures ∙ c.if-is_comment_line.true)
          ∙ ap (λ (t : List ℕ). Ok (with_comment at.circuit t)) (sym (rest_is all taken.0 after taken.1));
      within = omega (arith, ap length taken.1, length-append taken.0 after);
    }

pub returns-in_err-symbol-clause-read : goal.returns-in_err-symbol-clause-read
returns-in_err-symbol-clause-read c =
    let at = c.loop-line in
    let first = line c.in-Some.line.text.now c.in-Some.line.ended in
    let h = err_from_is_err_and c.from_residual.result c.from_residual.ensures.1 in
    rw (h.1, h.2, ← at.invariant.told) (
    wrong_symbol c.args.header.now at.names at.circuit at.number at.rest.now c.in-Some.after.now first
    c.in_err-symbol.field-0.0 c.in-Some.ensures.lines (sym c.is_comment_line.ensures ∙ c.if-is_comment_line.false)
    c.in_err-symbol.ensures.symbol
    )

pub put_symbol-requires-clause-symbol : goal.put_symbol-requires-clause-symbol
put_symbol-requires-clause-symbol c =
    right_is_told c.args.header.now c.loop-line.names c.loop-line.number _ _ c.in_ok-symbol.ensures.symbol

pub put_symbol-requires-clause-bytes : goal.put_symbol-requires-clause-bytes
put_symbol-requires-clause-bytes c =
    c.split_at.ensures.front ∙ first_bytes c.loop-line.rest.now c.in-Some.after.now _ c.in-Some.ensures.lines

pub loop-line-preserved : goal.loop-line-preserved
loop-line-preserved c =
    let at = c.loop-line in
    let after = c.in-Some.after.now in
    let first = line c.in-Some.line.text.now c.in-Some.line.ended in
    let told = at.invariant.told in
    record {
      told = search (rules, one_symbol);
      counted = omega (arith, at.invariant.counted, c.in-Some.ensures.shorter);
      taken =
          line_taken (bytes_of c.args.at.lines) at.invariant.taken.0 at.rest.now after first at.invariant.taken.1
          (line_then at.rest.now after first c.in-Some.ensures.lines);
    }

pub returns-clause-read : goal.returns-clause-read
returns-clause-read c =
    sym c.loop-line.invariant.told ∙ no_tail _ _ _ _ c.loop-line.rest.now c.in_default.ensures.lines
