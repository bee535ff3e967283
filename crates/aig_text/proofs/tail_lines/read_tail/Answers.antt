use Rattle.std.proofs.Common.{◌∙◌, List, ℕ, Ok, ap, arith, length, length-append, sym}
use Rattle.aig_core.specs.Names.{nothing_named}
use Rattle.aig_lines.specs.Lines.{Ahead, bytes_of, line, line_bytes}
use Rattle.aig_lines.proofs.Cutting.{pieces}
use Rattle.aig_text.proofs.LastBytes.{rest_is}
use Rattle.aig_text.proofs.Loops.Text.{comment_tail, line_then, no_tail}
use Rattle.aig_text.specs.Reading.{tail_at, with_comment}
use Rattle.aig_text.proofs.tail_lines.read_tail.Goals as goal

pub returns-in_default-clause-read : goal.returns-in_default-clause-read
returns-in_default-clause-read c =
    ap (λ (a : Ahead). tail_at c.args.header.now nothing_named c.args.circuit.now a.number a.lines) (sym c.at.view_is)
    ∙ no_tail c.args.header.now nothing_named c.args.circuit.now c.at.inside.number c.at.inside.rest.now
    c.in_default.ensures.lines

pub returns-then-is_comment_line : goal.returns-then-is_comment_line
returns-then-is_comment_line c =
    let bytes = c.at.inside.rest.now in
    let after = c.in-Some.after.now in
    let first = line c.in-Some.line.text.now c.in-Some.line.ended in
    let all = bytes_of c.args.at.lines in
    let taken =
    ap (λ (a : Ahead). bytes_of a.lines) (sym c.at.view_is) ∙ (pieces bytes).joined
    ∙ line_then bytes after first c.in-Some.ensures.lines in
    record {
      read =
          ap (λ (a : Ahead). tail_at c.args.header.now nothing_named c.args.circuit.now a.number a.lines)
          (sym c.at.view_is)
          ∙ comment_tail c.args.header.now nothing_named c.args.circuit.now c.at.inside.number bytes after first
          c.in-Some.ensures.lines (sym c.is_comment_line.ensures ∙ c.if-is_comment_line.true)
          ∙ ap (λ (t : List ℕ). Ok (with_comment c.args.circuit.now t))
          (sym (rest_is all (line_bytes first) after taken));
      within = omega (arith, ap length taken, length-append (line_bytes first) after);
    }
