use Rattle.std.proofs.Common.{◌∙◌, ap, arith, sym, Bool}
use Rattle.aig_lines.specs.Lines.{line, line_bytes}
use Rattle.aig_text.proofs.Kept.{canonical_line}
use Rattle.aig_text.proofs.tail_lines.put_symbol.Goals as goal

pub push_line-requires : goal.push_line-requires
push_line-requires c =
    c.requires.bytes ∙ ap (λ (ended : Bool). line_bytes (line c.args.line.text.now ended)) c.if-line.true
    ∙ canonical_line c.args.line.text.now c.args.symbol.now (omega (arith, c.requires.small)) c.requires.symbol
    (sym c.is_position_padded.ensures ∙ c.if-not-is_position_padded.true)
