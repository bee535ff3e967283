use Rattle.std.proofs.Common.{◌∙◌, ap, length, sym}
use Rattle.aig_circuit.specs.SymbolText.{symbol_text}
use Rattle.aig_circuit.proofs.NameRows.{one_more, lines_more}
use Rattle.aig_circuit.proofs.symbols.Symbols.push_line.Goals as goal

pub invariant_of-self-in-Ok : goal.invariant_of-self-in-Ok
invariant_of-self-in-Ok c =
    rw (c.in-Ok.ensures.items, c.in_ok-extend_from_slice.ensures.items)
    (lines_more _ _ _ _ c.self.invariant (c.requires ∙ ap symbol_text (sym c.symbol.view_is)) _
    (c.len-end.ensures ∙ c.extend_from_slice.new.self.ok.0 ∙ ap length c.in_ok-extend_from_slice.ensures.items))

pub returns-in-Ok-clause-ok : goal.returns-in-Ok-clause-ok
returns-in-Ok-clause-ok c =
    rw (c.in-Ok.ensures.items, c.in_ok-extend_from_slice.ensures.items, ← c.self.view_is, ← c.symbol.view_is)
    (one_more _ _ _ _ c.self.invariant (c.requires ∙ ap symbol_text (sym c.symbol.view_is)) _
    (c.len-end.ensures ∙ c.extend_from_slice.new.self.ok.0 ∙ ap length c.in_ok-extend_from_slice.ensures.items))
