use Rattle.std.proofs.Common.{◌∙◌, inr, sym}
use Rattle.aig_arrays.specs.Decoded.{header_of}
use Rattle.aig_arrays.proofs.Whole.{symbol_none, symbol_right, symbol_wrong}
use Rattle.aig_arrays.proofs.symbols.read_symbol.Goals as goal

pub returns-in_default-symbol_of-clause-symbol : goal.returns-in_default-symbol_of-clause-symbol
returns-in_default-symbol_of-clause-symbol c =
    rw (← c.from.view_is, c.bad_entry.ensures) (inr (
    symbol_none (header_of c.args.counts.now) c.args.names.now c.args.named.now c.args.start c.from.inside.at
    c.from.inside.rest.now c.in-len4-up.len_at_least c.in_default-symbol_of.ensures.symbol
    ))

pub returns-in-Some-2-clause-symbol : goal.returns-in-Some-2-clause-symbol
returns-in-Some-2-clause-symbol c =
    rw (← c.from.view_is, c.bad_entry-in-Some-2.ensures) (inr (
    symbol_wrong (header_of c.args.counts.now) c.args.names.now c.args.named.now c.args.start c.from.inside.at
    c.from.inside.rest.now c.in-len4-up.len_at_least c.in-Some.symbol c.in-Some-2.kind c.in-Some.ensures.symbol
    (sym c.in-Some-2.is ∙ c.in_ok-kind.ensures.fault)
    ))

pub returns-clause-symbol : goal.returns-clause-symbol
returns-clause-symbol c =
    rw (← c.from.view_is)
    (symbol_right (header_of c.args.counts.now) c.args.names.now c.args.named.now c.args.start c.from.inside.at
    c.from.inside.rest.now c.in-len4-up.len_at_least c.in-Some.symbol c.in-Some.ensures.symbol
    (sym c.in_default-2.is ∙ c.in_ok-kind.ensures.fault))
