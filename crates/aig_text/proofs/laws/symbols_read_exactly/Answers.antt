use Rattle.std.proofs.Common.{refl}
use Rattle.aig_text.proofs.Grammar.Symbols.{symbol_reads, symbol_is_read}
use Rattle.aig_text.proofs.laws.symbols_read_exactly.Goals as goal

pub returns : goal.returns
returns c = λ l s. (λ read. symbol_reads l l.text s refl read, symbol_is_read l s)
