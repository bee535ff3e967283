use Rattle.std.proofs.Common.{refl}
use Rattle.aig_fault.specs.declared.kind.Kind.TheVariants as kinds
use Rattle.aig_text.specs.Scanning.{symbol_at}
use Rattle.aig_text.specs.Tail.{IsSymbolLine}
use Rattle.aig_text.specs.Reading.{checked_symbol, fault_in_symbol}
use Rattle.aig_rows.specs.Reading.{unless_wrong}
use Rattle.aig_text.proofs.Grammar.Symbols.{symbol_reads, symbol_is_read}
use Rattle.aig_rows.proofs.Steps.{by_scanner}
use Rattle.aig_text.proofs.laws.symbols_are_judged.Goals as goal

pub returns : goal.returns
unfolding checked_symbol
returns c =
    λ h before l. by_scanner (IsSymbolLine l) (λ s. unless_wrong s (fault_in_symbol h before s)) kinds.BadSymbol
    (checked_symbol h before) (symbol_at l.text) (symbol_is_read l) (λ s read. symbol_reads l l.text s refl read)
    (λ s. refl) refl
