use Rattle.std.proofs.Common.{◌≡◌, ◌+◌, flat_map, length}
use Rattle.aig_circuit.specs.declared.circuit.Symbol.{Symbol}
use Rattle.aig_arrays.specs.Parts.Placed.{placed}
use Rattle.aig_arrays.specs.Words.{symbol_words}
use Rattle.aig_arrays.proofs.put.put_symbols.Given as goal

abbrev pub invariant-loop-symbol : goal.invariant-loop-symbol
invariant-loop-symbol l = record {
  words : placed l.at (symbol_words l.start l.symbol-iterator) l.words
      ≡ placed l.from (symbol_words 0 l.fn.symbols) l.fn.words;
  end : l.at + length (symbol_words l.start l.symbol-iterator) ≡ l.from + length (symbol_words 0 l.fn.symbols);
  names : l.start + length (flat_map (λ (s : Symbol). s.name) l.symbol-iterator)
      ≡ length (flat_map (λ (s : Symbol). s.name) l.fn.symbols);
}
