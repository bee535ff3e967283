use Rattle.std.proofs.Common.{◌≡◌}
use Rattle.std.specs.Cmp.Lexicographic.{pointwise}
use Rattle.aig_circuit.proofs.Alike.{symbol_eq}
use Rattle.aig_circuit.proofs.symbols.SymbolsPartialEq.eq.Given as goal

-- what is left is the same exactly where all is
abbrev pub invariant-loop-symbol : goal.invariant-loop-symbol
invariant-loop-symbol l = pointwise symbol_eq l.symbol-iterator l.others ≡ pointwise symbol_eq l.fn.self l.fn.other
