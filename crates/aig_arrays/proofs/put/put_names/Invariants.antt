use Rattle.std.proofs.Common.{◌≡◌, ◌+◌, flat_map, length}
use Rattle.aig_circuit.specs.declared.circuit.Symbol.{Symbol}
use Rattle.aig_arrays.specs.Parts.Placed.{placed}
use Rattle.aig_arrays.proofs.put.put_names.Given as goal

abbrev pub invariant-loop-symbol : goal.invariant-loop-symbol
invariant-loop-symbol l = record {
  bytes : placed l.at (flat_map (λ (s : Symbol). s.name) l.symbol-iterator) l.bytes
      ≡ placed 0 (flat_map (λ (s : Symbol). s.name) l.fn.symbols) l.fn.bytes;
  end : l.at + length (flat_map (λ (s : Symbol). s.name) l.symbol-iterator)
      ≡ length (flat_map (λ (s : Symbol). s.name) l.fn.symbols);
}
