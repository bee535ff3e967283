use Rattle.std.proofs.Common.{◌≡◌, ◌+◌, flat_map, length}
use Rattle.aig_circuit.specs.declared.circuit.Symbol.{Symbol}
use Rattle.aig_arrays.proofs.put.count_name_bytes.Given as goal

abbrev pub invariant-loop-symbol : goal.invariant-loop-symbol
invariant-loop-symbol l =
    l.count + length (flat_map (λ (s : Symbol). s.name) l.symbol-iterator)
    ≡ length (flat_map (λ (s : Symbol). s.name) l.fn.symbols)
