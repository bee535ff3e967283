use Rattle.std.proofs.Common.{◌↔◌, map}
use Rattle.aig_circuit.specs.Parts.SymbolOrder.{IsRisingFrom, place_of}
use Rattle.aig_circuit.proofs.form.are_in_order.Given as goal

abbrev pub invariant-loop-symbol : goal.invariant-loop-symbol
invariant-loop-symbol l =
    IsRisingFrom l.least (map place_of l.symbol-iterator) ↔ IsRisingFrom 0 (map place_of l.fn.symbols)
