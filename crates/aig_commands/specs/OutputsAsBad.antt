-- A circuit whose outputs became bad states. Before AIGER 1.9 a property could be nothing but an output that should
-- stay 0, so there such an output says what a bad state says now (AIGER 1.9). That its name goes with it is this
-- project's profile.
use Rattle.std.specs.Prelude.{[], map}
use Rattle.aig_circuit.specs.declared.circuit.Circuit.{Circuit}
use Rattle.aig_circuit.specs.declared.circuit.Kind.{Kind}
use Rattle.aig_circuit.specs.declared.circuit.Kind.TheVariants as kinds
use Rattle.aig_circuit.specs.declared.circuit.Symbol.{Symbol}
use Rattle.aig_meaning.specs.Meaning.{Row}

-- what becomes of the kind that a symbol names
abbrev pub kind_as_bad : Kind → Kind
kind_as_bad kinds.Output = kinds.Bad
kind_as_bad kind = kind

-- what becomes of a symbol: the name and the position stay
abbrev pub symbol_as_bad : Symbol → Symbol
symbol_as_bad s = record s { kind = kind_as_bad s.kind }

-- the circuit with its outputs as bad states, in their order and by their names, where it has none
abbrev pub with_outputs_as_bad : Circuit → Circuit
with_outputs_as_bad c = record c { outputs = []; bad = c.outputs; symbols = map symbol_as_bad c.symbols }

-- what can be seen of a step, with the outputs as bad states
abbrev pub row_with_outputs_as_bad : Row → Row
row_with_outputs_as_bad row = record row { outputs = []; bad = row.outputs }
