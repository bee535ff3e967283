-- What symbols name.
use Rattle.std.specs.Prelude.{◌≡◌, ℕ}
use Rattle.aig_circuit.specs.declared.circuit.Kind.{Kind}
use Rattle.aig_circuit.specs.declared.circuit.Symbol.{Symbol}

-- the symbol is for what stands at this position among its kind
abbrev pub IsFor : Kind → ℕ → Symbol → Type 0
IsFor kind position s = (s.kind ≡ kind) × (s.position ≡ position)
