-- The order in which files usually list symbols: by kind, each by rising position.
use Rattle.std.specs.Prelude.{◌+◌, ◌*◌, ◌^◌, ◌≤◌, ℕ, List, [], ◌∷◌}
use Rattle.aig_circuit.specs.declared.circuit.Kind.{Kind}
use Rattle.aig_circuit.specs.declared.circuit.Kind.TheVariants as kinds
use Rattle.aig_circuit.specs.declared.circuit.Symbol.{Symbol}

-- where the symbols of a kind begin
abbrev pub start_of : Kind → ℕ
start_of kinds.Input = 0
start_of kinds.Latch = 2 ^ 32
start_of kinds.Output = 2 * 2 ^ 32
start_of kinds.Bad = 3 * 2 ^ 32
start_of kinds.Constraint = 4 * 2 ^ 32
start_of kinds.Justice = 5 * 2 ^ 32
start_of kinds.Fairness = 6 * 2 ^ 32

-- one number that rises by kind and then by position
abbrev pub place_of : Symbol → ℕ
place_of s = start_of s.kind + s.position

-- the first number is at least so large, and each later one is above the one before it
abbrev pub IsRisingFrom : ℕ → List ℕ → Type 0
IsRisingFrom least [] = Unit {0}
IsRisingFrom least (x ∷ xs) = (least ≤ x) × IsRisingFrom (x + 1) xs
