-- What the definitions of this crate say of the constants of its code.
use Rattle.std.specs.Prelude.{◌≡◌}
use Rattle.aig_circuit.specs.declared.circuit.TheConstants.{LARGEST}
use Rattle.aig_circuit.specs.Wellformed.{largest_index}

-- the constant is the largest index
abbrev pub LargestIsTheLargestIndex : Type 0
LargestIsTheLargestIndex = LARGEST ≡ largest_index
