-- Values by characters.
use Rattle.std.specs.Prelude.{ℕ}
use Rattle.std.specs.Option.{unwrap_or}
use Rattle.aig_circuit.specs.declared.value.Val.{Val}
use Rattle.aig_circuit.specs.declared.value.Val.TheVariants.{X}
use Rattle.aig_step.specs.Stimulus.{value_of}

-- the value that a character stands for, and `x` where it stands for none
abbrev pub value_or_x : ℕ → Val
value_or_x byte = unwrap_or (value_of byte) X
