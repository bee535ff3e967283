-- How many steps a check makes.
use Rattle.std.specs.Prelude.{ℕ}
use Rattle.aig_core.specs.declared.checks.Keep.{Keep}
use Rattle.aig_core.specs.declared.checks.Keep.TheVariants.{Circuit, Order}

-- how many a gate at most, by what it keeps: it looks for a cycle, or makes an order
abbrev pub steps_a_gate : Keep → ℕ
steps_a_gate Circuit = 2
steps_a_gate Order = 3
