-- Circuits that are simplified (this project's profile): the same to whoever looks at what it shows, in binary order,
-- with no more gates than before, and none that folding or sweeping would leave out.
use Rattle.std.specs.Prelude.{◌≤◌, length}
use Rattle.aig_circuit.specs.declared.circuit.Circuit.{Circuit}
use Rattle.aig_circuit.specs.Wellformed.{IsWellFormed}
use Rattle.aig_checked.specs.BinaryOrder.{IsInBinaryOrder}
use Rattle.aig_meaning.specs.Meaning.{MeansTheSame}
use Rattle.aig_simplify.specs.Folded.{HasNothingToFold}
use Rattle.aig_simplify.specs.Kept.{KeepsGoals, KeepsNames}
use Rattle.aig_simplify.specs.Swept.{UsesEachGate}

-- d is c simplified
pub record IsSimplified (c d : Circuit) : Type 0 where
  pub formed : IsWellFormed d
  pub ordered : IsInBinaryOrder d
  pub same : MeansTheSame c d
  pub names : KeepsNames c d
  pub goals : KeepsGoals c d
  pub used : UsesEachGate d
  pub nothing_left : HasNothingToFold d
  pub no_more : length d.gates ≤ length c.gates
