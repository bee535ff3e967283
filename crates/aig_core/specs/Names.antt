-- What symbols name, by its kind and its position.
use Rattle.std.specs.Prelude.{ℕ, Bool}
use Rattle.std.specs.Ordering.{nat_cmp}
use Rattle.std.specs.FinSet as set
use Rattle.aig_circuit.specs.declared.circuit.Kind.{Kind}
use Rattle.aig_circuit.specs.declared.circuit.Kind.TheVariants as kinds
pub use Rattle.aig_core.specs.declared.names.Names.{Names}

abbrev pub nothing_named : Names
nothing_named = record {
  inputs = set.empty;
  latches = set.empty;
  outputs = set.empty;
  bad = set.empty;
  constraints = set.empty;
  justice = set.empty;
  fairness = set.empty;
}

abbrev pub positions_named : Names → Kind → set.FinSet nat_cmp
positions_named n kinds.Input = n.inputs
positions_named n kinds.Latch = n.latches
positions_named n kinds.Output = n.outputs
positions_named n kinds.Bad = n.bad
positions_named n kinds.Constraint = n.constraints
positions_named n kinds.Justice = n.justice
positions_named n kinds.Fairness = n.fairness

abbrev pub with_name : Names → Kind → ℕ → Names
with_name n kinds.Input position = record n { inputs = set.insert n.inputs position }
with_name n kinds.Latch position = record n { latches = set.insert n.latches position }
with_name n kinds.Output position = record n { outputs = set.insert n.outputs position }
with_name n kinds.Bad position = record n { bad = set.insert n.bad position }
with_name n kinds.Constraint position = record n { constraints = set.insert n.constraints position }
with_name n kinds.Justice position = record n { justice = set.insert n.justice position }
with_name n kinds.Fairness position = record n { fairness = set.insert n.fairness position }

abbrev pub is_named : Names → Kind → ℕ → Bool
is_named n kind position = set.contains (positions_named n kind) position
