-- Circuits with their names, and what one has in the order of another.
use Rattle.std.specs.Prelude.{◌≡◌, [], None}
use Rattle.aig_circuit.specs.declared.circuit.Circuit.{Circuit}
use Rattle.aig_circuit.specs.Wellformed.{IsWithinLimits}
use Rattle.aig_pairing.specs.declared.order.Lists.{Lists}
use Rattle.aig_pairing.specs.declared.order.Named.{Named}
use Rattle.aig_pairing.specs.ByNames.{bad_names, in_order_of, output_names}
use Rattle.aig_pairing.specs.Names.{compared, compared_names, input_names}

-- the names are those of the circuit, which is within the limits
pub record IsNamed (n : Named) : Type 0 where
  pub limits : IsWithinLimits n.circuit.now
  pub inputs : n.inputs ≡ input_names n.circuit.now
  pub compared : n.compared ≡ compared_names n.circuit.now

abbrev pub IsNamedOf : Circuit → Named → Type 0
IsNamedOf c n = (n.circuit.now ≡ c) × IsNamed n

-- the lists are those of the second circuit, in the order of the first
pub record AreInOrder (a b : Circuit) (lists : Lists) : Type 0 where
  pub inputs : lists.inputs.items ≡ in_order_of (input_names a) (input_names b) b.inputs
  pub outputs : lists.outputs.items ≡ in_order_of (output_names a) (compared_names b) (compared b)
  pub bad : lists.bad.items ≡ in_order_of (bad_names a) (compared_names b) (compared b)

-- a circuit with these lists, without names and comment
abbrev pub with_lists : Lists → Circuit → Circuit
with_lists lists c = record c {
  inputs = lists.inputs.items;
  outputs = lists.outputs.items;
  bad = lists.bad.items;
  symbols = [];
  comment = None;
}
