-- A circuit with the outputs, bad states and justice properties that are chosen, in the order of the file. All
-- constraints stay, since each answer depends on them, and fairness stays where a justice property does: nothing else
-- depends on it.
use Rattle.std.specs.Prelude.{◌==◌, ℕ, List, [], Bool, None, length, if◌then◌else◌}
use Rattle.aig_circuit.specs.declared.circuit.Circuit.{Circuit}
use Rattle.aig_circuit.specs.declared.circuit.Justice.{Justice}
use Rattle.aig_circuit.specs.Justice.{end_to_end, properties_of}
use Rattle.aig_select.specs.declared.choice.Choice.{Choice}
use Rattle.aig_select.specs.Staying.{staying}

-- the justice properties that are marked
abbrev pub chosen_justice : List Bool → Justice → Justice
chosen_justice marks j = end_to_end (staying marks (properties_of j))

-- the fairness constraints, where there are justice properties
abbrev pub fairness_for : Justice → List ℕ → List ℕ
fairness_for j fairness = if length j.sizes == 0 then [] else fairness

-- what is chosen, before its names
abbrev pub chosen : Choice → Circuit → Circuit
chosen choice c = record c {
  outputs = staying choice.outputs c.outputs;
  bad = staying choice.bad c.bad;
  justice = chosen_justice choice.justice c.justice;
  fairness = fairness_for (chosen_justice choice.justice c.justice) c.fairness;
  symbols = [];
  comment = None;
}
