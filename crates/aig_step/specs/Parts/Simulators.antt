-- What a simulator holds.
use Rattle.std.specs.Prelude.{◌≡◌, Some, None, length, map, if◌then◌else◌}
use Rattle.aig_circuit.specs.declared.circuit.Circuit.{Circuit}
use Rattle.aig_meaning.specs.Meaning.{Row}
use Rattle.aig_step.specs.Simulating.{Simulation}
use Rattle.aig_step.specs.declared.simulator.Shown.{Shown}
use Rattle.aig_step.specs.declared.simulator.Simulator.TheInside.{Inside}
use Rattle.aig_step.specs.Parts.Tables.{read_from}

-- what the last step showed, if one was taken; its inputs stand in the table
abbrev pub last_row : Inside → Row
last_row s = record {
  state = s.shown.before.items;
  inputs = map (read_from s.stepper.values) s.stepper.circuit.inputs;
  outputs = s.shown.outputs.items;
  next = s.shown.next.items;
  bad = s.shown.bad.items;
  constraints = s.shown.constraints.items;
}

abbrev pub simulation_of : Inside → Simulation
simulation_of s = record {
  circuit = s.stepper.circuit;
  state = s.stepper.state;
  row = if s.is_stepped then Some (last_row s) else None;
}

-- there is room for each list of a row
pub record HasRoom (c : Circuit) (shown : Shown) : Type 0 where
  pub before : length shown.before.items ≡ length c.latches
  pub outputs : length shown.outputs.items ≡ length c.outputs
  pub next : length shown.next.items ≡ length c.latches
  pub bad : length shown.bad.items ≡ length c.bad
  pub constraints : length shown.constraints.items ≡ length c.constraints
