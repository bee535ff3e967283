-- A run that is stepped alone.
use Rattle.std.specs.Prelude.{◌≡◌, ◌++◌, List, [], ◌∷◌, map}
use Rattle.aig_circuit.specs.declared.value.Val.{Val}
use Rattle.aig_lanes.specs.declared.run.FullRow.{FullRow}
use Rattle.aig_lanes.specs.Runs.{row_of}
use Rattle.aig_step.specs.Simulating.{Simulation, Stepped}

-- a simulator took a step, and its row was added
pub record Added (before after : Simulation) (given : List Val) (rows rows_now : List FullRow) : Type 0 where
  pub stepped : Stepped before after given
  pub added : map row_of rows_now ≡ map row_of rows ++ stepped.row ∷ []
