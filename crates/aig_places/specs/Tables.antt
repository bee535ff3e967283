-- Tables of planes: what stands in a lane.
use Rattle.std.specs.Prelude.{◌≡◌, ◌*◌, ◌<◌, ℕ, List, length}
use Rattle.aig_circuit.specs.declared.circuit.Circuit.{Circuit}
use Rattle.aig_circuit.specs.declared.value.Val.{Val}
use Rattle.aig_circuit.specs.declared.value.Val.TheVariants.{X, Zero}
use Rattle.aig_places.specs.Lanes.{IsLane, values_in}
use Rattle.aig_places.specs.Places.{AreSeen}
use Rattle.aig_step.specs.Parts.Tables.{read_from}

-- in a lane the variables of a table have values
pub record IsTable (lane size : ℕ) (table : List (List ℕ)) : Type 0 where
  pub stand : IsLane lane table (values_in lane table)
  pub size_is : length (values_in lane table) ≡ size

-- in each lane the variables of a table have values
abbrev pub IsWhole : List (List ℕ) → Type 0
IsWhole table = (l variables : ℕ) → l < 256 → length table ≡ 2 * variables → IsTable l variables table

-- in a lane the constant is 0, variable 1 is x, and the others have values
pub record Begun (lane size : ℕ) (table : List (List ℕ)) : Type 0 where
  pub now : IsTable lane size table
  pub constant : read_from (values_in lane table) 0 ≡ Zero
  pub unknown : 1 < size → read_from (values_in lane table) 1 ≡ X

-- in a lane the table has what these literals over places show of a step
pub record Assigned (c : Circuit) (lane size : ℕ) (state given : List Val) (literals seen : List ℕ)
    (table : List (List ℕ)) : Type 0 where
  pub now : IsTable lane size table
  pub step : AreSeen c state given literals seen (values_in lane table)
