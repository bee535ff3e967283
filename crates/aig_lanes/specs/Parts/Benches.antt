-- What runs are stepped in, one group after the other.
use Rattle.std.specs.Prelude.{◌≡◌, ◌*◌, ◌<◌, ◌≤◌, ◌^◌, ℕ, List, length}
use Rattle.std.specs.List.{All}
use Rattle.aig_circuit.specs.declared.circuit.Circuit.{Circuit}
use Rattle.aig_lanes.specs.declared.run.Run.{Run}
use Rattle.aig_lanes.specs.declared.bench.Bench.{Bench}
use Rattle.aig_lanes.specs.Parts.InputBits.{HasLaneRoom, HasStep, SameRooms}
use Rattle.aig_lanes.specs.Parts.LaneTexts.{AreTables, HasLane, HoldsRuns, LaneStands, end_of, shown_size}
use Rattle.aig_lanes.specs.Parts.Sheets.{SameRoom, text_in}
use Rattle.aig_step.specs.Parts.Lines.{line_size}

-- it has what a circuit asks for, and room for a line
pub record IsBench (c : Circuit) (bench : Bench) : Type 0 where
  pub tables : AreTables c bench.shown (length bench.bits.items) (length bench.table.items) (length bench.state.items)
  pub line : length bench.line.items ≡ line_size c

-- as many lines as a run has steps can be counted in a word
abbrev pub Fits : Circuit → Run → Type 0
Fits c run = length run.steps * line_size c < 2 ^ 64

-- it has room for the steps of these runs, and a lane for each
pub record HasRoomFor (c : Circuit) (bench : Bench) (runs : List Run) : Type 0 where
  pub is : IsBench c bench
  pub lanes : length runs ≤ 256
  pub counts : All (Fits c) runs
  pub bits : All (HasLaneRoom runs) bench.bits.items
  pub sheet : HoldsRuns bench.shown bench.sheet runs

-- it has room for a step in each lane
pub record HasRoomForSteps (c : Circuit) (bench : Bench) : Type 0 where
  pub is : IsBench c bench
  pub bits : All HasStep bench.bits.items
  pub sheet : (l : ℕ) → l < 256 → end_of bench.shown 1 ≤ length (text_in l bench.sheet)
  pub fits : shown_size bench.shown < 2 ^ 64

-- it has the room that it had
pub record HasSameRoom (before after : Bench) : Type 0 where
  pub bits : SameRooms before.bits.items after.bits.items
  pub table : length after.table.items ≡ length before.table.items
  pub state : length after.state.items ≡ length before.state.items
  pub shown : after.shown ≡ before.shown
  pub sheet : SameRoom before.sheet after.sheet
  pub line : length after.line.items ≡ length before.line.items

-- a run has a lane in it
abbrev pub HeldIn : Circuit → Bench → (lane : ℕ) → Run → Type 0
HeldIn c bench = HasLane c bench.bits.items bench.shown bench.sheet

-- a run has taken so many steps in its lane
abbrev pub EndsIn : Circuit → (steps : ℕ) → Bench → (lane : ℕ) → Run → Type 0
EndsIn c steps bench lane run =
    LaneStands c run steps lane bench.table.items bench.state.items bench.shown bench.sheet
