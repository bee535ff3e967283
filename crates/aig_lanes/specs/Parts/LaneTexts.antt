-- What is kept of runs of a group, stepped side by side.
use Rattle.std.specs.Prelude.{◌≡◌, ◌+◌, ◌*◌, ◌<◌, ◌≤◌, ◌++◌, ℕ, zero, suc, List, [], codes, length}
use Rattle.std.specs.Prelude.{slice_index_or, take}
use Rattle.aig_circuit.specs.declared.circuit.Circuit.{Circuit}
use Rattle.aig_circuit.specs.declared.value.Val.{Val}
use Rattle.aig_meaning.specs.Meaning.{Row}
use Rattle.aig_meaning.specs.Trace.{IsTrace, reset_state, state_after}
use Rattle.aig_lanes.specs.declared.run.Run.{Run}
use Rattle.aig_lanes.specs.declared.lane_columns.LaneColumns.{LaneColumns}
use Rattle.aig_step.specs.declared.trace.Columns.{Columns}
use Rattle.aig_step.specs.declared.trace.Columns.TheVariants.{Plain, Properties}
use Rattle.aig_lanes.specs.declared.input_bits.InputWord.{InputWord}
use Rattle.aig_places.specs.Tables.{IsTable}
use Rattle.aig_lanes.specs.Parts.InputBits.{AreBlocks, HoldsLane}
use Rattle.aig_places.specs.Lanes.{IsLane}
use Rattle.aig_places.specs.Places.{ArePlaces, StandFor}
use Rattle.aig_lanes.specs.Parts.Kept.{asked, reset_literals, step_literals}
use Rattle.aig_lanes.specs.Parts.Sheets.{BytesText, part, text_in}
use Rattle.aig_lanes.specs.Runs.{IsRunOf}
use Rattle.aig_step.specs.TraceText.{rows_text, values_text}

-- it shows what the rows of a circuit show
pub record ShowsRows (c : Circuit) (shown : LaneColumns) : Type 0 where
  pub outputs : shown.outputs ≡ length c.outputs
  pub bad : shown.bad ≡ length (asked shown.columns c.bad)
  pub constraints : shown.constraints ≡ length (asked shown.columns c.constraints)
  pub resets : shown.resets.items ≡ reset_literals c.latches
  pub places : ArePlaces c shown.places
  pub literals : StandFor c shown.places (step_literals shown.columns c) shown.literals.items

-- there are as many blocks of inputs and as many planes as a circuit asks for, and what is shown is what its rows show
pub record AreTables (c : Circuit) (shown : LaneColumns) (blocks table state : ℕ) : Type 0 where
  pub bits : AreBlocks (length c.inputs) blocks
  pub table_size : table ≡ 2 * shown.places.count
  pub state_size : state ≡ 2 * length c.latches
  pub shows : ShowsRows c shown

-- how many characters are kept of so many steps, with the state after them
abbrev pub end_of : LaneColumns → ℕ → ℕ
end_of shown steps = steps * length shown.literals.items + length shown.resets.items

-- how long a line may be, without its inputs
abbrev pub shown_size : LaneColumns → ℕ
shown_size shown = length shown.resets.items + length shown.literals.items + 6

-- in a lane there are places for all steps of a run
abbrev pub HoldsRun : (lane : ℕ) → Run → LaneColumns → List BytesText → Type 0
HoldsRun lane run shown sheet = end_of shown (length run.steps) ≤ length (text_in lane sheet)

-- a run has a lane: its inputs stand there as bits, and there are places for all its steps
pub record HasLane (c : Circuit) (bits : List (List (List InputWord))) (shown : LaneColumns) (sheet : List BytesText)
    (lane : ℕ) (run : Run) : Type 0 where
  pub is_lane : lane < 256
  pub fits : IsRunOf c run
  pub stands : HoldsLane lane run bits
  pub room : HoldsRun lane run shown sheet

-- there are places for all steps of each of the runs in its lane
abbrev pub HoldsRuns : LaneColumns → List BytesText → List Run → Type 0
HoldsRuns shown sheet runs =
    (l : ℕ) (d : Run) → l < 256 → l < length runs → HoldsRun l (slice_index_or runs l d) shown sheet

-- the columns of bad states and constraints, where they are asked for and stand at this place of a text
abbrev pub shown_properties : Columns → (from bad constraints : ℕ) → List ℕ → List ℕ
shown_properties Plain from bad constraints text = []
shown_properties Properties from bad constraints text =
    codes " " ++ (part from bad text ++ (codes " " ++ part (from + bad) constraints text))

-- the line of a step by the text of its lane, with this text for its inputs
abbrev pub shown_text : LaneColumns → (step : ℕ) → (given text : List ℕ) → List ℕ
shown_text shown step given text =
    part (step * length shown.literals.items) (length shown.resets.items) text
    ++ (codes " " ++ (given ++ (codes " " ++ (part (end_of shown step) shown.outputs text
    ++ (codes " " ++ (part ((step + 1) * length shown.literals.items) (length shown.resets.items) text
    ++ (shown_properties shown.columns (end_of shown step + shown.outputs) shown.bad shown.constraints text
    ++ codes "\n")))))))

-- the lines of the first steps of a run by the text of its lane
abbrev pub kept_text : LaneColumns → Run → (steps : ℕ) → (text : List ℕ) → List ℕ
kept_text shown run zero text = []
kept_text shown run (suc step) text =
    kept_text shown run step text ++ shown_text shown step (values_text (slice_index_or run.steps step [])) text

-- the text of a lane shows this row for a step with these inputs
pub record RowStands (shown : LaneColumns) (step : ℕ) (given : List Val) (text : List ℕ) (row : Row) : Type 0 where
  pub state : part (step * length shown.literals.items) (length shown.resets.items) text ≡ values_text row.state
  pub inputs : row.inputs ≡ given
  pub outputs : part (end_of shown step) shown.outputs text ≡ values_text row.outputs
  pub bad : part (end_of shown step + shown.outputs) shown.bad text ≡ values_text (asked shown.columns row.bad)
  pub constraints : part (end_of shown step + shown.outputs + shown.bad) shown.constraints text
      ≡ values_text (asked shown.columns row.constraints)
  pub next : part ((step + 1) * length shown.literals.items) (length shown.resets.items) text ≡ values_text row.next

-- these rows are the circuit's trace of vectors of inputs, from the reset state, and are kept in the text of a lane
pub record KeepsTrace (c : Circuit) (vectors : List (List Val)) (shown : LaneColumns) (text : List ℕ) (rows : List Row)
    : Type 0 where
  pub traced : IsTrace c (reset_state c) vectors rows
  pub count : length rows ≡ length vectors
  pub each : (t : ℕ) (d : Row) → t < length rows
      → RowStands shown t (slice_index_or vectors t []) text (slice_index_or rows t d)
  pub last : part (length vectors * length shown.literals.items) (length shown.resets.items) text
      ≡ values_text (state_after (reset_state c) rows)

-- the trace of a run is kept in its lane
abbrev pub KeepsRun : Circuit → Run → (lane : ℕ) → LaneColumns → List BytesText → Type 0
KeepsRun c run lane shown sheet = (rows : List Row) × KeepsTrace c run.steps shown (text_in lane sheet) rows

-- So many steps were taken side by side: what is kept is the run's trace so far; and where the run has as many steps,
-- the state after them stands in its lane.
pub record LaneStands (c : Circuit) (run : Run) (steps lane : ℕ) (table state : List (List ℕ))
    (shown : LaneColumns) (sheet : List BytesText) : Type 0 where
  pub rows : List Row
  pub keeps : KeepsTrace c (take steps run.steps) shown (text_in lane sheet) rows
  pub table_stands : steps ≤ length run.steps → IsTable lane shown.places.count table
  pub state_stands : steps ≤ length run.steps → IsLane lane state (state_after (reset_state c) rows)

-- the lines for all steps of a run, from the reset state
pub record IsTextOf (columns : Columns) (c : Circuit) (run : Run) (text : List ℕ) : Type 0 where
  pub rows : List Row
  pub traced : IsTrace c (reset_state c) run.steps rows
  pub is : text ≡ rows_text columns rows
