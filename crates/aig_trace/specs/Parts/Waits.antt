-- Lines of a stimulus that wait for their text, where the circuit has no latches.
use Rattle.std.specs.Prelude.{◌≡◌, ◌*◌, ◌<◌, ℕ, List, [], Option, None, Some, drop, length, map, take}
use Rattle.aig_lanes.specs.declared.bench.Bench.{Bench}
use Rattle.aig_lanes.specs.Parts.Benches.{HasRoomForSteps}
use Rattle.aig_circuit.specs.declared.circuit.Circuit.{Circuit}
use Rattle.aig_circuit.specs.declared.value.Val.{Val}
use Rattle.aig_lanes.specs.Parts.Vectors.{said, vectors_in}
use Rattle.aig_step.specs.declared.trace.Columns.{Columns}
use Rattle.aig_step.specs.Stimulus.{Entry, Step, Stop, values_of}
use Rattle.aig_trace.specs.declared.waiting.Waiting.{Waiting}

-- what a line says that is this step of texts, or that ends a run
abbrev pub entry_at : (inputs : ℕ) → (texts : List ℕ) → Option ℕ → Entry
entry_at inputs texts None = Stop
entry_at inputs texts (Some step) = Step (said (values_of (take inputs (drop (step * inputs) texts))))

-- what the lines say that wait
abbrev pub entries_of : Waiting → List Entry
entries_of w = map (entry_at w.inputs w.texts.items) (take w.count w.lines.items)

-- one more line may wait
pub record HasRoomForLine (w : Waiting) : Type 0 where
  pub steps : w.steps < 256
  pub lines : w.count < 512

-- the steps that wait
abbrev pub vectors_of : Waiting → List (List Val)
vectors_of w = vectors_in w.inputs w.inputs w.steps w.texts.items

-- the bench shows what a circuit shows of the steps that wait, with these columns; the circuit has no latches
pub record Serves (c : Circuit) (columns : Columns) (bench : Bench) (w : Waiting) : Type 0 where
  pub stateless : c.latches ≡ []
  pub room : HasRoomForSteps c bench
  pub columns_are : bench.shown.columns ≡ columns
  pub inputs : w.inputs ≡ length c.inputs
