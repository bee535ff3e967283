-- One step of a run that is looked at, and an answer that is read. Only private functions cite this.
use Rattle.std.specs.Prelude.{◌≡◌, ◌≢◌, ◌+◌, ◌++◌, ℕ, List, Option, None, Some, Result, Ok, Err, length, replicate}
use Rattle.std.specs.List.{AllByRecursion, flat_map}
use Rattle.aig_circuit.specs.declared.circuit.Circuit.{Circuit}
use Rattle.aig_circuit.specs.declared.value.Val.{Val}
use Rattle.aig_answer.specs.Answer.{answer_of, closed}
use Rattle.aig_answer.specs.declared.reader.Reader.{Reader}
use Rattle.aig_answer.specs.declared.reader.Spot.TheVariants.{Wrong}
use Rattle.aig_answer.specs.declared.reader.Status.TheVariants.{Satisfiable}
use Rattle.aig_fault.specs.declared.stopped.Stopped.{Stopped}
use Rattle.aig_fault.specs.declared.stopped.Stopped.TheVariants.{ReadFailed, Refused}
use Rattle.aig_io.specs.Runs.{AtEnd, Broken, Ending, IsUnbroken, Open}
use Rattle.aig_meaning.specs.Meaning.{IsRow, MeansTheSame, Row}
use Rattle.aig_meaning.specs.Trace.{Follow}
use Rattle.aig_step.specs.TraceText.{values_text}
use Rattle.aig_step.specs.Parts.Stepping.{Stepping}
use Rattle.aig_unroll.specs.Unrolled.{all_inputs, resets_of, uninitialised}
use Rattle.aig_replay.specs.declared.search.Sight.{Sight}
use Rattle.aig_replay.specs.declared.start.FoundRun.{FoundRun}
use Rattle.aig_replay.specs.Finding.{hit_from, shown_by}
use Rattle.aig_replay.specs.Reached.{HasFound, NotFoundBy, fault_said, read_over, run_of, said_in}

-- a step was taken with these inputs: this is its row, which shows this and leads to the state after it
pub record Took (before after : Stepping) (given : List Val) (shown : Sight) : Type 0 where
  pub row : Row
  pub is_row : IsRow before.circuit row
  pub from : row.state ≡ before.state
  pub inputs : row.inputs ≡ given
  pub leads : after.state ≡ row.next
  pub shows : shown ≡ shown_by row.constraints row.bad

-- The run is on, so many steps were taken of so many, and these bytes are left: nothing was found so far in all rows.
pub record IsOn (c : Circuit) (state : List Val) (count step : ℕ) (rest : List ℕ) (all : List Row) : Type 0 where
  pub left : List (List Val)
  pub rows : List Row
  pub bytes : rest ≡ flat_map values_text left
  pub long : AllByRecursion (λ (given : List Val). length given ≡ length c.inputs) left
  pub many : step + length left ≡ count
  pub follow : Follow c state left rows
  pub same : hit_from step rows ≡ hit_from 0 all

-- Of these steps the first so many were done, and these bytes are left.
pub record AreAppended (inputs count step : ℕ) (rest : List ℕ) (all done : List (List Val)) : Type 0 where
  pub left : List (List Val)
  pub parted : all ≡ done ++ left
  pub bytes : rest ≡ flat_map values_text left
  pub long : AllByRecursion (λ (given : List Val). length given ≡ inputs) left
  pub many : step + length left ≡ count

-- Why the values of an answer were not taken that was read so far.
abbrev pub NotTaken : Reader → Stopped → Ending → Type 0
NotTaken r ReadFailed ending = (ending ≡ Broken) × (r.spot ≢ Wrong)
NotTaken r (Refused fault) ending =
    IsUnbroken ending × (ending ≡ Open → r.spot ≡ Wrong) × (fault ≡ fault_said (answer_of (closed r)))
    × (answer_of (closed r) ≢ Ok Satisfiable)
NotTaken r stopped ending = ⊥

-- There is room for the values of an answer, each 0, and for a first state; and what runs means the same.
pub record HasPlaces (c : Circuit) (frames : ℕ) (run : Circuit) (bits first : List ℕ) : Type 0 where
  pub means : MeansTheSame c run
  pub bits_are : bits ≡ replicate (all_inputs c frames) 48
  pub latches : length first ≡ length c.latches

-- This run was found by an answer of these bytes, whose values are these characters, from a first state of these.
pub record IsRunBy (d : Circuit) (frames : ℕ) (bytes : List ℕ) (run : FoundRun) (bits first : List ℕ) : Type 0 where
  pub said : said_in d frames bytes ≡ Ok Satisfiable
  pub bits_are : bits ≡ (read_over d frames bytes).bits
  pub found : HasFound d frames bits (Some run.hit)
  pub used : run.used ≡ uninitialised (resets_of d)
  pub first_is : first ≡ values_text (run_of d frames bits).first

-- All came, and by it a run was found; or there is no witness.
abbrev pub RunSays : Circuit → ℕ → Result FoundRun Stopped → List ℕ → List ℕ → List ℕ → Ending → Type 0
RunSays d frames (Ok run) bits first bytes ending = (ending ≡ AtEnd) × IsRunBy d frames bytes run bits first
RunSays d frames (Err stopped) bits first bytes ending = NotFoundBy d frames stopped bytes ending

-- this number, or else that one
abbrev pub number_or : Option ℕ → ℕ → ℕ
number_or None property = property
number_or (Some n) property = n
