-- What the answer of a simulation says that writes its trace, or the dump of that.
use Rattle.std.specs.Prelude.{◌≡◌, ℕ, List, Bool, Result, Err, MatchBool, is_ok}
use Rattle.aig_io.specs.Runs.{All, Delivery, Ending, IsCut}
use Rattle.aig_circuit.specs.declared.circuit.Circuit.{Circuit}
use Rattle.aig_fault.specs.declared.stopped.Stopped.{Stopped}
use Rattle.aig_fault.specs.declared.stopped.Stopped.TheVariants.{WriteFailed}
use Rattle.aig_step.specs.declared.trace.Columns.{Columns}
use Rattle.aig_step.specs.declared.trace.Columns.TheVariants.{Properties}
use Rattle.aig_step.specs.Outcome.{TraceSays}
use Rattle.aig_trace.specs.Taken.{meant}
use Rattle.aig_batch.specs.Batched.{BatchSays}
use Rattle.aig_wave.specs.Wave.{wave_text}

-- what an answer says where the trace is written, as a batch or step by step
abbrev pub TraceSaysAs : Bool → Circuit → Columns → Result (Unit {0}) Stopped → List ℕ → Ending → List ℕ → Delivery
    → Type 0
TraceSaysAs batch c columns answer bytes ending text delivery =
    MatchBool batch (BatchSays c columns answer bytes ending text delivery)
    (TraceSays c columns answer bytes ending text delivery)

-- This is the dump of all of the trace, with all its columns, that goes with this answer. It is ended where the
-- simulation succeeded.
pub record IsDumpOf (batch : Bool) (c : Circuit) (answer : Result (Unit {0}) Stopped) (bytes : List ℕ)
    (ending : Ending)
    (dump : List ℕ) : Type 0 where
  pub trace : List ℕ
  pub delivery : Delivery
  pub says : TraceSaysAs batch c Properties answer bytes ending trace delivery
  pub is_dump : dump ≡ wave_text c (meant trace delivery) (is_ok answer)

-- The sink took all of the dump that goes with the answer; or it failed on the way, however the simulation ended.
abbrev pub DumpSays : Bool → Circuit → Result (Unit {0}) Stopped → List ℕ → Ending → List ℕ → Delivery → Type 0
DumpSays batch c (Err WriteFailed) bytes ending text delivery =
    IsCut delivery × ((answer : Result (Unit {0}) Stopped) × IsDumpOf batch c answer bytes ending text)
DumpSays batch c answer bytes ending text delivery = (delivery ≡ All) × IsDumpOf batch c answer bytes ending text
