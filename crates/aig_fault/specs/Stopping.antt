-- Why a call made nothing, in words, and by which error of a device (this project's profile).
use Rattle.std.specs.Prelude.{ℕ, List, ⊤}
use Rattle.aig_memory.specs.Text.{out_of_memory_text}
use Rattle.aig_io.specs.Messages.{cannot_read_text, cannot_write_text}
use Rattle.aig_io.specs.declared.transfer.ReadError.{ReadError}
use Rattle.aig_io.specs.declared.transfer.ReadError.TheVariants as errors
use Rattle.aig_fault.specs.declared.fault.Fault.{Fault}
use Rattle.aig_fault.specs.declared.fault.Place.{Place}
use Rattle.aig_fault.specs.declared.kind.Kind.{Kind}
use Rattle.aig_fault.specs.declared.stopped.Stopped.{Stopped}
use Rattle.aig_fault.specs.declared.stopped.Stopped.TheVariants.{OutOfMemory, ReadFailed, Refused, WriteFailed}
use Rattle.aig_fault.specs.Words.{fault_text}

abbrev pub fault_at : Kind → Place → ℕ → Fault
fault_at kind place subject = record { kind = kind; place = place; subject = subject }

-- an input is refused with this fault
abbrev pub refusal : Kind → Place → ℕ → Stopped
refusal kind place subject = Refused (fault_at kind place subject)

abbrev pub stopped_by : ReadError → Stopped
stopped_by errors.Source = ReadFailed
stopped_by errors.OutOfMemory = OutOfMemory

abbrev pub stopped_text : Stopped → List ℕ
stopped_text OutOfMemory = out_of_memory_text
stopped_text ReadFailed = cannot_read_text
stopped_text WriteFailed = cannot_write_text
stopped_text (Refused fault) = fault_text fault

-- memory was refused, or the input has a fault of which this holds; no device is called
abbrev pub StopsFor : (Fault → Type 0) → Stopped → Type 0
StopsFor Holds OutOfMemory = ⊤
StopsFor Holds ReadFailed = ⊥
StopsFor Holds WriteFailed = ⊥
StopsFor Holds (Refused fault) = Holds fault
