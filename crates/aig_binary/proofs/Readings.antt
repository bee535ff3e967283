-- What comes of a file that was read, by what was made of it.
use Rattle.std.proofs.Common.{◌≡◌, ℕ, List, Result, Ok, Err, inl, inr, refl, true, false}
use Rattle.aig_circuit.specs.declared.circuit.Circuit.{Circuit}
use Rattle.aig_fault.specs.Stopping.{StopsFor, stopped_by}
use Rattle.aig_fault.specs.declared.fault.Fault.{Fault}
use Rattle.aig_fault.specs.declared.stopped.Stopped.{Stopped}
use Rattle.aig_fault.specs.declared.stopped.Stopped.TheVariants as stops
use Rattle.aig_io.specs.Devices.{GaveSome, History}
use Rattle.aig_io.specs.Runs.{AtEnd, Broken, Ending, Open, Read}
use Rattle.aig_io.specs.declared.transfer.ReadError.{ReadError}
use Rattle.aig_io.specs.declared.transfer.ReadError.TheVariants as errors
use Rattle.aig_text.specs.Reading.{IsFirstFault}
use Rattle.aig_text.specs.Sources.{ReadsAs}
use Rattle.aig_text.proofs.Refusals.{told_refuses}
use Rattle.aig_binary.specs.File.{AnswersFile, IsFileOf, file_reading, first_fault}
use Rattle.aig_binary.specs.Reading.{AtItsEnd, IsUnreadable, NotRead, ReadSays}
use Rattle.aig_binary.proofs.Refusals.{file_refuses}

-- what is refused once all came
pub at_its_end : (IsRefused : Fault → List ℕ → Type 0) (stopped : Stopped) (bytes : List ℕ)
    → StopsFor (λ fault. IsRefused fault bytes) stopped → NotRead (AtItsEnd IsRefused) stopped bytes AtEnd
at_its_end IsRefused stops.OutOfMemory bytes why = tt
at_its_end IsRefused stops.ReadFailed bytes why = absurd why
at_its_end IsRefused stops.WriteFailed bytes why = absurd why
at_its_end IsRefused (stops.Refused fault) bytes why = (refl, why)

-- the first fault of bytes, unless memory was refused
unreadable : (limit : ℕ) (e : Stopped) (bytes : List ℕ) → IsFirstFault e (first_fault limit bytes)
    → StopsFor (λ fault. IsUnreadable limit fault bytes) e
unreadable limit stops.OutOfMemory bytes is = tt
unreadable limit stops.ReadFailed bytes (inl is) = cc
unreadable limit stops.ReadFailed bytes (inr is) =
    absurd (told_refuses (file_reading limit bytes) (file_refuses limit bytes) is)
unreadable limit stops.WriteFailed bytes (inl is) = cc
unreadable limit stops.WriteFailed bytes (inr is) =
    absurd (told_refuses (file_reading limit bytes) (file_refuses limit bytes) is)
unreadable limit (stops.Refused fault) bytes (inl is) = cc
unreadable limit (stops.Refused fault) bytes (inr is) = is

-- the source failed, or memory was refused
not_come : (Refuses : Fault → List ℕ → Ending → Type 0) (error : ReadError) (before after : History)
    → GaveSome error before after → Read (NotRead Refuses (stopped_by error)) before after
not_come Refuses errors.Source before after (bytes, gave) =
    record { bytes = bytes; ending = Broken; says = refl; came = gave }
not_come Refuses errors.OutOfMemory before after (bytes, true, gave) =
    record { bytes = bytes; ending = AtEnd; says = tt; came = gave }
not_come Refuses errors.OutOfMemory before after (bytes, false, gave) =
    record { bytes = bytes; ending = Open; says = tt; came = gave }

-- a source was read, and gave a circuit or none
pub source_read : (limit : ℕ) (made : Result Circuit Stopped) (before after : History)
    → ReadsAs (AnswersFile limit) made before after
    → Read (ReadSays (λ found bytes. IsFileOf bytes limit found) (AtItsEnd (IsUnreadable limit)) made) before after
source_read limit (Ok found) before after read =
    record { bytes = read.bytes; ending = AtEnd; says = (refl, read.holds); came = read.gave }
source_read limit (Err e) before after (inl read) = record {
  bytes = read.bytes;
  ending = AtEnd;
  says = at_its_end (IsUnreadable limit) e read.bytes (unreadable limit e read.bytes read.holds);
  came = read.gave;
}
source_read limit (Err e) before after (inr failed) =
    rw failed.is (not_come (AtItsEnd (IsUnreadable limit)) failed.error before after failed.gave)
