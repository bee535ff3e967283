-- What came of a call, in numbers (this project's interface for C).
use Rattle.std.specs.Prelude.{◌≡◌, ◌<◌, ◌++◌, ◌⊎◌, ℕ, List, drop, length}
pub use Rattle.aig_dump.specs.InMemory.{StopsInMemory}
use Rattle.aig_fault.specs.Words.{kind_number}
use Rattle.aig_fault.specs.declared.fault.Fault.{Fault}
use Rattle.aig_fault.specs.declared.fault.Place.{Place}
use Rattle.aig_fault.specs.declared.fault.Place.TheVariants as places
use Rattle.aig_fault.specs.declared.stopped.Stopped.{Stopped}
use Rattle.aig_fault.specs.declared.stopped.Stopped.TheVariants as stops
use Rattle.aig_library.specs.Numbers as numbers
use Rattle.aig_library.specs.declared.outcome.Outcome.{Outcome}

-- a call ended so, without a fault
abbrev pub ending : (status number length : ℕ) → Outcome
ending status number length =
    record { status = status; kind = 0; place = numbers.whole; subject = 0; number = number; length = length }

-- memory was refused
abbrev pub out_of_memory : Outcome
out_of_memory = ending numbers.out_of_memory 0 0

-- a place, by the numbers of the header
abbrev pub place_numbers : Place → ℕ × ℕ
place_numbers places.Whole = (numbers.whole, 0)
place_numbers (places.Line number) = (numbers.line, number)
place_numbers (places.Gate number) = (numbers.gate, number)
place_numbers (places.MapLine number) = (numbers.map_line, number)
place_numbers (places.Word number) = (numbers.word, number)
place_numbers (places.Value number) = (numbers.value, number)
place_numbers (places.Input number) = (numbers.input, number)
place_numbers (places.Output number) = (numbers.output, number)
place_numbers (places.Bad number) = (numbers.bad, number)

-- the input is refused with this fault
abbrev pub fault_outcome : Fault → Outcome
fault_outcome fault = record {
  status = numbers.refused;
  kind = kind_number fault.kind;
  place = (place_numbers fault.place).0;
  subject = fault.subject;
  number = (place_numbers fault.place).1;
  length = 0;
}

-- nothing was made; a source in memory does not fail, and a sink in memory fails where memory is refused
abbrev pub outcome_of : Stopped → Outcome
outcome_of (stops.Refused fault) = fault_outcome fault
outcome_of stopped = out_of_memory

-- the same of a call of two inputs, where it is the second that is refused
abbrev pub second_outcome : Stopped → Outcome
second_outcome (stops.Refused fault) = record (fault_outcome fault) { status = numbers.second_refused }
second_outcome stopped = out_of_memory

-- The text is at the front of the output, and what stood after it is as it was; or it has more bytes than there is
-- room for, and the output is as it was. The outcome tells how many bytes it has: the first is that of a text that was
-- placed.
abbrev pub IsPlacedAs : (ℕ → Outcome) → (text before after : List ℕ) → Outcome → Type 0
IsPlacedAs done text before after outcome =
    ((after ≡ text ++ drop (length text) before) × (outcome ≡ done (length text)))
    ⊎ ((length before < length text) × (after ≡ before) × (outcome ≡ ending numbers.too_short 0 (length text)))

abbrev pub IsPlaced : (text before after : List ℕ) → Outcome → Type 0
IsPlaced = IsPlacedAs (ending numbers.done 0)
