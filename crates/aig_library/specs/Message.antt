-- The words for an outcome (this project's interface for C): as the program words the fault, without a name.
use Rattle.std.specs.Prelude.{◌≡◌, ◌<◌, ◌==◌, ◌++◌, ◌⊎◌, ℕ, List, [], Option, None, Some, drop, length, if◌then◌else◌}
use Rattle.aig_fault.specs.Stopping.{stopped_text}
use Rattle.aig_fault.specs.Words.{fault_text, kind_of_number, kind_text, place_text}
use Rattle.aig_fault.specs.declared.fault.Fault.{Fault}
use Rattle.aig_fault.specs.declared.fault.Place.{Place}
use Rattle.aig_fault.specs.declared.fault.Place.TheVariants.{Bad, Gate, Input, Line, MapLine, Output}
use Rattle.aig_fault.specs.declared.fault.Place.TheVariants.{Value, Whole, Word}
use Rattle.aig_fault.specs.declared.kind.Kind.{Kind}
use Rattle.aig_fault.specs.declared.stopped.Stopped.TheVariants.{OutOfMemory, Refused}
use Rattle.aig_library.specs.Numbers as numbers
use Rattle.aig_library.specs.Outcome.{fault_outcome, out_of_memory, second_outcome}
use Rattle.aig_library.specs.declared.outcome.Outcome.{Outcome}

-- the place of these numbers; those of no place stand for the whole
abbrev pub place_of : (place number : ℕ) → Place
place_of place number =
    if place == numbers.line then Line number else
    if place == numbers.gate then Gate number else
    if place == numbers.map_line then MapLine number else
    if place == numbers.word then Word number else
    if place == numbers.value then Value number else
    if place == numbers.input then Input number else
    if place == numbers.output then Output number else
    if place == numbers.bad then Bad number else Whole

-- the words of a kind; where a number is that of none, there are no words
abbrev pub words_of : Option Kind → (subject : ℕ) → List ℕ
words_of None subject = []
words_of (Some kind) subject = kind_text kind subject

-- where it is wrong, and what
abbrev pub fault_words : Outcome → List ℕ
fault_words o = place_text (place_of o.place o.number) ++ words_of (kind_of_number o.kind) o.subject

-- the words for an outcome: none where nothing is wrong with an input and memory was not refused
abbrev pub outcome_text : Outcome → List ℕ
outcome_text o =
    if o.status == numbers.out_of_memory then stopped_text OutOfMemory
    else if o.status == numbers.refused then fault_words o
    else if o.status == numbers.second_refused then fault_words o else []

-- the words for the outcome of a fault, of the first input or of the second, are those in which the program reports it,
-- and so are those for want of memory
abbrev pub MessagesTellFaults : Type 0
MessagesTellFaults =
    ((fault : Fault) → outcome_text (fault_outcome fault) ≡ fault_text fault)
    × ((fault : Fault) → outcome_text (second_outcome (Refused fault)) ≡ fault_text fault)
    × (outcome_text out_of_memory ≡ stopped_text OutOfMemory)

-- The text is at the front of the output, where there is room for it, and else the output is as it was. Its length is
-- answered.
abbrev pub IsWritten : (text before after : List ℕ) (answer : ℕ) → Type 0
IsWritten text before after answer = (answer ≡ length text)
    × ((after ≡ text ++ drop (length text) before) ⊎ ((length before < length text) × (after ≡ before)))
