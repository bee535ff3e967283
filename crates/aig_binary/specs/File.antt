-- Which texts are AIGER files of which circuits, ASCII or binary, and what is wrong with a text that is none.
use Rattle.std.specs.Prelude.{◌⊎◌, ℕ, List, Option, Result, Ok, Err, if◌then◌else◌}
use Rattle.aig_circuit.specs.declared.circuit.Circuit.{Circuit}
use Rattle.aig_fault.specs.declared.stopped.Stopped.{Stopped}
use Rattle.aig_lines.specs.Lines.{lines_of}
use Rattle.aig_text.specs.Reading.{IsFirstFault, first_word_is, reading, fault_of}
use Rattle.aig_text.specs.AsciiGrammar.{IsAsciiText}
use Rattle.aig_binary.specs.BinaryGrammar.{binary_word, IsBinaryText}
use Rattle.aig_binary.specs.BinaryReading.{binary_reading}

-- the text is an ASCII or a binary file of the circuit
abbrev pub IsFileOf : List ℕ → ℕ → Circuit → Type 0
IsFileOf text limit c = IsAsciiText text limit c ⊎ IsBinaryText text limit c

-- what a text is read as: its first word tells which kind of file it is to be
abbrev pub file_reading : ℕ → List ℕ → Result Circuit Stopped
file_reading limit text =
    if first_word_is binary_word (lines_of text) then binary_reading limit text else reading limit text

-- the first fault of a text, where it has one
abbrev pub first_fault : ℕ → List ℕ → Option Stopped
first_fault limit text = fault_of (file_reading limit text)

-- bytes are the file of this circuit within the limit, or this is their first fault, unless memory was refused
abbrev pub AnswersFile : ℕ → Result Circuit Stopped → List ℕ → Type 0
AnswersFile limit (Ok c) bytes = IsFileOf bytes limit c
AnswersFile limit (Err fault) bytes = IsFirstFault fault (first_fault limit bytes)
