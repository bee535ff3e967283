-- What the definitions of binary files say of one another.
use Rattle.std.specs.Prelude.{◌≡◌, ◌↔◌, ℕ, List, None, Ok}
use Rattle.aig_circuit.specs.declared.circuit.Circuit.{Circuit}
use Rattle.aig_circuit.specs.declared.circuit.TheConstants.{LARGEST}
use Rattle.aig_circuit.specs.Wellformed.{IsWellFormed}
use Rattle.aig_checked.specs.BinaryOrder.{IsInBinaryOrder}
use Rattle.aig_rows.specs.Outcomes.{IsReadOrRefused}
use Rattle.aig_binary.specs.BinaryGrammar.{IsBinaryText}
use Rattle.aig_binary.specs.BinaryText.{binary_text}
use Rattle.aig_binary.specs.BinaryReading.{binary_reading, first_binary_fault}
use Rattle.aig_binary.specs.File.{file_reading}

-- what is read is exactly the circuit whose file the text is
abbrev pub BinaryReadExactly : Type 0
BinaryReadExactly =
    (text : List ℕ) (limit : ℕ) (c : Circuit) → (binary_reading limit text ≡ Ok c) ↔ IsBinaryText text limit c

-- a text is the file of a circuit exactly where it has no fault
abbrev pub BinaryFaultyOrAccepted : Type 0
BinaryFaultyOrAccepted =
    (text : List ℕ) (limit : ℕ) → (first_binary_fault limit text ≡ None) ↔ ((c : Circuit) × IsBinaryText text limit c)

-- a text is read as a circuit, or is refused with a fault
abbrev pub FilesAreReadOrRefused : Type 0
FilesAreReadOrRefused = (limit : ℕ) (text : List ℕ) → IsReadOrRefused (file_reading limit text)

-- a text is the file of one circuit at most
abbrev pub BinaryTextsAreUnambiguous : Type 0
BinaryTextsAreUnambiguous =
    (text : List ℕ) (limit : ℕ) (c d : Circuit) → IsBinaryText text limit c → IsBinaryText text limit d → c ≡ d

-- the canonical text of a well-formed circuit in binary order is its file
abbrev pub CanonicalBinaryIsAccepted : Type 0
CanonicalBinaryIsAccepted = (c : Circuit) → IsWellFormed c → IsInBinaryOrder c → IsBinaryText (binary_text c) LARGEST c
