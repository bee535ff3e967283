-- What the definitions say of arrays that are read and written: the one undoes the other.
use Rattle.std.specs.Prelude.{◌≡◌, ◌++◌, ◌<◌, ◌^◌, ◌↔◌, ℕ, List, Bool, true, if◌then◌else◌}
use Rattle.aig_circuit.specs.declared.circuit.Circuit.{Circuit}
use Rattle.aig_image.specs.Image.{IsBinaryImage}
use Rattle.aig_arrays.specs.Decoded.{decoded}
use Rattle.aig_array_steps.specs.Step.{HasSections, TellsNumbered}
use Rattle.aig_command.specs.Aiger.{largest_index}
use Rattle.aig_commands.specs.Conversion.{IsConversionText, stripped}
use Rattle.aig_commands.specs.File.{IsFileOf}
use Rattle.aig_library.specs.Arrays.{Arrays, IsReadAs, IsTextOf, arrays}
use Rattle.aig_library.specs.Asked.{conversion}
use Rattle.aig_library.specs.Numbers as numbers

-- At the default limit, of the ASCII text that is written of arrays exactly these arrays are read again, where symbols
-- and bytes of names can be counted.
abbrev pub WrittenArraysAreReadAgain : Type 0
WrittenArraysAreReadAgain =
    (given made : Arrays) (text : List ℕ) → given.counts.symbols < 2 ^ 32 → given.counts.name_bytes < 2 ^ 32
    → IsTextOf true (decoded given.counts given.words given.bytes) text
    → IsReadAs 0 largest_index text made ↔ (made ≡ given)

-- What is written of the arrays of a file, in ASCII or in binary, is exactly what its conversion writes, where they
-- were read in the order of the file.
abbrev pub ReadAndWrittenIsConverted : Type 0
ReadAndWrittenIsConverted =
    (is_ascii : Bool) (max_var : ℕ) (input text : List ℕ) (made : Arrays) → IsReadAs 0 max_var input made
    → IsTextOf is_ascii (decoded made.counts made.words made.bytes) text
    ↔ IsConversionText (conversion (if is_ascii then numbers.ascii else 0) max_var) input text

-- Arrays that are read in order are those that are read again of what the conversion to binary writes of the file, with
-- the new numbers after the words.
abbrev pub OrderedArraysAreConverted : Type 0
OrderedArraysAreConverted =
    (max_var : ℕ) (input text : List ℕ) (made : Arrays) → IsReadAs numbers.ordered max_var input made
    → IsConversionText (conversion 0 max_var) input text
    → (again : Arrays) × (new : List ℕ) × IsReadAs 0 largest_index text again
    × (made ≡ arrays (again.words ++ new) again.bytes again.counts)

-- Arrays that are read in order can be stepped: the words are those of the binary image, which is in order.
abbrev pub OrderedArraysCanBeStepped : Type 0
OrderedArraysCanBeStepped =
    (max_var : ℕ) (input : List ℕ) (made : Arrays) → IsReadAs numbers.ordered max_var input made
    → HasSections made.counts made.words
    × ((found : Circuit) × (image : Circuit) × IsFileOf input max_var found × IsBinaryImage found image
    × TellsNumbered made.counts made.words (stripped image))
