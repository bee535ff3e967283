-- The canonical ASCII text of a circuit (this project's profile): canonical numbers, single spaces, a line feed after
-- each line.
use Rattle.std.specs.Prelude.{◌-◌, ◌==◌, ◌&&◌, ℕ, List, [], ◌∷◌, ◌++◌, Option, None, Some, codes, decimal}
use Rattle.std.specs.Prelude.{if◌then◌else◌}
use Rattle.std.specs.List.{flat_map}
use Rattle.aig_circuit.specs.declared.circuit.Circuit.{Circuit}
pub use Rattle.aig_circuit.specs.SymbolText.{symbol_text}
use Rattle.aig_text.specs.Sections.{ascii_word, header_row, rows_of, least_header_numbers}
use Rattle.aig_rows.specs.Rows.{Row}

abbrev pub spaced_number : ℕ → List ℕ
spaced_number n = codes " " ++ decimal n

-- each number after a space, and the line feed
abbrev pub more_numbers_text : List ℕ → List ℕ
more_numbers_text [] = codes "\n"
more_numbers_text (n ∷ ns) = codes " " ++ (decimal n ++ more_numbers_text ns)

-- a numbered line: numbers with a space between them, and the line feed
abbrev pub numbers_text : List ℕ → List ℕ
numbers_text [] = codes "\n"
numbers_text (n ∷ ns) = decimal n ++ more_numbers_text ns

-- a number before others that are written; a zero that would stand last, where none needs to, is left out
abbrev pub number_before : ℕ → ℕ → List ℕ → List ℕ
number_before least n [] = if (least == 0) && (n == 0) then [] else n ∷ []
number_before least n (m ∷ ms) = n ∷ m ∷ ms

-- the numbers that are written of these: all up to the last one that is not 0, and at least so many
abbrev pub shortened : ℕ → List ℕ → List ℕ
shortened least [] = []
shortened least (n ∷ ns) = number_before least n (shortened (least - 1) ns)

abbrev pub header_text : List ℕ → List ℕ → List ℕ
header_text word ns = word ++ more_numbers_text (shortened least_header_numbers ns)

abbrev pub comment_text : Option (List ℕ) → List ℕ
comment_text None = []
comment_text (Some bytes) = codes "c\n" ++ bytes

-- the symbols, and then the comment section where there is one
abbrev pub tail_text : Circuit → List ℕ
tail_text c = flat_map symbol_text c.symbols ++ comment_text c.comment

-- the line of a row, without the zeros that its form lets be left out
abbrev pub row_text : ℕ → List ℕ → List ℕ
row_text least [] = numbers_text []
row_text least (n ∷ ns) = numbers_text (n ∷ shortened least ns)

abbrev pub line_text : Row → List ℕ
line_text row = row_text row.form.least row.numbers

unfoldable pub ascii_text : Circuit → List ℕ
ascii_text c = header_text ascii_word (header_row c) ++ (flat_map line_text (rows_of c) ++ tail_text c)
