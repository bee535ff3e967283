-- What the definitions of this crate say of one another.
use Rattle.std.specs.Prelude.{◌≡◌, ◌↔◌, ℕ, List, min, drop, length, true, false, None, Some, Ok, Err}
use Rattle.std.specs.List.{AllByRecursion}
use Rattle.aig_circuit.specs.declared.circuit.Circuit.{Circuit}
use Rattle.aig_circuit.specs.declared.circuit.Symbol.{Symbol}
use Rattle.aig_core.specs.declared.names.Names.{Names}
use Rattle.aig_circuit.specs.Wellformed.{IsWellFormed, largest_index}
use Rattle.aig_fault.specs.declared.kind.Kind.TheVariants as kinds
use Rattle.aig_lines.specs.Lines.{Line}
use Rattle.aig_text.specs.AsciiGrammar.{IsHeaderLine, IsAsciiText}
use Rattle.aig_text.specs.Sections.{Header, least_header_numbers, most_header_numbers}
use Rattle.aig_text.specs.Tail.{IsSymbolLine, IsCommentLine}
use Rattle.aig_text.specs.AsciiText.{ascii_text}
use Rattle.aig_text.specs.Scanning.{symbol_at, is_comment_line}
use Rattle.aig_rows.specs.Scanning.{more_numbers_at}
use Rattle.aig_text.specs.Reading.{ends_word, begins_with_word, header_within, header_of, fault_in_symbol}
use Rattle.aig_text.specs.Reading.{checked_symbol, reading, first_ascii_fault}
use Rattle.aig_rows.specs.Reading.{unless_wrong}
use Rattle.aig_rows.specs.Laws.{IsJudged}

-- what is read is exactly the circuit whose file the text is
abbrev pub ReadExactly : Type 0
ReadExactly = (text : List ℕ) (limit : ℕ) (c : Circuit) → (reading limit text ≡ Ok c) ↔ IsAsciiText text limit c

-- a text is the file of a circuit exactly where it has no fault
abbrev pub FaultyOrAccepted : Type 0
FaultyOrAccepted =
    (text : List ℕ) (limit : ℕ) → (first_ascii_fault limit text ≡ None) ↔ ((c : Circuit) × IsAsciiText text limit c)

-- a text is the file of one circuit at most
abbrev pub TextsAreUnambiguous : Type 0
TextsAreUnambiguous =
    (text : List ℕ) (limit : ℕ) (c d : Circuit) → IsAsciiText text limit c → IsAsciiText text limit d → c ≡ d

-- the canonical text of a well-formed circuit is its file
abbrev pub CanonicalTextIsAccepted : Type 0
CanonicalTextIsAccepted = (c : Circuit) → IsWellFormed c → IsAsciiText (ascii_text c) largest_index c

-- no byte of a word ends words
abbrev pub IsOneWord : List ℕ → Type 0
IsOneWord word = AllByRecursion (λ b. ends_word b ≡ false) word

-- the line holds these numbers as a header that begins with the word, and none is missing
abbrev pub HoldsHeader : List ℕ → Line → List ℕ → Type 0
HoldsHeader word l ns = IsHeaderLine word least_header_numbers l ns × (length ns ≡ most_header_numbers)

-- from left to right a first word and the numbers of a header are read exactly where the line holds that header
abbrev pub HeadersReadExactly : Type 0
HeadersReadExactly =
    (word : List ℕ) (l : Line) (ns : List ℕ) → IsOneWord word
    → ((begins_with_word word l.text ≡ true)
    × (more_numbers_at l.ended least_header_numbers most_header_numbers (drop (length word) l.text) ≡ Some ns))
    ↔ HoldsHeader word l ns

-- from left to right a symbol is read exactly where the line names it
abbrev pub SymbolsReadExactly : Type 0
SymbolsReadExactly = (l : Line) (s : Symbol) → (symbol_at l.text ≡ Some s) ↔ IsSymbolLine l s

-- from left to right a line is read as the line `c` exactly where it is that line
abbrev pub CommentsReadExactly : Type 0
CommentsReadExactly = (l : Line) → (is_comment_line l ≡ true) ↔ IsCommentLine l

-- where a header is due: a line whose first word is another is of no such file; one without the numbers of a header
-- has a bad one; else its numbers are judged, and nothing else of the line
abbrev pub HeadersAreJudged : Type 0
HeadersAreJudged =
    (word : List ℕ) (limit : ℕ) (l : Line) → IsOneWord word
    → (begins_with_word word l.text ≡ false → header_of word limit l ≡ Err kinds.NotAiger)
    × (begins_with_word word l.text ≡ true
    → IsJudged (HoldsHeader word l) (λ ns. header_within (min limit largest_index) (Some ns)) kinds.BadHeader
    (header_of word limit l))

-- where a symbol is due: a line that names none is a bad symbol line; else what it names is judged
abbrev pub SymbolsAreJudged : Type 0
SymbolsAreJudged =
    (h : Header) (before : Names) (l : Line)
    → IsJudged (IsSymbolLine l) (λ s. unless_wrong s (fault_in_symbol h before s)) kinds.BadSymbol
    (checked_symbol h before (symbol_at l.text))
