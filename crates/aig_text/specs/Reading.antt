-- What a text is read as, or its first fault (this project's profile): the first line that is not right for its
-- place, with the first kind that applies; only where every line is right, the first structural fault of the circuit.
use Rattle.std.specs.Prelude.{◌≡◌, ◌+◌, ◌-◌, ◌==◌, ◌||◌, ◌⊎◌, ◌++◌, ◌≤◌, ℕ, List, [], ◌∷◌, min, drop, length}
use Rattle.std.specs.Prelude.{slice_index, Bool, false, nat_lt, nat_le, Option, None, Some, IfSome, Result, Ok, Err}
use Rattle.std.specs.Prelude.{if◌then◌else◌}
use Rattle.std.specs.List.{list_any, before_first}
use Rattle.std.specs.Str.{bytes_eq}
use Rattle.aig_circuit.specs.declared.circuit.Circuit.{Circuit}
use Rattle.aig_core.specs.Fault as structure
use Rattle.aig_fault.specs.declared.kind.Kind.{Kind as FaultKind}
use Rattle.aig_fault.specs.declared.kind.Kind.TheVariants as kinds
use Rattle.aig_fault.specs.declared.stopped.Stopped.{Stopped}
use Rattle.aig_fault.specs.declared.stopped.Stopped.TheVariants.{OutOfMemory}
use Rattle.aig_text.specs.Sections.{least_header_numbers, most_header_numbers}
use Rattle.aig_circuit.specs.declared.circuit.Kind.{Kind}
use Rattle.aig_circuit.specs.declared.circuit.Kind.TheVariants as named
use Rattle.aig_circuit.specs.declared.circuit.Symbol.{Symbol}
use Rattle.aig_core.specs.declared.names.Names.{Names}
use Rattle.aig_circuit.specs.Wellformed.{largest_index}
use Rattle.aig_core.specs.Names.{nothing_named, is_named, with_name}
use Rattle.aig_lines.specs.Lines.{Line, Ahead, ahead, lines_of, bytes_of}
use Rattle.aig_text.specs.Scanning.{symbol_at, is_comment_line}
use Rattle.aig_rows.specs.Scanning.{more_numbers_at}
use Rattle.aig_text.specs.Sections.{ascii_word, Header, Section, sections, Listed, in_ascii}
use Rattle.aig_rows.specs.Reading.{Found, at_line, line_found, rows_at, unless_wrong}
use Rattle.aig_rows.specs.Reading.{◌>>=◌}

-- a word ends at a space or a carriage return, or where the line ends
abbrev pub ends_word : ℕ → Bool
ends_word b = (b == 32) || (b == 13)

abbrev pub begins_with_word : List ℕ → List ℕ → Bool
begins_with_word word text = bytes_eq (before_first ends_word text) word

-- the first word of the first line is this one
abbrev pub first_word_is : List ℕ → List Line → Bool
first_word_is word [] = false
first_word_is word (l ∷ ls) = begins_with_word word l.text

-- a header of these numbers, in a file that is read within this limit
abbrev pub header_of_row : ℕ → List ℕ → Header
header_of_row limit ns = record {
  max_var = slice_index ns 0;
  inputs = slice_index ns 1;
  latches = slice_index ns 2;
  outputs = slice_index ns 3;
  gates = slice_index ns 4;
  bad = slice_index ns 5;
  constraints = slice_index ns 6;
  justice = slice_index ns 7;
  fairness = slice_index ns 8;
  limit = limit;
}

-- the header of its numbers, where they are within the limit and the definitions fit below the largest index
unfoldable pub header_within : ℕ → Option (List ℕ) → Result Header FaultKind
header_within limit None = Err kinds.BadHeader
header_within limit (Some ns) =
    if list_any (λ n. nat_lt limit n) ns then Err kinds.TooLarge
    else if nat_lt (slice_index ns 0) (slice_index ns 1 + slice_index ns 2 + slice_index ns 4) then Err kinds.BadHeader
    else Ok (header_of_row limit ns)

-- the header that a line tells: the word, then its numbers
unfoldable pub header_of : List ℕ → ℕ → Line → Result Header FaultKind
header_of word limit l =
    if begins_with_word word l.text
    then header_within (min limit largest_index)
    (more_numbers_at l.ended least_header_numbers most_header_numbers (drop (length word) l.text))
    else Err kinds.NotAiger

-- the circuit with the rows of a section, of all sections
abbrev pub section_at : Listed → Header → Circuit → Ahead → Found Circuit
section_at listed h c at = do
  found ← rows_at listed.form (listed.bound h) (listed.start h c) (listed.count h c) at
  Ok (listed.with_rows h found.0 c, found.1)

unfoldable pub sections_at : (Section → Listed) → Header → List Section → Circuit → Ahead → Found Circuit
sections_at listed h [] c at = Ok (c, at)
sections_at listed h (s ∷ ss) c at = do
  found ← section_at (listed s) h c at
  sections_at listed h ss found.0 found.1

-- a circuit that has nothing in it
abbrev pub empty_circuit : ℕ → Circuit
empty_circuit max_var = record {
  max_var = max_var;
  inputs = [];
  latches = [];
  outputs = [];
  bad = [];
  constraints = [];
  justice = record { sizes = []; literals = [] };
  fairness = [];
  gates = [];
  symbols = [];
  comment = None;
}

-- how many things of a kind a symbol may name
abbrev pub count_named : Header → Kind → ℕ
count_named h named.Input = h.inputs
count_named h named.Latch = h.latches
count_named h named.Output = h.outputs
count_named h named.Bad = h.bad
count_named h named.Constraint = h.constraints
count_named h named.Justice = h.justice
count_named h named.Fairness = h.fairness

-- what is wrong with a symbol where these things are named before
abbrev pub fault_in_symbol : Header → Names → Symbol → Option FaultKind
fault_in_symbol h before s =
    if nat_le (count_named h s.kind) s.position then Some kinds.SymbolRange
    else if is_named before s.kind s.position then Some kinds.SymbolTwice
    else None

-- the symbol, where there is one
unfoldable pub checked_symbol : Header → Names → Option Symbol → Result Symbol FaultKind
checked_symbol h before None = Err kinds.BadSymbol
checked_symbol h before (Some s) = unless_wrong s (fault_in_symbol h before s)

abbrev pub with_comment : Circuit → List ℕ → Circuit
with_comment c bytes = record c { comment = Some bytes }

-- these bytes are as many as a comment at their end, where there is one, or more
abbrev pub HasRoomFor : Option ℕ → List ℕ → Type 0
HasRoomFor len bytes = IfSome len (λ n. n ≤ length bytes)

-- the circuit with the last of these bytes, so many, as its comment, where it has one
abbrev pub with_last_comment : List ℕ → Option ℕ → Circuit → Circuit
with_last_comment bytes None c = c
with_last_comment bytes (Some len) c = with_comment c (drop (length bytes - len) bytes)

abbrev pub with_symbol : Circuit → Symbol → Circuit
with_symbol c s = record c { symbols = c.symbols ++ s ∷ [] }

-- the circuit with the symbols and the comment that these lines tell
unfoldable pub tail_at : Header → Names → Circuit → ℕ → List Line → Result Circuit Stopped
tail_at h before c n [] = Ok c
tail_at h before c n (l ∷ ls) =
    if is_comment_line l then Ok (with_comment c (bytes_of ls)) else (do
      s ← at_line n (checked_symbol h before (symbol_at l.text))
      tail_at h (with_name before s.kind s.position) (with_symbol c s) (n + 1) ls)

-- the header that the next line tells
abbrev pub header_at : List ℕ → ℕ → Ahead → Found Header
header_at word limit at = line_found kinds.NotAiger (header_of word limit) at.number at.lines

-- the circuit that the lines of a text tell, judged line by line
unfoldable pub circuit_at : ℕ → List Line → Result Circuit Stopped
circuit_at limit ls = do
  header ← header_at ascii_word limit (ahead 1 ls)
  numbered ← sections_at in_ascii header.0 sections (empty_circuit header.0.max_var) header.1
  tail_at header.0 nothing_named numbered.0 numbered.1.number numbered.1.lines

abbrev pub unless_faulty : Circuit → Option Stopped → Result Circuit Stopped
unless_faulty c None = Ok c
unless_faulty c (Some fault) = Err fault

unfoldable pub reading : ℕ → List ℕ → Result Circuit Stopped
reading limit text = do
  c ← circuit_at limit (lines_of text)
  unless_faulty c (structure.first_structural_fault c)

abbrev pub fault_of : {A : Type 0} → Result A Stopped → Option Stopped
fault_of (Ok x) = None
fault_of (Err fault) = Some fault

-- the first fault of a text, where it has one
abbrev pub first_ascii_fault : ℕ → List ℕ → Option Stopped
first_ascii_fault limit text = fault_of (reading limit text)

-- a fault that is reported is the first one, unless memory was refused
abbrev pub IsFirstFault : Stopped → Option Stopped → Type 0
IsFirstFault reported first = (reported ≡ OutOfMemory) ⊎ (first ≡ Some reported)
