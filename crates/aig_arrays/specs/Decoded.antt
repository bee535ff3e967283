-- What words and bytes are decoded to: the circuit that has them, or their first fault (this project's interface for
-- C). Counts that do not fit come first, then the first entry that is not right, with the kinds of an ASCII file, and
-- then the first structural fault of the circuit.
use Rattle.std.specs.Prelude.{◌≡◌, ◌⊎◌, ◌+◌, ◌*◌, ◌==◌, ◌&&◌, ◌||◌, not, ℕ, zero, suc, List, [], ◌∷◌, length, take}
use Rattle.std.specs.Prelude.{drop, Bool, nat_le, nat_lt, Option, None, Some, Result, Ok, Err, slice_index, slice_range}
use Rattle.std.specs.Prelude.{if◌then◌else◌}
use Rattle.std.specs.List.{list_all, list_any, sum}
use Rattle.std.specs.Option.{option_map}
use Rattle.aig_circuit.specs.Wellformed.{largest_index, line_feed}
use Rattle.aig_circuit.specs.declared.circuit.Circuit.{Circuit}
use Rattle.aig_circuit.specs.declared.circuit.Kind.{Kind}
use Rattle.aig_circuit.specs.declared.circuit.Kind.TheVariants as kinds
use Rattle.aig_circuit.specs.declared.circuit.Symbol.{Symbol}
use Rattle.aig_core.specs.Fault.{first_structural_fault}
use Rattle.aig_core.specs.Names.{nothing_named, with_name}
use Rattle.aig_core.specs.declared.names.Names.{Names}
use Rattle.aig_fault.specs.Stopping.{refusal}
use Rattle.aig_fault.specs.declared.fault.Place.TheVariants.{Whole, Word}
use Rattle.aig_fault.specs.declared.kind.Kind.{Kind as FaultKind}
use Rattle.aig_fault.specs.declared.kind.Kind.TheVariants.{BadCounts}
use Rattle.aig_fault.specs.declared.stopped.Stopped.{Stopped}
use Rattle.aig_fault.specs.declared.stopped.Stopped.TheVariants.{OutOfMemory}
use Rattle.aig_rows.specs.Reading.{◌>>=◌, carried_on, fault_in_row, unless_wrong}
use Rattle.aig_rows.specs.Rows.{Form, roles_of}
use Rattle.aig_text.specs.Reading.{checked_symbol, empty_circuit, with_symbol}
use Rattle.aig_text.specs.Sections.{Listed, in_ascii, sections}
use Rattle.aig_text.specs.declared.header_line.Header.{Header}
use Rattle.aig_text.specs.declared.section.Section.{Section}
use Rattle.aig_arrays.specs.Words.{Counts, bytes_length, words_length}

-- the words that are ahead, and how many stand before them
pub record Ahead : Type 0 where
  pub at : ℕ
  pub words : List ℕ

abbrev pub behind : ℕ → Ahead → Ahead
behind count a = record { at = a.at + count; words = drop count a.words }

-- the counts do not fit one another, or the words, the bytes or the names
abbrev pub bad_counts : Stopped
bad_counts = refusal BadCounts Whole 0

-- the entry that begins at this word is not right
abbrev pub bad_entry : ℕ → FaultKind → Stopped
bad_entry at kind = refusal kind (Word at) 0

-- what the entry tells that begins at this word, or what is wrong with it
abbrev pub at_word : {A : Type 0} → ℕ → Result A FaultKind → Result A Stopped
at_word at (Ok x) = Ok x
at_word at (Err kind) = Err (bad_entry at kind)

-- a row of this form has so many words
abbrev pub width : Form → ℕ
width form = length (roles_of form)

-- what so many words tell, and what is ahead after them; they are there where the counts fit
abbrev pub words_decoded : {A : Type 0} → ℕ → (List ℕ → Result A FaultKind) → Ahead → Result (A × Ahead) Stopped
words_decoded count tell a =
    if nat_lt (length a.words) count then Err bad_counts else (do
      found ← at_word a.at (tell (take count a.words))
      Ok (found, behind count a))

-- the next row of a form
abbrev pub row_decoded : Form → (bound carried : ℕ) → Ahead → Result (List ℕ × Ahead) Stopped
row_decoded form bound carried a =
    words_decoded (width form) (λ row. unless_wrong row (fault_in_row form bound carried row)) a

-- so many rows of a form, with what is carried from each to the next
unfoldable pub rows_decoded : Form → (bound carried count : ℕ) → Ahead → Result (List (List ℕ) × Ahead) Stopped
rows_decoded form bound carried zero a = Ok ([], a)
rows_decoded form bound carried (suc count) a = do
  row ← row_decoded form bound carried a
  others ← rows_decoded form bound (carried_on form.first carried (slice_index row.0 0)) count row.1
  Ok (row.0 ∷ others.0, others.1)

-- the circuit with the entries of a section, of all sections
abbrev pub section_decoded : Listed → Header → Circuit → Ahead → Result (Circuit × Ahead) Stopped
section_decoded listed h c a = do
  found ← rows_decoded listed.form (listed.bound h) (listed.start h c) (listed.count h c) a
  Ok (listed.with_rows h found.0 c, found.1)

unfoldable pub sections_decoded : Header → List Section → Circuit → Ahead → Result (Circuit × Ahead) Stopped
sections_decoded h [] c a = Ok (c, a)
sections_decoded h (s ∷ ss) c a = do
  found ← section_decoded (in_ascii s) h c a
  sections_decoded h ss found.0 found.1

-- what a word says that a symbol names
abbrev pub kind_decoded : ℕ → Option Kind
kind_decoded word =
    if word == 0 then Some kinds.Input else
    if word == 1 then Some kinds.Latch else
    if word == 2 then Some kinds.Output else
    if word == 3 then Some kinds.Bad else
    if word == 4 then Some kinds.Constraint else
    if word == 5 then Some kinds.Justice else
    if word == 6 then Some kinds.Fairness else None

-- the name that four words tell, where it stands among the names, and in one line
abbrev pub is_name : (names : List ℕ) (start : ℕ) (row : List ℕ) → Bool
is_name names start row =
    (slice_index row 2 == start) && nat_le (start + slice_index row 3) (length names)
    && not (list_any (λ b. b == line_feed) (slice_range names start (start + slice_index row 3)))

-- the symbol that four words tell, whose name begins where the one before ends
abbrev pub symbol_decoded : (names : List ℕ) (start : ℕ) (row : List ℕ) → Option Symbol
symbol_decoded names start row =
    if is_name names start row
    then option_map (λ kind. record {
      kind = kind;
      position = slice_index row 1;
      name = slice_range names start (start + slice_index row 3);
    }) (kind_decoded (slice_index row 0))
    else None

-- the next symbol
abbrev pub next_symbol : Header → (names : List ℕ) → Names → (start : ℕ) → Ahead → Result (Symbol × Ahead) Stopped
next_symbol h names before start a = words_decoded 4 (λ row. checked_symbol h before (symbol_decoded names start row)) a

-- the circuit with so many symbols, and where their names end
unfoldable pub symbols_decoded : Header → (names : List ℕ) → Names → (start count : ℕ) → Ahead → Circuit
    → Result (Circuit × ℕ) Stopped
symbols_decoded h names before start zero a c = Ok (c, start)
symbols_decoded h names before start (suc count) a c = do
  found ← next_symbol h names before start a
  symbols_decoded h names (with_name before found.0.kind found.0.position) (start + length found.0.name) count found.1
      (with_symbol c found.0)

-- the counts as the header of a file has them
abbrev pub header_of : Counts → Header
header_of n = record {
  max_var = n.max_var;
  inputs = n.inputs;
  latches = n.latches;
  outputs = n.outputs;
  gates = n.gates;
  bad = n.bad;
  constraints = n.constraints;
  justice = n.justice;
  fairness = n.fairness;
  limit = largest_index;
}

-- the words that are the sizes of the justice properties
abbrev pub sizes_in : Counts → List ℕ → List ℕ
sizes_in n words = take n.justice (drop (n.inputs + 3 * n.latches + n.outputs + n.bad + n.constraints) words)

-- none is above the largest index, and only a comment has bytes of a comment
abbrev pub are_in_range : Counts → Bool
are_in_range n =
    list_all (λ k. nat_le k largest_index) (n.max_var ∷ n.inputs ∷ n.latches ∷ n.outputs ∷ n.bad ∷ n.constraints
    ∷ n.justice ∷ n.justice_literals ∷ n.fairness ∷ n.gates ∷ [])
    && nat_le n.has_comment 1 && (nat_le 1 n.has_comment || (n.comment_bytes == 0))

-- the counts are in range, and those of these words and bytes
abbrev pub counts_fit : Counts → (words bytes : List ℕ) → Bool
counts_fit n words bytes =
    are_in_range n && (words_length n == length words) && (bytes_length n == length bytes)
    && (sum (sizes_in n words) == n.justice_literals)

-- the comment, where there is one, of which these are the bytes
abbrev pub comment_in : Counts → List ℕ → Option (List ℕ)
comment_in n bytes = if n.has_comment == 0 then None else Some bytes

-- the circuit with the comment that stands after the names
abbrev pub with_comment_decoded : Counts → List ℕ → Circuit → Circuit
with_comment_decoded n bytes c = record c { comment = comment_in n (drop n.name_bytes bytes) }

-- all names are those of symbols
abbrev pub unless_left : Counts → List ℕ → Circuit × ℕ → Result Circuit Stopped
unless_left n bytes named =
    if named.1 == n.name_bytes then Ok (with_comment_decoded n bytes named.0) else Err bad_counts

-- the circuit with all entries, symbols and the comment that words and bytes tell
abbrev pub with_entries : Counts → (words bytes : List ℕ) → Circuit → Result Circuit Stopped
with_entries n words bytes c = do
  numbered ← sections_decoded (header_of n) sections c (record { at = 0; words = words })
  named ← symbols_decoded (header_of n) (take n.name_bytes bytes) nothing_named 0 n.symbols numbered.1 numbered.0
  unless_left n bytes named

-- the circuit in form that words and bytes tell
unfoldable pub entries_decoded : Counts → (words bytes : List ℕ) → Result Circuit Stopped
entries_decoded n words bytes =
    if counts_fit n words bytes then with_entries n words bytes (empty_circuit n.max_var) else Err bad_counts

abbrev pub unless_broken : Circuit → Option Stopped → Result Circuit Stopped
unless_broken c None = Ok c
unless_broken c (Some fault) = Err fault

-- the well-formed circuit that words and bytes tell
unfoldable pub decoded : Counts → (words bytes : List ℕ) → Result Circuit Stopped
decoded n words bytes = do
  c ← entries_decoded n words bytes
  unless_broken c (first_structural_fault c)

-- a fault that is reported is the first one, unless memory was refused
abbrev pub IsFirstFault : Stopped → Result Circuit Stopped → Type 0
IsFirstFault reported first = (reported ≡ OutOfMemory) ⊎ (first ≡ Err reported)
