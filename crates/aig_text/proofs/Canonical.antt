-- The canonical text of a well-formed circuit is its file, line by line.
use Rattle.std.proofs.Common.{◌≡◌, ◌<◌, ◌≤◌, ◌^◌, ◌∷◌, ◌++◌, ◌+◌, ◌∙◌, rules, ℕ, true, List, [], length, map, refl, sym}
use Rattle.std.proofs.Common.{inl, arith, append_assoc, inr, Option, Some, ap, None, flat_map, sum, decimal, append-nil}
use Rattle.std.specs.List.{AllByRecursion, AllZip}
use Rattle.std.proofs.lemmas.Bool.{eqb-false}
use Rattle.aig_circuit.specs.declared.circuit.Circuit.{Circuit}
use Rattle.aig_circuit.specs.declared.circuit.Kind.{Kind}
use Rattle.aig_circuit.specs.declared.circuit.Kind.TheVariants as named
use Rattle.aig_circuit.specs.declared.circuit.Reset.{Reset}
use Rattle.aig_circuit.specs.declared.circuit.Reset.TheVariants as resets
use Rattle.aig_circuit.specs.declared.circuit.Symbol.{Symbol}
use Rattle.aig_circuit.specs.Wellformed.{IsWellFormed, IsWithinLimits, IsAmong, count_of, largest_index}
use Rattle.aig_circuit.specs.Form.{IsInForm}
use Rattle.aig_circuit.proofs.Checking.{joined, in_range}
use Rattle.aig_core.proofs.Checking.Sections.{sum_cons}
use Rattle.aig_lines.specs.Lines.{Line, line, lines_of, HasNoLineFeed}
use Rattle.aig_lines.proofs.Pieces.{ended_piece}
use Rattle.aig_lines.proofs.Cutting.{pieces}
use Rattle.aig_rows.specs.Spelling.{AreMoreNumbers, IsLineEnd, EndInNumbers, IsNumberLine}
use Rattle.aig_rows.specs.Rows.{Row, IsRowLine, row, Form, literal_form, size_form, reset_number, literal_row, size_row}
use Rattle.aig_rows.proofs.Canonical.{digits_have_no_line_feed, decimal_is_number}
use Rattle.aig_rows.proofs.Grammar.Entries.{IsLiteralUpTo}
use Rattle.aig_text.specs.AsciiGrammar.{IsHeaderLine, IsAsciiText}
use Rattle.aig_text.specs.Sections.{least_header_numbers, ascii_word, header_row, rows_in, rows_of, literal_rows_of}
use Rattle.aig_text.specs.Sections.{Section, sections, in_ascii}
use Rattle.aig_text.specs.AsciiText.{more_numbers_text, numbers_text, shortened, row_text, line_text, header_text}
use Rattle.aig_text.specs.AsciiText.{ascii_text, tail_text, symbol_text, comment_text}
use Rattle.aig_text.specs.declared.section.Section.TheVariants.{Inputs, Latches, Outputs, Bad, Constraints}
use Rattle.aig_text.specs.declared.section.Section.TheVariants.{JusticeSizes, JusticeLiterals, Fairness, Gates}
use Rattle.aig_text.specs.Tail.{kind_letter, IsSymbolLine, IsComment, AreTailLines}
use Rattle.aig_text.proofs.Written.{leaves_out, enough_are_left, all_left}
use Rattle.aig_text.proofs.Grammar.Sections.{inputs_up_to, latches_up_to, gates_up_to}
use Rattle.aig_text.proofs.Grammar.Headers.{header_limited}

-- numbers that a file can tell
abbrev pub AreSmall : List ℕ → Type 0
AreSmall ns = AllByRecursion (λ n. n < 2 ^ 64) ns

-- each number after a space, as `more_numbers_text` has it, without the line feed
abbrev pub more_front : List ℕ → List ℕ
more_front [] = []
more_front (n ∷ ns) = 32 ∷ (decimal n ++ more_front ns)

-- numbers with a space between them, as `numbers_text` has it, without the line feed
abbrev pub front : List ℕ → List ℕ
front [] = []
front (n ∷ ns) = decimal n ++ more_front ns

more_text_is : (ns : List ℕ) (rest : List ℕ) → more_numbers_text ns ++ rest ≡ more_front ns ++ 10 ∷ rest
more_text_is [] rest = refl
more_text_is (n ∷ ns) rest = search (rules, append_assoc, more_text_is ns rest)

text_is : (ns : List ℕ) (rest : List ℕ) → numbers_text ns ++ rest ≡ front ns ++ 10 ∷ rest
text_is [] rest = refl
text_is (n ∷ ns) rest = search (rules, append_assoc, more_text_is)

more_front_has_no_line_feed : (ns : List ℕ) → AreSmall ns → HasNoLineFeed (more_front ns)
more_front_has_no_line_feed [] small = tt
more_front_has_no_line_feed (n ∷ ns) small = (
  eqb-false 32 10 refl,
  joined _ (decimal n) (more_front ns)
      (digits_have_no_line_feed (decimal n) (decimal_is_number n small.0).digits)
      (more_front_has_no_line_feed ns small.1),
)

front_has_no_line_feed : (ns : List ℕ) → AreSmall ns → HasNoLineFeed (front ns)
front_has_no_line_feed [] small = tt
front_has_no_line_feed (n ∷ ns) small =
    joined _ (decimal n) (more_front ns)
    (digits_have_no_line_feed (decimal n) (decimal_is_number n small.0).digits) (more_front_has_no_line_feed ns small.1)

-- the numbers that a row's line holds
abbrev pub written : ℕ → List ℕ → List ℕ
written least [] = []
written least (n ∷ ns) = n ∷ shortened least ns

row_text_is : (least : ℕ) (ns : List ℕ) → row_text least ns ≡ numbers_text (written least ns)
row_text_is least [] = refl
row_text_is least (n ∷ ns) = refl

written_are_small : (least : ℕ) (ns : List ℕ) → AreSmall ns → AreSmall (written least ns)
written_are_small least [] small = tt
written_are_small least (n ∷ ns) small = (small.0, all_left (λ n. n < 2 ^ 64) least ns small.1)

-- the line of a row
abbrev pub number_line : ℕ → List ℕ → Line
number_line least ns = line (front (written least ns)) true

-- the line of a header
abbrev pub header_line : List ℕ → List ℕ → Line
header_line word ns = line (word ++ more_front (shortened least_header_numbers ns)) true

pub header_is_first : (word ns rest : List ℕ) → HasNoLineFeed word → AreSmall ns
    → lines_of (header_text word ns ++ rest) ≡ header_line word ns ∷ lines_of rest
header_is_first word ns rest plain small =
    search (rules, append_assoc, more_text_is, ended_piece, joined, more_front_has_no_line_feed, all_left)

-- a line may end where its text ends
ends_at_once : IsLineEnd true []
ends_at_once = ([], tt, inl refl)

more_front_is_spelled : (ns : List ℕ) → AreSmall ns → AreMoreNumbers (more_front ns) ns
more_front_is_spelled [] small = refl
more_front_is_spelled (n ∷ ns) small = (
  32 ∷ [],
  decimal n,
  more_front ns,
  refl,
  (omega arith, (refl, tt)),
  decimal_is_number n small.0,
  more_front_is_spelled ns small.1,
)

-- the numbers that are written tell all of them
end_is_good : (least : ℕ) (ns : List ℕ) → least ≤ length ns → AreSmall ns
    → EndInNumbers least true (more_front (shortened least ns)) ns
end_is_good least ns enough small =
    let out = leaves_out least ns in
    record {
      written = shortened least ns;
      left_out = out.left_out;
      numbers = more_front (shortened least ns);
      ending = [];
      are = out.are;
      enough = enough_are_left least ns enough;
      text_is = sym (append-nil (more_front (shortened least ns)));
      spelled = more_front_is_spelled (shortened least ns) (all_left (λ n. n < 2 ^ 64) least ns small);
      ends = ends_at_once;
    }

pub header_line_is_good : (word ns : List ℕ) → least_header_numbers ≤ length ns → AreSmall ns
    → IsHeaderLine word least_header_numbers (header_line word ns) ns
header_line_is_good word ns enough small = search (rules, end_is_good)

-- as many numbers as the form asks for at least, which a file can tell
pub record IsFullRow (r : Row) : Type 0 where
  pub some : r.form.least < length r.numbers
  pub small : AreSmall r.numbers

-- the lines of rows
abbrev pub row_lines : List Row → List Line
row_lines rows = map (λ (r : Row). number_line r.form.least r.numbers) rows

pub rows_are_first : (rows : List Row) (rest : List ℕ) → AllByRecursion IsFullRow rows
    → lines_of (flat_map line_text rows ++ rest) ≡ row_lines rows ++ lines_of rest
rows_are_first [] rest h = refl
rows_are_first (r ∷ rows) rest h =
    search (
      rules,
      append_assoc,
      rows_are_first rows rest h.1,
      row_text_is,
      text_is,
      ended_piece,
      front_has_no_line_feed,
      written_are_small,
    )

number_line_is_good : (least : ℕ) (ns : List ℕ) → least < length ns → AreSmall ns
    → IsNumberLine least (number_line least ns) ns
number_line_is_good least [] some small = absurd (omega arith)
number_line_is_good least (n ∷ ns) some small = record {
  first = n;
  more = ns;
  digits = decimal n;
  rest = more_front (shortened least ns);
  are = refl;
  begins = refl;
  spelled = decimal_is_number n small.0;
  others = end_is_good least ns (omega arith) small.1;
}

pub rows_are_good : (rows : List Row) → AllByRecursion IsFullRow rows → AllZip IsRowLine (row_lines rows) rows
rows_are_good [] h = tt
rows_are_good (r ∷ rows) h = (number_line_is_good r.form.least r.numbers h.0.some h.0.small, rows_are_good rows h.1)

-- The canonical text of a well-formed circuit is its file.

-- a row of entries, each of which a file can tell
pub entries_full : {X : Type 0} (P : X → Type 0) (form : Form) (of : X → List ℕ)
    → ((x : X) → P x → IsFullRow (row form (of x))) → (xs : List X) → AllByRecursion P xs
    → AllByRecursion IsFullRow (map (row form) (map of xs))
entries_full P form of full [] h = tt
entries_full P form of full (x ∷ xs) h = (full x h.0, entries_full P form of full xs h.1)

small_reset : (own : ℕ) (reset : Reset) → own < 2 ^ 64 → reset_number own reset < 2 ^ 64
small_reset own resets.Uninit small = small
small_reset own r small = omega arith

full_literal : (m : ℕ) → m ≤ largest_index → (n : ℕ) → IsLiteralUpTo m n → IsFullRow (row literal_form (literal_row n))
full_literal m top n h = record { some = omega arith; small = (omega arith, tt) }

full_size : (n : ℕ) → n ≤ largest_index → IsFullRow (row size_form (size_row n))
full_size n h = record { some = omega arith; small = (omega arith, tt) }

-- no size is above the sum
each_in_sum : (top : ℕ) (sizes : List ℕ) → sum sizes ≤ top → AllByRecursion (λ n. n ≤ top) sizes
each_in_sum top [] h = tt
each_in_sum top (n ∷ ns) h =
    let whole : sum (n ∷ ns) ≡ n + sum ns = sum_cons n ns in (omega arith, each_in_sum top ns (omega arith))

pub sizes_are_small : (c : Circuit) → IsWithinLimits c → sum c.justice.sizes ≤ largest_index
sizes_are_small c limits = search rules

module _ (c : Circuit) (form : IsInForm c) where
  literals_full : (ns : List ℕ) → AllByRecursion (IsLiteralUpTo c.max_var) ns
      → AllByRecursion IsFullRow (map (row literal_form) (map literal_row ns))
  literals_full ns h =
      entries_full (IsLiteralUpTo c.max_var) literal_form literal_row (full_literal c.max_var form.limits.max_var) ns h

  section_full : (s : Section) → AllByRecursion IsFullRow (map (row (in_ascii s).form) ((in_ascii s).rows c))
  section_full Inputs = search (rules, entries_full, inputs_up_to)
  section_full Latches = search (rules, entries_full, latches_up_to, small_reset)
  section_full JusticeSizes = search (rules, entries_full, full_size, each_in_sum, sizes_are_small)
  section_full Gates = search (rules, entries_full, gates_up_to)
  section_full s = let literals = (in_range c form).literals in search (rules, literals_full)

  -- the rows of these sections, as an ASCII file lists them
  sections_full : (ss : List Section) → AllByRecursion IsFullRow (rows_in in_ascii ss c)
  sections_full [] = tt
  sections_full (s ∷ ss) = search (rules, joined, section_full, sections_full ss)

  -- the rows of the sections between latches and gates, which ASCII and binary files list alike
  pub literal_rows_full : AllByRecursion IsFullRow (literal_rows_of c)
  literal_rows_full =
      sections_full (Outputs ∷ Bad ∷ Constraints ∷ JusticeSizes ∷ JusticeLiterals ∷ Fairness ∷ [])

all_smaller : (ns : List ℕ) → AllByRecursion (λ n. n ≤ largest_index) ns → AreSmall ns
all_smaller [] h = tt
all_smaller (n ∷ ns) h = (omega (arith, h.0), all_smaller ns h.1)

pub header_is_small : (c : Circuit) → IsWithinLimits c → AreSmall (header_row c)
header_is_small c limits = all_smaller (header_row c) (header_limited c limits)

-- the line of a symbol
abbrev symbol_line : Symbol → Line
symbol_line s = line (kind_letter s.kind ++ (decimal s.position ++ (32 ∷ s.name))) true

symbol_is : (s : Symbol) (rest : List ℕ)
    → symbol_text s ++ rest ≡ (kind_letter s.kind ++ (decimal s.position ++ (32 ∷ s.name))) ++ 10 ∷ rest
symbol_is s rest = simp append_assoc

letter_is_plain : (k : Kind) → HasNoLineFeed (kind_letter k)
letter_is_plain named.Input = (eqb-false _ 10 refl, tt)
letter_is_plain k = (eqb-false _ 10 refl, tt)

name_is_plain : (name : List ℕ) → ¬ IsAmong 10 name → HasNoLineFeed name
name_is_plain [] h = tt
name_is_plain (b ∷ bs) h = (λ e. h (inl (sym e)), name_is_plain bs (λ a. h (inr a)))

abbrev IsFound : Symbol → Type 0
IsFound s = (s.position < 2 ^ 64) × (¬ IsAmong 10 s.name)

plain_symbol : (s : Symbol) → IsFound s → HasNoLineFeed (kind_letter s.kind ++ (decimal s.position ++ (32 ∷ s.name)))
plain_symbol s h =
    joined _ (kind_letter s.kind) (decimal s.position ++ (32 ∷ s.name)) (letter_is_plain s.kind)
    (joined _ (decimal s.position) (32 ∷ s.name)
    (digits_have_no_line_feed (decimal s.position) (decimal_is_number s.position h.0).digits)
    (eqb-false 32 10 refl, name_is_plain s.name h.1))

symbol_is_good : (s : Symbol) → IsFound s → IsSymbolLine (symbol_line s) s
symbol_is_good s h = record { digits = decimal s.position; text = refl; position = decimal_is_number s.position h.0 }

abbrev symbol_lines : List Symbol → List Line
symbol_lines ss = map symbol_line ss

symbols_are_first : (ss : List Symbol) (rest : List ℕ) → AllByRecursion IsFound ss
    → lines_of (flat_map symbol_text ss ++ rest) ≡ symbol_lines ss ++ lines_of rest
symbols_are_first [] rest h = refl
symbols_are_first (s ∷ ss) rest h =
    search (rules, append_assoc, symbol_is, ended_piece, plain_symbol, symbols_are_first ss rest h.1)

symbols_are_good : (ss : List Symbol) → AllByRecursion IsFound ss → AllZip IsSymbolLine (symbol_lines ss) ss
symbols_are_good [] h = tt
symbols_are_good (s ∷ ss) h = (symbol_is_good s h.0, symbols_are_good ss h.1)

abbrev comment_lines : Option (List ℕ) → List Line
comment_lines None = []
comment_lines (Some bytes) = line (99 ∷ []) true ∷ lines_of bytes

comment_is_first : (comment : Option (List ℕ)) → lines_of (comment_text comment) ≡ comment_lines comment
unfolding lines_of
comment_is_first None = refl
comment_is_first (Some bytes) = refl

comment_is_good : (comment : Option (List ℕ)) → IsComment (comment_lines comment) comment
comment_is_good None = tt
comment_is_good (Some bytes) =
    (record { ending = []; text = refl; ends = ([], tt, inl refl) }, sym (pieces bytes).joined)

count_within : (c : Circuit) → IsWithinLimits c → (k : Kind) → count_of c k ≤ largest_index
count_within c limits named.Input = search rules
count_within c limits k = search rules

-- what may be said of a symbol can be found in a line
all_found : (c : Circuit) → IsWithinLimits c → (ss : List Symbol)
    → AllByRecursion (λ (s : Symbol). s.position < count_of c s.kind) ss
    → AllByRecursion (λ (s : Symbol). ¬ IsAmong 10 s.name) ss → AllByRecursion IsFound ss
all_found c limits [] p l = tt
all_found c limits (s ∷ ss) p l =
    let top : count_of c s.kind ≤ largest_index = count_within c limits s.kind in
    let low : s.position < count_of c s.kind = p.0 in
    ((omega arith, l.0), all_found c limits ss p.1 l.1)

-- the lines of the canonical tail
pub tail_is_good : (c : Circuit) → IsInForm c → AreTailLines (lines_of (tail_text c)) c
tail_is_good c form = search (rules, symbols_are_good, all_found, comment_is_good, symbols_are_first, comment_is_first)

canonical_lines : (c : Circuit) → IsInForm c
    → lines_of (ascii_text c)
    ≡ header_line ascii_word (header_row c) ∷ (row_lines (rows_of c) ++ lines_of (tail_text c))
unfolding ascii_text
canonical_lines c form =
    header_is_first ascii_word (header_row c) (flat_map line_text (rows_of c) ++ tail_text c)
    (eqb-false _ 10 refl, (eqb-false _ 10 refl, (eqb-false _ 10 refl, tt))) (header_is_small c form.limits)
    ∙ ap (λ (ls : List Line). header_line ascii_word (header_row c) ∷ ls)
    (rows_are_first (rows_of c) (tail_text c) (sections_full c form sections))

-- Where the definitions fit below the largest index, and the circuit is in form, its canonical text is its file.
pub canonical_text : (c : Circuit) → IsWellFormed c → IsInForm c
    → length c.inputs + length c.latches + length c.gates ≤ c.max_var → IsAsciiText (ascii_text c) largest_index c
canonical_text c good form fits = record {
  header = header_line ascii_word (header_row c);
  numbered = row_lines (rows_of c);
  tail = lines_of (tail_text c);
  lines = canonical_lines c form;
  is_header =
      header_line_is_good ascii_word (header_row c) (omega arith) (header_is_small c form.limits);
  are_rows = rows_are_good (rows_of c) (sections_full c form sections);
  is_tail = tail_is_good c form;
  limited = header_limited c form.limits;
  sizes_limited = sizes_are_small c form.limits;
  counted = fits;
  well_formed = good;
}
