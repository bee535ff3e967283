-- The canonical binary text of a circuit is its file, and no text is the file of two circuits.
use Rattle.std.proofs.Common.{◌≡◌, ◌+◌, ◌≤◌, ◌∷◌, ◌++◌, ◌-◌, ◌<◌, ◌^◌, ◌∙◌, rules, ℕ, suc, List, [], length, take, drop}
use Rattle.std.proofs.Common.{take-add, subst, arith, true, refl, sym, ap, inr, append-nil, false, Ok, inl, true≢false}
use Rattle.std.specs.List.{All, AllByRecursion, flat_map}
use Rattle.std.proofs.lemmas.List.Concat.{flat_map-append}
use Rattle.std.proofs.lemmas.List.Folds.{flat_map-map}
use Rattle.std.proofs.lemmas.List.Elements.{All-from_recursion}
use Rattle.std.proofs.lemmas.Grind.{common_steps}
use Rattle.std.proofs.lemmas.Bool.{eqb-false}
use Rattle.std.proofs.lemmas.Slice.Eq.{bytes_eq-Decides}
use Rattle.aig_io.specs.Output.{Appended, Out}
use Rattle.aig_io.proofs.Puts.{put_twice}
use Rattle.aig_circuit.specs.Wellformed.{IsWithinLimits, IsWellFormed}
use Rattle.aig_circuit.specs.declared.circuit.TheConstants.{LARGEST}
use Rattle.aig_circuit.specs.declared.circuit.Latch.{Latch}
use Rattle.aig_circuit.specs.declared.circuit.Gate.{Gate}
use Rattle.aig_circuit.specs.declared.circuit.Circuit.{Circuit}
use Rattle.aig_circuit.specs.Literal.{literal_of}
use Rattle.aig_circuit.specs.Form.{IsInForm}
use Rattle.aig_circuit.proofs.Checking.{joined}
use Rattle.aig_checked.specs.BinaryOrder.{AreOrderedGates, IsInBinaryOrder}
use Rattle.aig_lines.specs.Lines.{Line, lines_of, Ahead, ahead}
use Rattle.aig_rows.specs.Rows.{next_row, Row}
use Rattle.aig_fault.specs.declared.stopped.Stopped.{Stopped}
use Rattle.aig_rows.specs.Reading.{at_line}
use Rattle.aig_rows.proofs.Steps.{both_ok, ok_at_line, ok_same, let_through}
use Rattle.aig_text.specs.AsciiText.{line_text, row_text, header_text, tail_text}
use Rattle.aig_text.specs.Sections.{literal_rows_of, header_row, ascii_word}
use Rattle.aig_text.specs.declared.header_line.Header.{Header}
use Rattle.aig_text.specs.Reading.{begins_with_word, first_word_is, header_of, header_at, circuit_at, reading}
use Rattle.aig_text.specs.AsciiGrammar.{IsAsciiText}
use Rattle.aig_text.proofs.Canonical.{IsFullRow, header_line, row_lines, header_is_first, header_line_is_good}
use Rattle.aig_text.proofs.Canonical.{rows_are_first, rows_are_good, entries_full, literal_rows_full, sizes_are_small}
use Rattle.aig_text.proofs.Canonical.{header_is_small, tail_is_good}
use Rattle.aig_text.proofs.Grammar.Headers.{header_limited}
use Rattle.aig_text.proofs.Grammar.Sections.{latches_up_to}
use Rattle.aig_text.proofs.Grammar.Text.{accepted_is_read, reading_is_accepted}
use Rattle.aig_binary.specs.BinaryGrammar.{binary_rows_of, IsBinaryText, SpellsGates, binary_word}
use Rattle.aig_binary.specs.BinaryText.{HasDeltas, gate_text, binary_text}
use Rattle.aig_binary.specs.Delta.{shortest_delta}
use Rattle.aig_binary.specs.BinaryReading.{binary_at}
use Rattle.aig_binary.specs.File.{IsFileOf, file_reading}
use Rattle.aig_binary.proofs.Deltas.Shortest.{shortest_is_delta}
use Rattle.aig_binary.proofs.Grammar.Read.{accepted_is_read as binary_accepted}
use Rattle.aig_binary.proofs.Grammar.Accepted.{reading_is_accepted as binary_is_accepted}

-- the gates of one piece more were put
pub pieces_put : {W : Type 0} (a b c : Out W) (gs : List Gate) (at count : ℕ) (text : List ℕ)
    → Appended a b (flat_map gate_text (take at gs)) → text ≡ flat_map gate_text (take count (drop at gs))
    → Appended b c text
    → Appended a c (flat_map gate_text (take (at + count) gs))
pieces_put a b c gs at count text before is put =
    subst (λ t. Appended a c t)
    (search (rules, take-add, flat_map-append))
    (put_twice a b c (flat_map gate_text (take at gs)) text before put)

-- the lines of latches, and those of the sections that ASCII files list alike
pub lines_text : (c : Circuit)
    → flat_map (λ (l : Latch). row_text 0 (next_row l)) c.latches ++ flat_map line_text (literal_rows_of c)
    ≡ flat_map line_text (binary_rows_of c)
lines_text c = search (rules, flat_map-append, flat_map-map)

deltas_from : (n : ℕ) (gs : List Gate) → AreOrderedGates n gs → n + length gs ≤ LARGEST + 1
    → AllByRecursion HasDeltas gs
deltas_from n [] h top = tt
deltas_from n (g ∷ gs) h top =
    let var = h.0 in
    (record { small = omega arith; first = h.1; second = h.2 }, deltas_from (suc n) gs h.3 (omega arith))

-- in binary order each gate has its deltas
gates_have_deltas : (c : Circuit) → IsWithinLimits c → IsInBinaryOrder c → AllByRecursion HasDeltas c.gates
gates_have_deltas c limits ordered = search (rules, deltas_from)

pub has_deltas : (c : Circuit) → IsWithinLimits c → IsInBinaryOrder c → All HasDeltas c.gates
has_deltas c limits ordered = All-from_recursion HasDeltas c.gates (gates_have_deltas c limits ordered)

-- The canonical binary text of a well-formed circuit in binary order is its file.

-- the lines of the canonical front
front_lines : (ns : List ℕ) (rows : List Row) → AllByRecursion (λ n. n < 2 ^ 64) ns → AllByRecursion IsFullRow rows
    → lines_of (header_text binary_word ns ++ flat_map line_text rows) ≡ header_line binary_word ns ∷ row_lines rows
unfolding lines_of
front_lines ns rows small full =
    header_is_first binary_word ns (flat_map line_text rows)
    (eqb-false _ 10 refl, (eqb-false _ 10 refl, (eqb-false _ 10 refl, tt))) small
    ∙ ap (λ (ls : List Line). header_line binary_word ns ∷ ls)
    (ap lines_of (sym (append-nil (flat_map line_text rows))) ∙ rows_are_first rows [] full
    ∙ append-nil (row_lines rows))

all_ended : (rows : List Row) → AllByRecursion (λ (l : Line). l.ended ≡ true) (row_lines rows)
all_ended [] = tt
all_ended (r ∷ rows) = (refl, all_ended rows)

rows_full : (c : Circuit) → IsInForm c → AllByRecursion IsFullRow (binary_rows_of c)
rows_full c form = search (rules, joined, entries_full, latches_up_to, literal_rows_full)

gates_spelled : (gs : List Gate) → AllByRecursion HasDeltas gs → SpellsGates (flat_map gate_text gs) gs
gates_spelled [] h = refl
gates_spelled (g ∷ gs) h =
    let top : g.var ≤ LARGEST = h.0.small in
    let high = h.0.first in
    let low = h.0.second in (
      gate_text g,
      flat_map gate_text gs,
      refl,
      record {
        first = shortest_delta (literal_of g.var - g.left);
        second = shortest_delta (g.left - g.right);
        are = refl;
        left = shortest_is_delta (literal_of g.var - g.left) (omega arith);
        right = shortest_is_delta (g.left - g.right) (omega arith);
      },
      gates_spelled gs h.1,
    )

parts : (c : Circuit)
    → binary_text c
    ≡ (header_text binary_word (header_row c) ++ flat_map line_text
    (binary_rows_of c)) ++ (flat_map gate_text c.gates ++ tail_text c)
unfolding binary_text
parts c = grind (arith, common_steps)

pub canonical_binary : (c : Circuit) → IsWellFormed c → IsInForm c → IsInBinaryOrder c
    → IsBinaryText (binary_text c) LARGEST c
canonical_binary c good form ordered = record {
  front = header_text binary_word (header_row c) ++ flat_map line_text (binary_rows_of c);
  gates = flat_map gate_text c.gates;
  rest = tail_text c;
  header = header_line binary_word (header_row c);
  numbered = row_lines (binary_rows_of c);
  text_is = parts c;
  lines = front_lines (header_row c) (binary_rows_of c) (header_is_small c form.limits) (rows_full c form);
  cut = inr (refl, all_ended (binary_rows_of c));
  is_header =
      header_line_is_good binary_word (header_row c) (omega arith) (header_is_small c form.limits);
  are_rows = rows_are_good (binary_rows_of c) (rows_full c form);
  are_gates = gates_spelled c.gates (gates_have_deltas c form.limits ordered);
  is_tail = tail_is_good c form;
  limited = header_limited c form.limits;
  sizes_limited = sizes_are_small c form.limits;
  ordered = ordered;
  well_formed = good;
}

-- The first word of a file tells its kind, so no text is the file of two circuits.

-- a header that is read begins with its word
header_begins : (word : List ℕ) (limit n : ℕ) (ls : List Line) (p : Header × Ahead)
    → header_at word limit (ahead n ls) ≡ Ok p → first_word_is word ls ≡ true
unfolding header_of
header_begins word limit n [] p h = cc
header_begins word limit n (l ∷ ls) p h =
    let r = both_ok (at_line n (header_of word limit l)) (λ (told : Header). Ok (told, ahead (n + 1) ls)) p h in
    (let_through (begins_with_word word l.text) _ _ r.0 (ok_at_line n (header_of word limit l) r.0 r.1)).0

ascii_begins : (text : List ℕ) (limit : ℕ) (c : Circuit) → IsAsciiText text limit c
    → first_word_is ascii_word (lines_of text) ≡ true
unfolding circuit_at reading
ascii_begins text limit c is =
    let whole = both_ok (circuit_at limit (lines_of text)) _ c (accepted_is_read limit text c is) in
    let head = both_ok (header_at ascii_word limit (ahead 1 (lines_of text))) _ whole.0 whole.1 in
    header_begins ascii_word limit 1 (lines_of text) head.0 head.1

binary_begins : (text : List ℕ) (limit : ℕ) (c : Circuit) → IsBinaryText text limit c
    → first_word_is binary_word (lines_of text) ≡ true
unfolding binary_at
binary_begins text limit c is =
    let head = both_ok (header_at binary_word limit (ahead 1 (lines_of text))) _ c (binary_accepted text limit c is) in
    header_begins binary_word limit 1 (lines_of text) head.0 head.1

-- one word
words_apart : (ls : List Line) → first_word_is ascii_word ls ≡ true → first_word_is binary_word ls ≡ false
words_apart [] a = refl
words_apart (l ∷ ls) a = search (rules, bytes_eq-Decides)

pub no_binary_file : (text : List ℕ) (limit : ℕ) (c : Circuit) → first_word_is binary_word (lines_of text) ≡ false
    → ¬ IsBinaryText text limit c
no_binary_file text limit c first is = true≢false (sym (binary_begins text limit c is) ∙ first)

-- what is read is exactly the circuit whose file the text is
pub file_is_read : (limit : ℕ) (text : List ℕ) (c : Circuit) → IsFileOf text limit c → file_reading limit text ≡ Ok c
file_is_read limit text c (inl a) =
    rw (words_apart (lines_of text) (ascii_begins text limit c a)) (accepted_is_read limit text c a)
file_is_read limit text c (inr a) = rw (binary_begins text limit c a) (binary_accepted text limit c a)

pub read_is_file : (limit : ℕ) (text : List ℕ) (c : Circuit) → file_reading limit text ≡ Ok c → IsFileOf text limit c
read_is_file limit text c = search (rules, binary_is_accepted, reading_is_accepted)

-- a text is the file of one circuit at most
pub one_circuit : (text : List ℕ) (limit : ℕ) (c d : Circuit) → IsFileOf text limit c → IsFileOf text limit d → c ≡ d
one_circuit text limit c d a b =
    ok_same {E = Stopped} c d (sym (file_is_read limit text c a) ∙ file_is_read limit text d b)
