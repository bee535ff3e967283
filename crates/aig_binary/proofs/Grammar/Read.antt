-- The binary file of a circuit is read as the circuit; and the first fault of a file.
use Rattle.std.proofs.Common.{◌≡◌, ◌+◌, ◌≤◌, ◌∷◌, ◌++◌, ◌∙◌, ◌⊎◌, rules, ℕ, suc, min, List, [], length, map, Ok, refl}
use Rattle.std.proofs.Common.{sym, ap, ap₂, subst, add-one, arith, None, Result, Err, inl, inr}
use Rattle.std.specs.List.{AllByRecursion, range_with_len, sum}
use Rattle.std.proofs.lemmas.List.{length-map}
use Rattle.aig_circuit.specs.declared.circuit.TheConstants.{LARGEST}
use Rattle.aig_circuit.specs.declared.circuit.Reset.{Reset}
use Rattle.aig_circuit.specs.declared.circuit.Latch.{Latch}
use Rattle.aig_circuit.specs.declared.circuit.Gate.{Gate}
use Rattle.aig_circuit.specs.declared.circuit.Circuit.{Circuit}
use Rattle.aig_circuit.specs.Literal.{literal_of}
use Rattle.aig_circuit.specs.Form.{IsInForm, IsLiteralUpTo}
use Rattle.aig_circuit.proofs.Alike.{latch}
use Rattle.aig_circuit.proofs.Checking.{well_formed_in_form}
use Rattle.aig_checked.specs.BinaryOrder.{IsInBinaryOrder}
use Rattle.aig_core.specs.Names.{nothing_named}
use Rattle.aig_lines.specs.Lines.{Line, ahead, lines_of, bytes_of}
use Rattle.aig_lines.proofs.Cutting.{pieces}
use Rattle.aig_lines.proofs.Pieces.{lines_joined}
use Rattle.aig_rows.specs.Rows.{next_form, next_row}
use Rattle.aig_fault.specs.declared.stopped.Stopped.{Stopped}
use Rattle.aig_fault.specs.declared.stopped.Stopped.TheVariants.{OutOfMemory}
use Rattle.aig_rows.proofs.Grammar.Entries.{IsGoodRow, AreGoodRows, IsLatchUpTo, good_reset, reset_told, all_mapped}
use Rattle.aig_text.specs.declared.header_line.Header.{Header}
use Rattle.aig_text.specs.Sections.{latches_from, sections, in_binary}
use Rattle.aig_text.specs.Reading.{header_of, sections_at, empty_circuit, tail_at, fault_of, IsFirstFault}
use Rattle.aig_text.proofs.Grammar.Headers.{own_header, header_is_found, sizes_in_both}
use Rattle.aig_text.proofs.Grammar.Sections.{AllFit, rows_by, with_all, own_rows, sections_are_found, bare}
use Rattle.aig_text.proofs.Grammar.Sections.{latches_up_to, literals_again}
use Rattle.aig_text.proofs.Grammar.Tail.{own_tail}
use Rattle.aig_binary.specs.BinaryGrammar.{binary_word, IsBinaryText}
use Rattle.aig_binary.specs.BinaryReading.{filled, gates_at, with_definitions, binary_at, binary_reading}
use Rattle.aig_binary.specs.BinaryReading.{first_binary_fault}
use Rattle.aig_binary.proofs.Grammar.Lines.{gates_found, numbered_circuit, no_rows}

-- latches of this variable and the next ones are those of their rows
latches_again : (variable : ℕ) (ls : List Latch) → 1 ≤ variable
    → map (λ (l : Latch). l.var) ls ≡ range_with_len variable (length ls) → latches_from variable (map next_row ls) ≡ ls
unfolding latches_from
latches_again variable [] low e = refl
latches_again variable (l ∷ ls) low e =
    let here : l.var ≡ variable = cc in
    let others : map (λ (l : Latch). l.var) ls ≡ range_with_len (variable + 1) (length ls) = cc in
    ap₂ (λ (v : ℕ) (r : Reset). latch v l.next r ∷ latches_from (suc variable) (map next_row ls)) (sym here)
    (reset_told (literal_of l.var) l.reset (omega arith))
    ∙ ap (λ (ms : List Latch). l ∷ ms)
    (latches_again (suc variable) ls (omega arith)
    (others ∙ ap (λ (k : ℕ). range_with_len k (length ls)) (add-one variable)))

-- the rows of latches may stand in a file
next_literal : (v : ℕ) → literal_of (suc v) ≡ literal_of v + 2
next_literal v = omega arith

next_rows_good : (m variable : ℕ) (ls : List Latch)
    → map (λ (l : Latch). l.var) ls ≡ range_with_len variable (length ls)
    → AllByRecursion (IsLiteralUpTo m) (map (λ (l : Latch). l.next) ls)
    → AreGoodRows next_form m (literal_of variable) (map next_row ls)
next_rows_good m variable [] e h = tt
next_rows_good m variable (l ∷ ls) e h =
    let here : l.var ≡ variable = cc in
    let others : map (λ (l : Latch). l.var) ls ≡ range_with_len (variable + 1) (length ls) = cc in
    let row : IsGoodRow next_form m (literal_of l.var) (next_row l) =
    (h.0, (good_reset (literal_of l.var) l.reset, tt)) in
    let rest : AreGoodRows next_form m (literal_of (suc variable)) (map next_row ls) =
    next_rows_good m (suc variable) ls
    (others ∙ ap (λ (k : ℕ). range_with_len k (length ls)) (add-one variable)) h.1 in (
      subst (λ (v : ℕ). IsGoodRow next_form m (literal_of v) (next_row l)) here row,
      subst (λ (k : ℕ). AreGoodRows next_form m k (map next_row ls)) (next_literal variable) rest,
    )

-- the rows and the gates of a circuit in binary order tell the circuit, but for its tail
module _ (limit : ℕ) (c : Circuit) where
  abbrev own : Header
  own = own_header limit c

  nexts_up_to : IsInForm c → AllByRecursion (IsLiteralUpTo c.max_var) (map (λ (l : Latch). l.next) c.latches)
  nexts_up_to form =
      all_mapped (IsLatchUpTo c.max_var) (IsLiteralUpTo c.max_var) (λ (l : Latch). l.next) (λ l p. p.1.0) c.latches
      (latches_up_to c form)

  -- each section has the rows that its lines may have; those between latches and gates are as in an ASCII file
  rows_fit : IsInForm c → IsInBinaryOrder c → sum c.justice.sizes ≤ limit
      → AllFit in_binary own (rows_by in_binary c) sections (empty_circuit c.max_var)
  rows_fit form order small =
      let f = (own_rows limit c form small).1.1 in
      let nexts = next_rows_good c.max_var (1 + length c.inputs) c.latches order.latches (nexts_up_to form) in (
        no_rows,
        (
          record { good = nexts; counted = length-map c.latches next_row },
          (f.0, (f.1.0, (f.1.1.0, (f.1.1.1.0, (f.1.1.1.1.0, (f.1.1.1.1.1.0, (no_rows, tt))))))),
        ),
      )

  numbers_tell : IsInBinaryOrder c → numbered_circuit own c c.gates ≡ bare c
  numbers_tell order = search (rules, latches_again, literals_again)

  own_filled : IsInBinaryOrder c → filled own ≡ Ok own
  own_filled order = search rules

-- the steps of a reading, one after another
steps : (limit k : ℕ) (l : Line) (ls last : List Line) (bytes rest : List ℕ) (h : Header) (gates : List Gate)
    (c d : Circuit)
    → header_of binary_word limit l ≡ Ok h
    → filled h ≡ Ok h
    → sections_at in_binary h sections (empty_circuit h.max_var) (ahead 2 ls) ≡ Ok (d, ahead k last)
    → bytes_of last ≡ bytes
    → gates_at (1 + h.inputs + h.latches) 1 h.gates bytes ≡ Ok (gates, rest)
    → tail_at h nothing_named (with_definitions h gates d) k (lines_of rest) ≡ Ok c
    → binary_at limit (l ∷ ls) ≡ Ok c
unfolding binary_at
steps limit k l ls last bytes rest h gates c d r f s b g t = rw (r, f, s, b, g) t

module _ (text : List ℕ) (limit : ℕ) (c : Circuit) (a : IsBinaryText text limit c) where
  form : IsInForm c
  form = well_formed_in_form c a.well_formed

  -- the header, as it is read
  abbrev header : Header
  header = own_header (min limit LARGEST) c

  -- the lines after the numbered ones
  abbrev behind : List Line
  behind = lines_of (a.gates ++ a.rest)

  lines : lines_of text ≡ a.header ∷ (a.numbered ++ behind)
  lines = search (rules, lines_joined)

  fits : length c.inputs + length c.latches + length c.gates ≤ c.max_var
  fits = let all : c.max_var ≡ length c.inputs + length c.latches + length c.gates = a.ordered.all in omega arith

  fit : AllFit in_binary header (rows_by in_binary c) sections (empty_circuit c.max_var)
  fit = rows_fit (min limit LARGEST) c form a.ordered (sizes_in_both limit c a.well_formed.limits a.sizes_limited)

  pub accepted_is_read : binary_reading limit text ≡ Ok c
  accepted_is_read =
      let s =
      sections_are_found in_binary header c sections (empty_circuit c.max_var) 2 a.numbered behind a.are_rows fit in
      let t =
      ap (λ (d : Circuit). tail_at header nothing_named d s.0 (lines_of a.rest))
      (numbers_tell (min limit LARGEST) c a.ordered)
      ∙ own_tail (min limit LARGEST) c s.0 (lines_of a.rest) a.well_formed.symbols a.is_tail in
      ap (binary_at limit) lines
      ∙ steps limit s.0 a.header (a.numbered ++ behind) behind (a.gates ++ a.rest) a.rest header c.gates c
      (with_all in_binary header (rows_by in_binary c) sections (empty_circuit c.max_var))
      (header_is_found binary_word limit a.header c
      (refl, (refl, (refl, tt))) a.is_header a.limited a.well_formed.limits fits)
      (own_filled (min limit LARGEST) c a.ordered) s.1 (pieces (a.gates ++ a.rest)).joined
      (gates_found (1 + length c.inputs + length c.latches) 1 a.gates a.rest c.gates a.are_gates a.ordered.gates) t

-- The first fault of a binary file.

-- what has no fault is read
no_fault_is_ok : {A : Type 0} (r : Result A Stopped) → fault_of r ≡ None → (x : A) × (r ≡ Ok x)
no_fault_is_ok (Ok x) h = (x, refl)
no_fault_is_ok (Err e) h = cc

pub read_without_fault : (limit : ℕ) (text : List ℕ) → first_binary_fault limit text ≡ None
    → (c : Circuit) × (binary_reading limit text ≡ Ok c)
read_without_fault limit text h = no_fault_is_ok (binary_reading limit text) h

-- the fault of a line or a gate is the first fault
pub line_fault : (limit : ℕ) (text : List ℕ) (e : Stopped)
    → (e ≡ OutOfMemory) ⊎ (binary_at limit (lines_of text) ≡ Err e) → IsFirstFault e (first_binary_fault limit text)
line_fault limit text e (inl m) = inl m
line_fault limit text e (inr h) = inr (ap fault_of h)

-- the file of a circuit has no fault
pub no_fault : (limit : ℕ) (text : List ℕ) (c : Circuit) → IsBinaryText text limit c
    → first_binary_fault limit text ≡ None
no_fault limit text c a = ap fault_of (accepted_is_read text limit c a)

-- a text that is the file of a circuit is refused only for want of memory
pub memory_only : (limit : ℕ) (text : List ℕ) (c : Circuit) (e : Stopped)
    → IsFirstFault e (first_binary_fault limit text) → IsBinaryText text limit c → e ≡ OutOfMemory
memory_only limit text c e (inl m) a = m
memory_only limit text c e (inr h) a = let none : first_binary_fault limit text ≡ None = no_fault limit text c a in cc

-- and it is the file of no other circuit
pub one_circuit : (limit : ℕ) (text : List ℕ) (c d : Circuit) → binary_reading limit text ≡ Ok d
    → IsBinaryText text limit c → d ≡ c
one_circuit limit text c d h a = let same : binary_reading limit text ≡ Ok c = accepted_is_read text limit c a in cc
