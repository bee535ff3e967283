-- A text that is read as a binary file is the file of the circuit, which is well formed and in binary order.
use Rattle.std.proofs.Common.{◌≡◌, ◌+◌, ◌∷◌, ◌++◌, ◌∙◌, ◌≤◌, rules, ℕ, List, [], Result, Ok, refl, sym, subst, arith}
use Rattle.std.proofs.Common.{ap, length, Option}
use Rattle.std.specs.List.{AllZip, AllByRecursion, sum}
use Rattle.std.proofs.lemmas.Grind.{common_steps}
use Rattle.aig_circuit.specs.declared.circuit.Gate.{Gate}
use Rattle.aig_circuit.specs.declared.circuit.Circuit.{Circuit}
use Rattle.aig_circuit.specs.declared.circuit.Symbol.{Symbol}
use Rattle.aig_circuit.specs.Wellformed.{IsWellFormed}
use Rattle.aig_circuit.proofs.Checking.{front as before}
use Rattle.aig_checked.specs.BinaryOrder.{IsInBinaryOrder}
use Rattle.aig_checked.proofs.Numbered.{HasLiteralsUpTo, well_formed}
use Rattle.aig_core.specs.Names.{nothing_named}
use Rattle.aig_lines.specs.Lines.{Line, Ahead, ahead, lines_of, bytes_of}
use Rattle.aig_lines.specs.Laws.{IsOneLine, EndInLineFeeds}
use Rattle.aig_lines.proofs.Cutting.{pieces}
use Rattle.aig_lines.proofs.Pieces.{lines_again, first_ended, ended_before, bytes_joined}
use Rattle.aig_fault.specs.declared.kind.Kind.TheVariants as kinds
use Rattle.aig_fault.specs.declared.stopped.Stopped.{Stopped}
use Rattle.aig_rows.specs.Rows.{IsRowLine, Row}
use Rattle.aig_rows.specs.Reading.{◌>>=◌, at_line}
use Rattle.aig_rows.proofs.Steps.{both_ok, ok_at_line}
use Rattle.aig_rows.proofs.Grammar.Rows.{IsSound, first_found}
use Rattle.aig_text.specs.declared.header_line.Header.{Header}
use Rattle.aig_text.specs.Sections.{sections, in_binary}
use Rattle.aig_text.specs.declared.section.Section.{Section}
use Rattle.aig_text.specs.declared.section.Section.TheVariants.{Inputs}
use Rattle.aig_text.specs.Reading.{header_of, header_at, sections_at, empty_circuit, tail_at}
use Rattle.aig_text.proofs.Grammar.Headers.{TellsHeader, header_tells, HasCounts, heads, limited, sizes_within_limit}
use Rattle.aig_text.proofs.Grammar.Headers.{within_limits}
use Rattle.aig_text.proofs.Grammar.Sections.{AreSections, sections_found}
use Rattle.aig_text.proofs.Grammar.Tail.{TellsTail, tail_tells, with_tail, tail_holds, good_symbols}
use Rattle.aig_binary.specs.BinaryGrammar.{binary_word, binary_rows_of, EndsBefore, IsBinaryText}
use Rattle.aig_binary.specs.BinaryReading.{filled, gates_at, with_definitions, binary_at, binary_reading}
use Rattle.aig_binary.proofs.Grammar.Lines.{numbered_circuit, AreGates, gates_are, literals_are, sizes_within}
use Rattle.aig_binary.proofs.Grammar.Lines.{counts_are, order_is, tells, apart}

-- lines that tell rows, with gates and the lines of a tail after them
pub record TellsNumbers (h : Header) (ls : List Line) (c : Circuit) : Type 0 where
  pub numbered : Circuit
  pub gates : List Gate
  pub last : List Line
  pub rest : List ℕ
  pub sections : AreSections in_binary h sections (empty_circuit h.max_var) numbered ls last
  pub are_gates : AreGates (1 + h.inputs + h.latches) h.gates (bytes_of last) gates rest
  pub tail : TellsTail h nothing_named (numbered_circuit h numbered gates) c (lines_of rest)

pub record TellsBinary (limit : ℕ) (ls : List Line) (c : Circuit) : Type 0 where
  pub first : Line
  pub others : List Line
  pub are : ls ≡ first ∷ others
  pub header : Header
  pub heads : TellsHeader binary_word limit first header
  pub full : header.max_var ≡ header.inputs + header.latches + header.gates
  pub numbers : TellsNumbers header others c

abbrev then_tail : Header → Circuit × Ahead → List Gate × List ℕ → Result Circuit Stopped
then_tail h numbered gates =
    tail_at h nothing_named (with_definitions h gates.0 numbered.0) numbered.1.number (lines_of gates.1)

abbrev then_gates : Header → Circuit × Ahead → Result Circuit Stopped
then_gates h numbered =
    gates_at (1 + h.inputs + h.latches) 1 h.gates (bytes_of numbered.1.lines) >>= then_tail h numbered

abbrev numbers_at : Header → Ahead → Result Circuit Stopped
numbers_at h at = sections_at in_binary h sections (empty_circuit h.max_var) at >>= then_gates h

abbrev then_numbers : Header × Ahead → Header → Result Circuit Stopped
then_numbers header h = numbers_at h header.1

abbrev then_filled : Header × Ahead → Result Circuit Stopped
then_filled header = at_line 1 (filled header.0) >>= then_numbers header

forms_are_sound : (s : Section) → IsSound (in_binary s).form
forms_are_sound Inputs = omega arith
forms_are_sound s = omega arith

numbers_found : (h : Header) (at : Ahead) (c : Circuit) → numbers_at h at ≡ Ok c → TellsNumbers h at.lines c
numbers_found h at c is =
    let a = both_ok (sections_at in_binary h sections (empty_circuit h.max_var) at) (then_gates h) c is in
    let b = both_ok (gates_at (1 + h.inputs + h.latches) 1 h.gates (bytes_of a.0.1.lines)) (then_tail h a.0) c a.2 in
    let s =
    sections_found in_binary h forms_are_sound (tells h) sections (empty_circuit h.max_var) at a.0 (apart h)
    (search rules) a.1 in
    let tail =
    ap (λ (d : Circuit). tail_at h nothing_named (with_definitions h b.0.0 d) a.0.1.number (lines_of b.0.1)) s.circuit
    ∙ b.2 in
    record {
      numbered = a.0.0;
      gates = b.0.0;
      last = a.0.1.lines;
      rest = b.0.1;
      sections = s;
      are_gates = gates_are (1 + h.inputs + h.latches) 1 h.gates (bytes_of a.0.1.lines) b.0 b.1;
      tail =
          tail_tells h nothing_named (numbered_circuit h a.0.0 b.0.0) a.0.1.number (lines_of b.0.1) c refl tail;
    }

-- a header whose definitions are all the variables
abbrev IsFull : Header → Type 0
IsFull h = h.max_var ≡ h.inputs + h.latches + h.gates

filled_is : (h k : Header) → filled h ≡ Ok k → (h ≡ k) × IsFull h
filled_is h k is = search rules

binary_found : (limit : ℕ) (ls : List Line) (c : Circuit) → binary_at limit ls ≡ Ok c → TellsBinary limit ls c
unfolding binary_at
binary_found limit [] c is = cc
binary_found limit (l ∷ ls) c is =
    let a = both_ok (header_at binary_word limit (ahead 1 (l ∷ ls))) then_filled c is in
    let f = first_found kinds.NotAiger (header_of binary_word limit) 1 l ls a.0 a.1 in
    let b = both_ok (at_line 1 (filled a.0.0)) (then_numbers a.0) c a.2 in
    let full = filled_is a.0.0 b.0 (ok_at_line 1 (filled a.0.0) b.0 b.1) in
    let same : f.0 ≡ b.0 = ap (λ (q : Header × Ahead). q.0) f.2 ∙ full.0 in
    let numbers : TellsNumbers b.0 a.0.1.lines c = numbers_found b.0 a.0.1 c b.2 in
    record {
      first = l;
      others = ls;
      are = refl;
      header = b.0;
      heads = subst (λ (h : Header). TellsHeader binary_word limit l h) same (header_tells binary_word limit l f.0 f.1);
      full = subst IsFull full.0 full.1;
      numbers = subst (λ (q : Header × Ahead). TellsNumbers b.0 q.1.lines c) (sym f.2) numbers;
    }

-- A text that is read as a binary file is the file of the circuit, which is well formed and in binary order.

-- what the tail adds changes no order
order_kept : (c : Circuit) (ss : List Symbol) (comment : Option (List ℕ)) → IsInBinaryOrder c
    → IsInBinaryOrder (with_tail c ss comment)
order_kept c ss comment o = record { inputs = o.inputs; latches = o.latches; gates = o.gates; all = o.all }

module _ (limit : ℕ) (ls : List Line) (c : Circuit) (t : TellsBinary limit ls c) where
  abbrev numbered : Circuit
  numbered = numbered_circuit t.header t.numbers.numbered t.numbers.gates

  counts : HasCounts t.header c
  counts = search (rules, counts_are)

  pub ordered : IsInBinaryOrder c
  ordered =
      subst IsInBinaryOrder t.numbers.tail.circuit (search (rules, order_kept, order_is))

  literals : HasLiteralsUpTo c
  literals =
      subst HasLiteralsUpTo t.numbers.tail.circuit
      (literals_are t.header t.numbers.numbered t.numbers.sections.fit t.numbers.gates)

  sizes : sum c.justice.sizes ≡ length c.justice.literals
  sizes = grind (arith, common_steps)

  pub small_sizes : sum c.justice.sizes ≤ t.header.limit
  small_sizes =
      subst (λ (d : Circuit). sum d.justice.sizes ≤ t.header.limit) t.numbers.tail.circuit
      (sizes_within t.header t.numbers.numbered t.numbers.sections.fit t.numbers.gates)

  pub sound : IsWellFormed c
  sound =
      well_formed c ordered literals
      (within_limits binary_word limit t.first t.header c t.heads counts sizes small_sizes)
      (good_symbols t.header numbered c (lines_of t.numbers.rest) t.numbers.tail refl counts
      (pieces t.numbers.rest).one_each)

  -- the lines in front of the gates
  abbrev front : List Line
  front = t.first ∷ t.numbers.sections.front

  lines : ls ≡ front ++ t.numbers.last
  lines = t.are ∙ ap (λ (ks : List Line). t.first ∷ ks) t.numbers.sections.lines

  rows_spelled : AllZip IsRowLine t.numbers.sections.front (binary_rows_of c)
  rows_spelled =
      subst (λ (rs : List Row). AllZip IsRowLine t.numbers.sections.front rs)
      (ap binary_rows_of (sym t.numbers.sections.circuit) ∙ ap binary_rows_of t.numbers.tail.circuit)
      t.numbers.sections.spelled

-- a text whose lines tell a circuit is its file
found_is_accepted : (limit : ℕ) (text : List ℕ) (c : Circuit) → TellsBinary limit (lines_of text) c
    → IsBinaryText text limit c
found_is_accepted limit text c t =
    let ls : List Line = lines_of text in
    let cut : ls ≡ front limit ls c t ++ t.numbers.last = lines limit ls c t in
    let one : AllByRecursion IsOneLine (front limit ls c t ++ t.numbers.last) =
    subst (λ (ks : List Line). AllByRecursion IsOneLine ks) cut (pieces text).one_each in
    let ended : EndInLineFeeds (front limit ls c t ++ t.numbers.last) = subst EndInLineFeeds cut (pieces text).ended in
    record {
      front = bytes_of (front limit ls c t);
      gates = t.numbers.are_gates.spelling;
      rest = t.numbers.rest;
      header = t.first;
      numbered = t.numbers.sections.front;
      text_is =
          sym (pieces text).joined ∙ ap bytes_of cut ∙ bytes_joined (front limit ls c t) t.numbers.last
          ∙ ap (λ (bytes : List ℕ). bytes_of (front limit ls c t) ++ bytes) t.numbers.are_gates.are;
      lines = search (rules, lines_again, before, first_ended);
      cut =
          subst (EndsBefore (front limit ls c t)) t.numbers.are_gates.are
          (ended_before (front limit ls c t) t.numbers.last ended);
      is_header = heads binary_word limit t.first t.header c t.heads (counts limit ls c t);
      are_rows = rows_spelled limit ls c t;
      are_gates = search rules;
      is_tail =
          tail_holds t.header nothing_named (numbered limit ls c t) c (lines_of t.numbers.rest) t.numbers.tail refl;
      limited = limited binary_word limit t.first t.header c t.heads (counts limit ls c t);
      sizes_limited = search (rules, sizes_within_limit, counts, small_sizes);
      ordered = ordered limit ls c t;
      well_formed = sound limit ls c t;
    }

-- what is read as a binary file is in binary order, and well formed
pub read_is_ordered : (limit : ℕ) (ls : List Line) (c : Circuit) → binary_at limit ls ≡ Ok c → IsInBinaryOrder c
read_is_ordered limit ls c is = ordered limit ls c (binary_found limit ls c is)

pub read_is_well_formed : (limit : ℕ) (ls : List Line) (c : Circuit) → binary_at limit ls ≡ Ok c → IsWellFormed c
read_is_well_formed limit ls c is = sound limit ls c (binary_found limit ls c is)

-- a text that is read is the file of the circuit
pub reading_is_accepted : (limit : ℕ) (text : List ℕ) (c : Circuit) → binary_reading limit text ≡ Ok c
    → IsBinaryText text limit c
reading_is_accepted limit text c is = found_is_accepted limit text c (binary_found limit (lines_of text) c is)
