-- A text that is read is the text of its circuit, and the other way round; and the first fault of a text.
use Rattle.std.proofs.Common.{◌≡◌, ◌≤◌, ◌∷◌, ◌++◌, ◌∙◌, ◌⊎◌, rules, ℕ, List, [], Option, None, Some, Result, Ok, refl}
use Rattle.std.proofs.Common.{ap, subst, sym, length, min, Err, ⊎_elim, inl, inr, sum, IfOk, IfErr, MatchResult}
use Rattle.std.specs.List.{AllByRecursion}
use Rattle.aig_circuit.specs.declared.circuit.Circuit.{Circuit}
use Rattle.aig_circuit.specs.declared.circuit.Symbol.{Symbol}
use Rattle.aig_circuit.specs.Wellformed.{IsWellFormed, IsWithinLimits, HasGoodSymbols, largest_index}
use Rattle.aig_circuit.specs.Form.{IsInForm}
use Rattle.aig_circuit.proofs.Checking.{well_formed_in_form, back}
use Rattle.aig_core.specs.Fault.{first_structural_fault}
use Rattle.aig_core.specs.Names.{nothing_named}
use Rattle.aig_core.specs.Fault as structure
use Rattle.aig_core.proofs.Checking.Faultless.{well_formed, faultless}
use Rattle.aig_lines.specs.Lines.{Line, Ahead, ahead, lines_of}
use Rattle.aig_lines.specs.Laws.{IsOneLine}
use Rattle.aig_lines.proofs.Cutting.{pieces}
use Rattle.aig_fault.specs.declared.stopped.Stopped.{Stopped}
use Rattle.aig_fault.specs.declared.stopped.Stopped.TheVariants.{OutOfMemory}
use Rattle.aig_fault.specs.declared.kind.Kind.TheVariants as kinds
use Rattle.aig_rows.specs.Reading.{◌>>=◌}
use Rattle.aig_rows.specs.Outcomes.{GivesOrMemory}
use Rattle.aig_rows.proofs.Steps.{both_ok, ok_same}
use Rattle.aig_rows.proofs.Grammar.Rows.{first_found}
use Rattle.aig_text.specs.Sections.{ascii_word, Header, header_row, rows_of, sections, in_ascii}
use Rattle.aig_text.specs.AsciiGrammar.{IsAsciiText}
use Rattle.aig_text.specs.Reading.{header_of, tail_at, header_at, sections_at, empty_circuit, circuit_at, unless_faulty}
use Rattle.aig_text.specs.Reading.{reading, first_ascii_fault, fault_of, IsFirstFault}
use Rattle.aig_text.proofs.Grammar.Sections.{AreAllSections, all_found, counts_read, in_form, sizes_read}
use Rattle.aig_text.proofs.Grammar.Sections.{sizes_limited, sections_are_read, bare}
use Rattle.aig_text.proofs.Grammar.Headers.{TellsHeader, HasCounts, own_header, header_tells, header_is_found, heads}
use Rattle.aig_text.proofs.Grammar.Headers.{limited, sizes_within_limit, definitions_counted, within_limits}
use Rattle.aig_text.proofs.Grammar.Headers.{sizes_in_both}
use Rattle.aig_text.proofs.Grammar.Tail.{tail_holds, good_symbols, own_tail, TellsTail, with_tail, tail_tells}

-- what the lines of a text tell
record TellCircuit (limit : ℕ) (ls : List Line) (c : Circuit) : Type 0 where
  pub first : Line
  pub others : List Line
  pub are : ls ≡ first ∷ others
  pub header : Header
  pub heads : TellsHeader ascii_word limit first header
  pub numbered : Circuit
  pub rest : List Line
  pub sections : AreAllSections header numbered others rest
  pub tail : TellsTail header nothing_named numbered c rest

abbrev then_tail : Header → Circuit × Ahead → Result Circuit Stopped
then_tail h numbered = tail_at h nothing_named numbered.0 numbered.1.number numbered.1.lines

abbrev then_sections : Header × Ahead → Result Circuit Stopped
then_sections header =
    sections_at in_ascii header.0 sections (empty_circuit header.0.max_var) header.1 >>= then_tail header.0

no_comment : (h : Header) (c : Circuit) (ls rest : List Line) → AreAllSections h c ls rest → c.comment ≡ None
no_comment h c ls rest f = rw (← f.circuit) refl

circuit_found : (limit : ℕ) (ls : List Line) (c : Circuit) → circuit_at limit ls ≡ Ok c → TellCircuit limit ls c
unfolding circuit_at
circuit_found limit [] c is = cc
circuit_found limit (l ∷ ls) c is =
    let a = both_ok (header_at ascii_word limit (ahead 1 (l ∷ ls))) then_sections c is in
    let f = first_found kinds.NotAiger (header_of ascii_word limit) 1 l ls a.0 a.1 in
    let b = both_ok (sections_at in_ascii a.0.0 sections (empty_circuit a.0.0.max_var) a.0.1) (then_tail a.0.0) c a.2 in
    let s : AreAllSections a.0.0 b.0.0 a.0.1.lines b.0.1.lines = all_found a.0.0 a.0.1 b.0 b.1 in
    let t =
    tail_tells a.0.0 nothing_named b.0.0 b.0.1.number b.0.1.lines c
    (no_comment a.0.0 b.0.0 a.0.1.lines b.0.1.lines s) b.2 in
    record {
      first = l;
      others = ls;
      are = refl;
      header = f.0;
      heads = header_tells ascii_word limit l f.0 f.1;
      numbered = b.0.0;
      rest = b.0.1.lines;
      sections = subst (λ (q : Header × Ahead). AreAllSections q.0 b.0.0 q.1.lines b.0.1.lines) (sym f.2) s;
      tail = subst (λ (q : Header × Ahead). TellsTail q.0 nothing_named b.0.0 c b.0.1.lines) (sym f.2) t;
    }

-- what the tail adds changes no row and no count
rows_kept : (limit : ℕ) (ls : List Line) (c : Circuit) (t : TellCircuit limit ls c) → rows_of t.numbered ≡ rows_of c
rows_kept limit ls c t = ap rows_of t.tail.circuit

counts_kept : (limit : ℕ) (ls : List Line) (c : Circuit) (t : TellCircuit limit ls c) → HasCounts t.header c
counts_kept limit ls c t =
    sym (ap header_row t.tail.circuit) ∙ counts_read t.header t.numbered t.others t.rest t.sections

-- the sizes are those of the literals, and their sum is within the limit
sizes_kept : (limit : ℕ) (ls : List Line) (c : Circuit) (t : TellCircuit limit ls c)
    → (sum c.justice.sizes ≡ length c.justice.literals) × (sum c.justice.sizes ≤ t.header.limit)
sizes_kept limit ls c t =
    rw (← t.tail.circuit) (
      sizes_read t.header t.numbered t.others t.rest t.sections,
      sizes_limited t.header t.numbered t.others t.rest t.sections,
    )

no_symbols : (h : Header) (c : Circuit) (ls rest : List Line) → AreAllSections h c ls rest → c.symbols ≡ []
no_symbols h c ls rest f = rw (← f.circuit) refl

-- a circuit in form stays so with good symbols
stays_in_form : (c d : Circuit) (ss : List Symbol) (comment : Option (List ℕ)) → with_tail c ss comment ≡ d
    → IsWithinLimits d → IsInForm c → HasGoodSymbols d → IsInForm d
stays_in_form c d ss comment is limits form good = search rules

limits_back : (c d : Circuit) (ss : List Symbol) (comment : Option (List ℕ)) → with_tail c ss comment ≡ d
    → IsWithinLimits d → IsWithinLimits c
limits_back c d ss comment is limits = search (rules, with_tail)

-- what the lines of a text tell is in form
pub circuit_in_form : (limit : ℕ) (ls : List Line) (c : Circuit) → AllByRecursion IsOneLine ls
    → circuit_at limit ls ≡ Ok c → IsInForm c
circuit_in_form limit ls c one is =
    let t : TellCircuit limit ls c = circuit_found limit ls c is in
    let counts = counts_kept limit ls c t in
    let sizes = sizes_kept limit ls c t in
    let limits = within_limits ascii_word limit t.first t.header c t.heads counts sizes.0 sizes.1 in
    let numbered =
    in_form t.header t.numbered t.others t.rest t.sections
    (limits_back t.numbered c t.tail.symbols t.tail.comment t.tail.circuit limits) in
    let lines = t.are ∙ ap (λ (ks : List Line). t.first ∷ ks) t.sections.lines in
    let behind =
    back IsOneLine (t.first ∷ t.sections.front) t.rest
    (subst (λ (ks : List Line). AllByRecursion IsOneLine ks) lines one) in
    stays_in_form t.numbered c t.tail.symbols t.tail.comment t.tail.circuit limits numbered
    (good_symbols t.header t.numbered c t.rest t.tail
    (no_symbols t.header t.numbered t.others t.rest t.sections) counts behind)

-- a well-formed circuit that the lines of a text tell has the text as its file
found_is_accepted : (limit : ℕ) (text : List ℕ) (c : Circuit) → TellCircuit limit (lines_of text) c → IsWellFormed c
    → IsAsciiText text limit c
found_is_accepted limit text c t w =
    let counts = counts_kept limit (lines_of text) c t in
    record {
      header = t.first;
      numbered = t.sections.front;
      tail = t.rest;
      lines = t.are ∙ ap (λ (ms : List Line). t.first ∷ ms) t.sections.lines;
      is_header = heads ascii_word limit t.first t.header c t.heads counts;
      are_rows = rw (rows_kept limit (lines_of text) c t) at t.sections.spelled;
      is_tail = search (rules, tail_holds, no_symbols);
      limited = limited ascii_word limit t.first t.header c t.heads counts;
      sizes_limited =
          sizes_within_limit ascii_word limit t.first t.header c t.heads counts
          (sizes_kept limit (lines_of text) c t).1;
      counted = definitions_counted ascii_word limit t.first t.header c t.heads counts;
      well_formed = w;
    }

no_fault : (c d : Circuit) (o : Option Stopped) → unless_faulty c o ≡ Ok d → (o ≡ None) × (c ≡ d)
no_fault c d None h = (refl, ok_same {E = Stopped} c d h)
no_fault c d (Some f) h = cc

-- a text that is read is a file of the circuit
pub reading_is_accepted : (limit : ℕ) (text : List ℕ) (c : Circuit) → reading limit text ≡ Ok c
    → IsAsciiText text limit c
unfolding reading
reading_is_accepted limit text c h =
    let r = both_ok (circuit_at limit (lines_of text)) (λ (d : Circuit). unless_faulty d (first_structural_fault d)) c
    h in
    let n = no_fault r.0 c (first_structural_fault r.0) r.2 in
    let form : IsInForm r.0 = circuit_in_form limit (lines_of text) r.0 (pieces text).one_each r.1 in
    rw n.1 at (found_is_accepted limit text r.0 (circuit_found limit (lines_of text) r.0 r.1)
    (well_formed r.0 form n.0))

-- the lines of a circuit's file are read as the circuit
steps : (limit k : ℕ) (h : Header) (l : Line) (others rest : List Line) (c : Circuit)
    → header_of ascii_word limit l ≡ Ok h
    → sections_at in_ascii h sections (empty_circuit h.max_var) (ahead 2 others) ≡ Ok (bare c, ahead k rest)
    → tail_at h nothing_named (bare c) k rest ≡ Ok c → circuit_at limit (l ∷ others) ≡ Ok c
unfolding circuit_at
steps limit k h l others rest c is s t = rw (is, s) t

accepted_lines : (limit : ℕ) (text : List ℕ) (c : Circuit) → IsAsciiText text limit c
    → circuit_at limit (lines_of text) ≡ Ok c
accepted_lines limit text c a =
    let top : ℕ = min limit largest_index in
    let h =
    header_is_found ascii_word limit a.header c
    (refl, (refl, (refl, tt))) a.is_header a.limited a.well_formed.limits a.counted in
    let s =
    sections_are_read top c (well_formed_in_form c a.well_formed)
    (sizes_in_both limit c a.well_formed.limits a.sizes_limited) 2 a.numbered a.tail a.are_rows in
    rw a.lines
    (steps limit s.0 (own_header top c) a.header (a.numbered ++ a.tail) a.tail c h s.1
    (own_tail top c s.0 a.tail a.well_formed.symbols a.is_tail))

-- a circuit's file is read as the circuit
pub accepted_is_read : (limit : ℕ) (text : List ℕ) (c : Circuit) → IsAsciiText text limit c → reading limit text ≡ Ok c
unfolding reading
accepted_is_read limit text c a = rw (accepted_lines limit text c a) (ap (unless_faulty c) (faultless c a.well_formed))

-- The first fault of a text: of its lines, and then of the structure of its circuit.
reading_of : (limit : ℕ) (text : List ℕ) (c : Circuit) → circuit_at limit (lines_of text) ≡ Ok c
    → reading limit text ≡ unless_faulty c (structure.first_structural_fault c)
unfolding reading
reading_of limit text c h = rw h refl

-- the fault of a line is the first fault
pub line_fault : (limit : ℕ) (text : List ℕ) (e : Stopped)
    → (e ≡ OutOfMemory) ⊎ (circuit_at limit (lines_of text) ≡ Err e) → IsFirstFault e (first_ascii_fault limit text)
unfolding reading
line_fault limit text e (inl m) = inl m
line_fault limit text e (inr h) = inr (rw h refl)

-- a text that is the file of a circuit is refused only for want of memory
pub memory_only : (limit : ℕ) (text : List ℕ) (c : Circuit) (e : Stopped)
    → IsFirstFault e (first_ascii_fault limit text)
    → IsAsciiText text limit c → e ≡ OutOfMemory
memory_only limit text c e (inl m) a = m
memory_only limit text c e (inr h) a =
    let none : first_ascii_fault limit text ≡ None = ap fault_of (accepted_is_read limit text c a) in cc

-- and it is the file of no other circuit
one_circuit : (limit : ℕ) (text : List ℕ) (c d : Circuit) → reading limit text ≡ Ok d → IsAsciiText text limit c
    → d ≡ c
one_circuit limit text c d h a = let same : reading limit text ≡ Ok c = accepted_is_read limit text c a in cc

-- what a reader of a text answered that gave what is read of it
pub record Tells (limit : ℕ) (text : List ℕ) (r : Result Circuit Stopped) : Type 0 where
  pub ok : IfOk r (λ c. IsAsciiText text limit c)
  pub only :
      (c : Circuit) → IsAsciiText text limit c → MatchResult r (λ d. d ≡ c) (λ e. e ≡ OutOfMemory)
  pub fault : IfErr r (λ e. IsFirstFault e (first_ascii_fault limit text))

read_tells : (limit : ℕ) (text : List ℕ) (r : Result Circuit Stopped)
    → GivesOrMemory (λ c. c) r (reading limit text) → Tells limit text r
read_tells limit text (Ok c) h = record {
  ok = reading_is_accepted limit text c h;
  only = λ d is. one_circuit limit text d c h is;
  fault = tt;
}
read_tells limit text (Err e) h =
    let first = ⊎_elim inl (λ (is : reading limit text ≡ Err e). inr (ap fault_of is)) h in
    record { ok = tt; only = λ c is. memory_only limit text c e first is; fault = first }

pub checked_tells : (limit : ℕ) (text : List ℕ) (c : Circuit) (r : Result Circuit Stopped)
    → circuit_at limit (lines_of text) ≡ Ok c
    → GivesOrMemory (λ d. d) r (unless_faulty c (structure.first_structural_fault c)) → Tells limit text r
checked_tells limit text c r h is = read_tells limit text r (rw (reading_of limit text c h) is)
