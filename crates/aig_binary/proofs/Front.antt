-- The header line and the other lines of a binary file, and what stands after them.
use Rattle.std.proofs.Common.{◌≡◌, ◌≢◌, ◌+◌, ◌<◌, ◌++◌, ◌∙◌, ◌-◌, ◌⊎◌, ℕ, List, [], length, refl, ap, arith, Ok, Err}
use Rattle.std.proofs.Common.{sym, subst, inl, inr, drop, Result}
use Rattle.std.proofs.lemmas.List.{drop-drop}
use Rattle.aig_circuit.specs.declared.circuit.Circuit.{Circuit}
use Rattle.aig_circuit.specs.declared.circuit.Gate.{Gate}
use Rattle.aig_core.specs.Names.{nothing_named}
use Rattle.aig_lines.specs.Lines.{Ahead, AreEnded, IsBehind, Line, ahead, bytes_of, lines_of, with_lines}
use Rattle.aig_lines.proofs.Cutting.{pieces}
use Rattle.aig_rows.specs.Outcomes.{GivesOrFails}
use Rattle.aig_rows.specs.Reading.{◌>>=◌, Found, at_line}
use Rattle.aig_fault.specs.declared.stopped.Stopped.{Stopped}
use Rattle.aig_fault.specs.declared.stopped.Stopped.TheVariants.{OutOfMemory}
use Rattle.aig_fault.specs.declared.kind.Kind.TheVariants as kinds
use Rattle.aig_rows.proofs.Steps.{both_ok, ok_same}
use Rattle.aig_rows.proofs.Loops.FirstRows.{found_behind, found_joined, refused_joined}
use Rattle.aig_text.specs.Sections.{in_binary, sections}
use Rattle.aig_text.specs.declared.header_line.Header.{Header}
use Rattle.aig_text.specs.declared.pieces.LineReader.{LineReader}
use Rattle.aig_text.specs.Begun.{IsDone, ReadsOn, numbered_of, with_header}
use Rattle.aig_text.specs.Reading.{header_at, header_of, sections_at, empty_circuit, tail_at}
use Rattle.aig_text.proofs.Loops.Text.{Begins, IsHead, all_lines, begins, reads_on_by}
use Rattle.aig_binary.specs.declared.pieces.BinaryReader.{BinaryReader}
use Rattle.aig_binary.specs.BinaryGrammar.{binary_word}
use Rattle.aig_binary.specs.BinaryReading.{filled, gates_at, with_definitions, binary_at}
use Rattle.aig_binary.specs.Begun.{binary_then, filled_header_at, first_gate, gates_behind, gates_from, gates_then}
use Rattle.aig_binary.specs.Begun.{rest_of, then_gates}
use Rattle.aig_binary.proofs.OneByOne.{err_same}

-- The header.
abbrev with_ahead : Ahead → Header → Found Header
with_ahead at h = Ok (h, at)

abbrev then_filled : Header × Ahead → Found Header
then_filled header = ◌>>=◌ {B = Header × Ahead} (at_line 1 (filled header.0)) (with_ahead header.1)

moved : (r : Result Header Stopped) (at now : Ahead) (e : Stopped)
    → ◌>>=◌ {B = Header × Ahead} r (with_ahead at) ≡ Err e → ◌>>=◌ {B = Header × Ahead} r (with_ahead now) ≡ Err e
moved (Ok h) at now e is = cc
moved (Err d) at now e is = cc

module _ (limit : ℕ) where
  abbrev promised_at : Ahead → Found Header
  promised_at = header_at binary_word limit

  filled_joined : (at : Ahead) (more : List Line) (p : Header × Ahead) → filled_header_at limit at ≡ Ok p
      → filled_header_at limit (with_lines at more) ≡ Ok (p.0, with_lines p.1 more)
  filled_joined at more p is =
      let a = both_ok (promised_at at) then_filled p is in
      let b = both_ok (at_line 1 (filled a.0.0)) (with_ahead a.0.1) p a.2 in
      let head =
      found_joined kinds.NotAiger (header_of binary_word limit) at.number at.lines more a.0 a.1 in
      rw (head, b.1)
      (ap (λ (q : Header × Ahead). Ok (q.0, with_lines q.1 more)) (ok_same {E = Stopped} (b.0, a.0.1) p b.2))

  refused_by : (at : Ahead) (more : List Line) (e : Stopped) (r : Found Header) → at.lines ≢ [] → promised_at at ≡ r
      → ◌>>=◌ {B = Header × Ahead} r then_filled ≡ Err e → filled_header_at limit (with_lines at more) ≡ Err e
  refused_by at more e (Ok x) some is h =
      rw (found_joined kinds.NotAiger (header_of binary_word limit) at.number at.lines more x is)
      (moved (at_line 1 (filled x.0)) x.1 (with_lines x.1 more) e h)
  refused_by at more e (Err d) some is h =
      let same : d ≡ e = err_same {A = Header × Ahead} {E = Stopped} d e h in
      rw (refused_joined kinds.NotAiger (header_of binary_word limit) at.number at.lines more d some is)
      (ap (λ (x : Stopped). Err x) same)

  filled_refused : (at : Ahead) (more : List Line) (e : Stopped) → at.lines ≢ [] → filled_header_at limit at ≡ Err e
      → filled_header_at limit (with_lines at more) ≡ Err e
  filled_refused at more e some h = refused_by at more e (promised_at at) some refl h

  -- what the code reads and tests
  pub filled_found : (at now : Ahead) (promised : Header) (r : Result Header Stopped)
      → promised_at at ≡ Ok (promised, now) → r ≡ at_line 1 (filled promised)
      → GivesOrFails (λ (h : Header). (h, now)) r (filled_header_at limit at)
  filled_found at now promised (Ok h) is all = rw (is, ← all) refl
  filled_found at now promised (Err e) is all = rw (is, ← all) refl

  pub no_filled : (at : Ahead) (e : Stopped) → promised_at at ≡ Err e → filled_header_at limit at ≡ Err e
  no_filled at e is = rw is refl

  pub header_behind : (at now : Ahead) (promised : Header) → promised_at at ≡ Ok (promised, now) → IsBehind at now
  header_behind at now promised is =
      found_behind kinds.NotAiger (header_of binary_word limit) at.number at.lines (promised, now) is

-- the gates after the lines
behind_none : (r : Result (List Gate × List ℕ) Stopped) → gates_behind [] r ≡ r
behind_none (Ok x) = refl
behind_none (Err e) = refl

none_found : (v count : ℕ) (bytes : List ℕ) → gates_from v count [] bytes ≡ gates_at v 1 count bytes
none_found v count bytes =
    let first : v + length {A = Gate} [] ≡ v = omega arith in
    let number : length {A = Gate} [] + 1 ≡ 1 = omega arith in
    let all : count - length {A = Gate} [] ≡ count = omega arith in
    rw (first, number, all) (behind_none (gates_at v 1 count bytes))

abbrev then_all_gates : Header → Circuit × Ahead → Result Circuit Stopped
then_all_gates h numbered =
    ◌>>=◌ {B = Circuit} (gates_at (first_gate h) 1 h.gates (bytes_of numbered.1.lines))
    (λ gates. tail_at h nothing_named (with_definitions h gates.0 numbered.0) numbered.1.number (lines_of gates.1))

gates_after : (h : Header) (r : Found Circuit)
    → ◌>>=◌ {B = Circuit} r (then_all_gates h) ≡ ◌>>=◌ {B = Circuit} (with_header h r) (then_gates [])
gates_after h (Ok x) = rw (none_found (first_gate h) h.gates (bytes_of x.1.lines)) refl
gates_after h (Err e) = refl

-- a header that is refused
abbrev then_numbered : Ahead → Header → Result Circuit Stopped
then_numbered at h =
    ◌>>=◌ {B = Circuit} (sections_at in_binary h sections (empty_circuit h.max_var) at) (then_all_gates h)

abbrev then_header : Header × Ahead → Result Circuit Stopped
then_header header = ◌>>=◌ {B = Circuit} (at_line 1 (filled header.0)) (then_numbered header.1)

stopped : (r : Result Header Stopped) (at : Ahead) (e : Stopped)
    → ◌>>=◌ {B = Header × Ahead} r (with_ahead at) ≡ Err e → ◌>>=◌ {B = Circuit} r (then_numbered at) ≡ Err e
stopped (Ok h) at e is = cc
stopped (Err d) at e is =
    ap (λ (x : Stopped). Err x) (err_same {A = Header × Ahead} {E = Stopped} d e is)

stopped_before : (r : Found Header) (e : Stopped) → ◌>>=◌ {B = Header × Ahead} r then_filled ≡ Err e
    → ◌>>=◌ {B = Circuit} r then_header ≡ Err e
stopped_before (Ok x) e is = stopped (at_line 1 (filled x.0)) x.1 e is
stopped_before (Err d) e is =
    ap (λ (x : Stopped). Err x) (err_same {A = Header × Ahead} {E = Stopped} d e is)

pub no_binary : (limit : ℕ) (ls : List Line) (e : Stopped) → filled_header_at limit (ahead 1 ls) ≡ Err e
    → binary_at limit ls ≡ Err e
unfolding binary_at
no_binary limit ls e is = stopped_before (header_at binary_word limit (ahead 1 ls)) e is

pub binary_told : (limit : ℕ) (ls : List Line) (h : Header) (now : Ahead)
    → filled_header_at limit (ahead 1 ls) ≡ Ok (h, now) → binary_at limit ls ≡ binary_then (Ok h) now
unfolding binary_at
binary_told limit ls h now is =
    let a = both_ok (header_at binary_word limit (ahead 1 ls)) then_filled (h, now) is in
    let b = both_ok (at_line 1 (filled a.0.0)) (with_ahead a.0.1) (h, now) a.2 in
    let p : (b.0, a.0.1) ≡ (h, now) = ok_same {E = Stopped} (b.0, a.0.1) (h, now) b.2 in
    rw (a.1, b.1)
    (gates_after b.0 (sections_at in_binary b.0 sections (empty_circuit b.0.max_var) a.0.1)
    ∙ ap (λ (q : Header × Ahead). binary_then (Ok q.0) q.1) p)

binary_head : (limit : ℕ) → IsHead (filled_header_at limit) (binary_at limit) binary_then
binary_head limit = record {
  joined = filled_joined limit;
  refused = filled_refused limit;
  tells = binary_told limit;
  stops = λ ls e now is. no_binary limit ls e is;
}

pub begins_binary : (limit : ℕ) (lines left : List ℕ) (number : ℕ) (r : Result Header Stopped) (from now : Ahead)
    → 0 < length lines → AreEnded (lines_of lines) → from ≡ ahead 1 (lines_of lines)
    → ahead number (lines_of left) ≡ now
    → GivesOrFails (λ (h : Header). (h, now)) r (filled_header_at limit from) → IsBehind from now
    → Begins (binary_at limit) binary_then lines left number r
begins_binary limit lines left number r from now some ended at to found behind =
    begins (binary_head limit) lines left number r from now some ended at to found behind

-- A reader whose lines were all read.
abbrev reader : LineReader → List Gate → BinaryReader
reader lines gates = record { lines = lines; gates = gates }

done_rest : (m : LineReader) (h : Header) (gates : List Gate) (bytes : List ℕ) → m.header ≡ Ok h → IsDone m.progress
    → rest_of (reader m gates) bytes ≡ gates_then h m.progress.circuit gates m.number bytes
done_rest m h gates bytes is done =
    ap (λ (x : Found (Header × Circuit)). ◌>>=◌ {B = Circuit} x (then_gates gates))
    (all_lines m h (ahead m.number (lines_of bytes)) is done)
    ∙ ap (gates_then h m.progress.circuit gates m.number) (pieces bytes).joined

abbrev tailed : Header → Circuit → ℕ → Result (List Gate × List ℕ) Stopped → Result Circuit Stopped
tailed h c n r =
    ◌>>=◌ {B = Circuit} r (λ gates. tail_at h nothing_named (with_definitions h gates.0 c) n (lines_of gates.1))

-- the lines were read, and then gates
module _ (r : BinaryReader) (m : LineReader) (h : Header) (bytes rest : List ℕ) (used : ℕ)
    (rest_is : rest ≡ drop used bytes)
    (on : (more : List ℕ) → ReadsOn (numbered_of r.lines (lines_of (bytes ++ more)))
    (numbered_of m (lines_of (drop used bytes ++ more))))
    (is : m.header ≡ Ok h) (done : IsDone m.progress)
  where
    abbrev told : List ℕ → List ℕ → Result Circuit Stopped
    told left more = gates_then h m.progress.circuit r.gates m.number (left ++ more)

    lines_on : (more : List ℕ) → ReadsOn (rest_of r (bytes ++ more)) (told rest more)
    lines_on more =
        subst (λ (x : Result Circuit Stopped). ReadsOn (rest_of r (bytes ++ more)) x)
        (done_rest m h r.gates (drop used bytes ++ more) is done
        ∙ ap (λ (left : List ℕ). told left more) (sym rest_is))
        (reads_on_by (then_gates r.gates) _ _ (on more))

    pub gates_on : (taken : ℕ) (found : List Gate) (more : List ℕ)
        → gates_from (first_gate h) h.gates r.gates (rest ++ more)
        ≡ gates_from (first_gate h) h.gates found (drop taken rest ++ more)
        → ReadsOn (rest_of r (bytes ++ more)) (rest_of (reader m found) (drop (used + taken) bytes ++ more))
    gates_on taken found more on_gates =
        let left : drop taken rest ≡ drop (used + taken) bytes =
        ap (drop taken) rest_is ∙ drop-drop taken used bytes in
        subst (λ (x : Result Circuit Stopped). ReadsOn (rest_of r (bytes ++ more)) x)
        (ap (tailed h m.progress.circuit m.number) on_gates
        ∙ sym (done_rest m h found (drop taken rest ++ more) is done)
        ∙ ap (λ (bs : List ℕ). rest_of (reader m found) (bs ++ more)) left)
        (lines_on more)

    pub gates_wrong : (more : List ℕ) (e : Stopped)
        → (e ≡ OutOfMemory) ⊎ ((others : List ℕ) → gates_from (first_gate h) h.gates r.gates (rest ++ others) ≡ Err e)
        → ReadsOn (rest_of r (bytes ++ more)) (Err e)
    gates_wrong more e (inl no_memory) = inl (ap (λ (f : Stopped). Err f) no_memory)
    gates_wrong more e (inr wrong) =
        subst (λ (x : Result Circuit Stopped). ReadsOn (rest_of r (bytes ++ more)) x)
        (ap (tailed h m.progress.circuit m.number) (wrong more)) (lines_on more)
