-- Gates and numbered lines of a binary file: what is read spells the grammar's, and the other way round.
use Rattle.std.proofs.Common.{◌≡◌, ◌+◌, ◌-◌, ◌<◌, ◌≤◌, ◌∷◌, ◌++◌, ◌∙◌, ◌||◌, rules, ℕ, zero, suc, List, [], length}
use Rattle.std.proofs.Common.{Option, None, Some, Result, Ok, Err, refl, sym, ap, subst, arith, append_assoc, map}
use Rattle.std.proofs.Common.{ap₂, add-one, sum, ltb-false, le-ltb, ltb}
use Rattle.std.specs.List.{AllByRecursion, range_with_len}
use Rattle.std.proofs.lemmas.Bool.{or_parts, or_from}
use Rattle.std.proofs.lemmas.Grind.{common_steps}
use Rattle.std.proofs.lemmas.List.FromFn.{length-range_with_len}
use Rattle.aig_circuit.specs.declared.circuit.Gate.{Gate}
use Rattle.aig_circuit.specs.Literal.{literal_of}
use Rattle.aig_circuit.specs.declared.circuit.Latch.{Latch}
use Rattle.aig_circuit.specs.declared.circuit.Circuit.{Circuit}
use Rattle.aig_circuit.specs.Form.{IsLiteralUpTo}
use Rattle.aig_checked.specs.BinaryOrder.{AreOrderedGates, IsInBinaryOrder}
use Rattle.aig_checked.proofs.Numbered.{HasLiteralsUpTo}
use Rattle.aig_fault.specs.declared.kind.Kind.{Kind}
use Rattle.aig_fault.specs.declared.kind.Kind.TheVariants as kinds
use Rattle.aig_fault.specs.declared.stopped.Stopped.{Stopped}
use Rattle.aig_rows.specs.Reading.{◌>>=◌}
use Rattle.aig_rows.specs.Rows.{Form, next_form, next_row}
use Rattle.aig_rows.proofs.Steps.{both_ok, ok_same, passed}
use Rattle.aig_rows.proofs.Grammar.Entries.{AreGoodRows, reset_again}
use Rattle.aig_text.specs.declared.header_line.Header.{Header}
use Rattle.aig_text.specs.declared.section.Section.TheVariants.{Inputs, Latches, Gates}
use Rattle.aig_text.specs.declared.section.Section.{Section}
use Rattle.aig_text.specs.Sections.{latches_from, sections, in_ascii, in_binary, variable_after}
use Rattle.aig_text.proofs.Loops.Sections.{as_many}
use Rattle.aig_text.specs.Reading.{empty_circuit}
use Rattle.aig_text.proofs.Grammar.Headers.{HasCounts}
use Rattle.aig_text.proofs.Grammar.Sections.{FitRows, AllFit, AllApart, TellsRows, rows_by, with_all, tells_rows}
use Rattle.aig_text.proofs.Grammar.Sections.{same_sizes, small_sizes, entries_in_range}
use Rattle.aig_binary.specs.Delta.{IsDelta, delta_at}
use Rattle.aig_binary.specs.BinaryGrammar.{SpellsGate, SpellsGates}
use Rattle.aig_binary.specs.BinaryReading.{no_delta, lowered, lowered_at, gate_at, at_gate, gates_at, with_definitions}
use Rattle.aig_binary.proofs.Deltas.Reading.{delta_is, delta_read}

-- what is left of a literal less the delta at the front
pub record IsLowered (from least low : ℕ) (bytes rest : List ℕ) : Type 0 where
  pub spelling : List ℕ
  pub are : bytes ≡ spelling ++ rest
  pub delta : IsDelta spelling (from - low)
  pub below : low + least ≤ from

lowered_by : (from least : ℕ) (bytes : List ℕ) (o : Option (ℕ × List ℕ)) (p : ℕ × List ℕ) → delta_at bytes ≡ o
    → lowered from least (no_delta bytes) o ≡ Ok p → IsLowered from least p.0 bytes p.1
lowered_by from least bytes None p read h = cc
lowered_by from least bytes (Some found) p read h =
    let q = passed (ltb found.0 least || ltb from found.0) kinds.BadDelta (Ok (from - found.0, found.1)) p h in
    let tests = or_parts (ltb found.0 least) (ltb from found.0) q.0 in
    let enough : least ≤ found.0 = ltb-false found.0 least tests.0 in
    let within : found.0 ≤ from = ltb-false from found.0 tests.1 in
    let d = delta_is bytes found.1 found.0 read in
    let back : found.0 ≡ from - (from - found.0) = omega arith in
    subst (λ (r : ℕ × List ℕ). IsLowered from least r.0 bytes r.1)
    (ok_same {E = Kind} (from - found.0, found.1) p q.1) (record {
      spelling = d.0;
      are = d.1;
      delta = subst (λ n. IsDelta d.0 n) back d.2;
      below = omega arith;
    })

pub lowered_is : (from least : ℕ) (bytes : List ℕ) (p : ℕ × List ℕ) → lowered_at from least bytes ≡ Ok p
    → IsLowered from least p.0 bytes p.1
unfolding lowered_at
lowered_is from least bytes p h = lowered_by from least bytes (delta_at bytes) p refl h

pub lowered_found : (from least low : ℕ) (d rest : List ℕ) → IsDelta d (from - low) → low + least ≤ from
    → lowered_at from least (d ++ rest) ≡ Ok (low, rest)
unfolding lowered_at
lowered_found from least low d rest delta below = search (rules, le-ltb, delta_read, or_from)

-- a gate of this variable, at the front
pub record IsGateAt (variable : ℕ) (bytes : List ℕ) (g : Gate) (rest : List ℕ) : Type 0 where
  pub spelling : List ℕ
  pub are : bytes ≡ spelling ++ rest
  pub spelled : SpellsGate spelling g
  pub defines : g.var ≡ variable
  pub left : g.left < literal_of g.var
  pub right : g.right ≤ g.left

abbrev pub gate : ℕ → ℕ → ℕ → Gate
gate variable left right = record { var = variable; left = left; right = right }

abbrev pub with_right : ℕ → ℕ → ℕ × List ℕ → Result (Gate × List ℕ) Kind
with_right variable left right = Ok (gate variable left right.0, right.1)

abbrev pub then_right : ℕ → ℕ × List ℕ → Result (Gate × List ℕ) Kind
then_right variable left = lowered_at left.0 0 left.1 >>= with_right variable left.0

two_lowered : (variable left right : ℕ) (bytes between rest : List ℕ)
    → IsLowered (literal_of variable) 1 left bytes between → IsLowered left 0 right between rest
    → IsGateAt variable bytes (gate variable left right) rest
two_lowered variable left right bytes between rest l r =
    let low : left + 1 ≤ literal_of variable = l.below in
    let order : right + 0 ≤ left = r.below in
    record {
      spelling = l.spelling ++ r.spelling;
      are = l.are ∙ ap (λ (t : List ℕ). l.spelling ++ t) r.are ∙ sym (append_assoc l.spelling r.spelling rest);
      spelled = record { first = l.spelling; second = r.spelling; are = refl; left = l.delta; right = r.delta };
      defines = refl;
      left = omega arith;
      right = omega arith;
    }

pub gate_is : (variable : ℕ) (bytes : List ℕ) (p : Gate × List ℕ) → gate_at variable bytes ≡ Ok p
    → IsGateAt variable bytes p.0 p.1
unfolding gate_at
gate_is variable bytes p h =
    let a = both_ok (lowered_at (literal_of variable) 1 bytes) (then_right variable) p h in
    let b = both_ok (lowered_at a.0.0 0 a.0.1) (with_right variable a.0.0) p a.2 in
    subst (λ (q : Gate × List ℕ). IsGateAt variable bytes q.0 q.1)
    (ok_same {E = Kind} (gate variable a.0.0 b.0.0, b.0.1) p b.2)
    (two_lowered variable a.0.0 b.0.0 bytes a.0.1 b.0.1 (lowered_is (literal_of variable) 1 bytes a.0 a.1)
    (lowered_is a.0.0 0 a.0.1 b.0 b.1))

pub gate_found : (g : Gate) (bytes rest : List ℕ) → SpellsGate bytes g → g.left < literal_of g.var → g.right ≤ g.left
    → gate_at g.var (bytes ++ rest) ≡ Ok (g, rest)
unfolding gate_at
gate_found g bytes rest s left right = search (rules, append_assoc, lowered_found)

-- so many gates, one after the other
pub record AreGates (variable count : ℕ) (bytes : List ℕ) (gs : List Gate) (rest : List ℕ) : Type 0 where
  pub spelling : List ℕ
  pub are : bytes ≡ spelling ++ rest
  pub spelled : SpellsGates spelling gs
  pub ordered : AreOrderedGates variable gs
  pub counted : length gs ≡ count

one_gate : (variable count : ℕ) (bytes between rest : List ℕ) (g : Gate) (gs : List Gate)
    → IsGateAt variable bytes g between → AreGates (suc variable) count between gs rest
    → AreGates variable (suc count) bytes (g ∷ gs) rest
one_gate variable count bytes between rest g gs a o = record {
  spelling = a.spelling ++ o.spelling;
  are = a.are ∙ ap (λ (t : List ℕ). a.spelling ++ t) o.are ∙ sym (append_assoc a.spelling o.spelling rest);
  spelled = (a.spelling, o.spelling, refl, a.spelled, o.spelled);
  ordered = (a.defines, a.left, a.right, o.ordered);
  counted = ap suc o.counted;
}

ok_at_gate : {A : Type 0} (n : ℕ) (r : Result A Kind) (x : A) → at_gate n r ≡ Ok x → r ≡ Ok x
ok_at_gate n (Ok y) x h = cc
ok_at_gate n (Err e) x h = cc

abbrev with_gate : Gate → List Gate × List ℕ → Result (List Gate × List ℕ) Stopped
with_gate first others = Ok (first ∷ others.0, others.1)

abbrev then_gates : ℕ → ℕ → ℕ → Gate × List ℕ → Result (List Gate × List ℕ) Stopped
then_gates variable n count first = gates_at (suc variable) (suc n) count first.1 >>= with_gate first.0

pub gates_are : (variable n count : ℕ) (bytes : List ℕ) (p : List Gate × List ℕ)
    → gates_at variable n count bytes ≡ Ok p → AreGates variable count bytes p.0 p.1
unfolding gates_at
gates_are variable n zero bytes p h = search rules
gates_are variable n (suc count) bytes p h =
    let a = both_ok (at_gate n (gate_at variable bytes)) (then_gates variable n count) p h in
    let b = both_ok (gates_at (suc variable) (suc n) count a.0.1) (with_gate a.0.0) p a.2 in
    subst (λ (q : List Gate × List ℕ). AreGates variable (suc count) bytes q.0 q.1)
    (ok_same {E = Stopped} (a.0.0 ∷ b.0.0, b.0.1) p b.2)
    (one_gate variable count bytes a.0.1 b.0.1 a.0.0 b.0.0
    (gate_is variable bytes a.0 (ok_at_gate n (gate_at variable bytes) a.0 a.1))
    (gates_are (suc variable) (suc n) count a.0.1 b.0 b.1))

-- and gates that are spelled in order are read
pub gates_found : (variable n : ℕ) (bytes rest : List ℕ) (gs : List Gate) → SpellsGates bytes gs
    → AreOrderedGates variable gs → gates_at variable n (length gs) (bytes ++ rest) ≡ Ok (gs, rest)
unfolding gates_at
gates_found variable n bytes rest [] s o = ap (λ (t : List ℕ). Ok ([], t ++ rest)) s
gates_found variable n bytes rest (g ∷ gs) s o =
    let cut : bytes ++ rest ≡ s.0 ++ (s.1 ++ rest) = ap (λ (t : List ℕ). t ++ rest) s.2 ∙ append_assoc s.0 s.1 rest in
    let first : gate_at variable (s.0 ++ (s.1 ++ rest)) ≡ Ok (g, s.1 ++ rest) =
    subst (λ v. gate_at v (s.0 ++ (s.1 ++ rest)) ≡ Ok (g, s.1 ++ rest)) o.0
    (gate_found g s.0 (s.1 ++ rest) s.3 o.1 o.2) in
    rw (cut, first, gates_found (suc variable) (suc n) s.1 rest gs s.4 o.3) refl

-- The numbered lines of a binary file: latches by their next states, the sections that ASCII files list alike, and what
-- they make of a circuit.

-- the circuit with the rows that another one has in all sections, and with what no line tells
abbrev pub numbered_circuit : Header → Circuit → List Gate → Circuit
numbered_circuit h d gates =
    with_definitions h gates (with_all in_binary h (rows_by in_binary d) sections (empty_circuit h.max_var))

-- latches by the rows of their next states
next_literal : (v : ℕ) → literal_of v + 2 ≡ literal_of (suc v)
next_literal v = omega arith

next_rows_again : (m v : ℕ) (rows : List (List ℕ)) → AreGoodRows next_form m (literal_of v) rows
    → map next_row (latches_from v rows) ≡ rows
unfolding latches_from
next_rows_again m v [] good = refl
next_rows_again m v ([] ∷ rows) good = absurd good.0
next_rows_again m v ((n ∷ []) ∷ rows) good = absurd good.0.1
next_rows_again m v ((n ∷ r ∷ []) ∷ rows) good =
    let others = subst (λ (k : ℕ). AreGoodRows next_form m k rows) (next_literal v) good.1 in
    ap₂ (λ (s : ℕ) (others : List (List ℕ)). (n ∷ s ∷ []) ∷ others) (reset_again (literal_of v) r good.0.1.0)
    (next_rows_again m (suc v) rows others)
next_rows_again m v ((n ∷ r ∷ o ∷ ns) ∷ rows) good = absurd good.0.1.1

nexts_up_to : (m k v : ℕ) (rows : List (List ℕ)) → AreGoodRows next_form m k rows
    → AllByRecursion (IsLiteralUpTo m) (map (λ (l : Latch). l.next) (latches_from v rows))
unfolding latches_from
nexts_up_to m k v [] good = tt
nexts_up_to m k v ([] ∷ rows) good = absurd good.0
nexts_up_to m k v ((n ∷ ns) ∷ rows) good = (good.0.0, nexts_up_to m (k + 2) (suc v) rows good.1)

define : (variable : ℕ) (rows : List (List ℕ))
    → map (λ (l : Latch). l.var) (latches_from variable rows) ≡ range_with_len variable (length rows)
unfolding latches_from
define variable [] = refl
define variable (ns ∷ rows) =
    ap (λ (vs : List ℕ). variable ∷ vs)
    (define (suc variable) rows ∙ ap (λ (k : ℕ). range_with_len k (length rows)) (sym (add-one variable)))

-- latches after none
after_none : (h : Header) (ls : List Latch) (rows : List (List ℕ)) → map next_row ls ≡ []
    → AreGoodRows next_form h.max_var (literal_of (1 + h.inputs)) rows
    → map next_row (ls ++ latches_from (variable_after (1 + h.inputs) ls) rows) ≡ rows
after_none h [] rows none good = next_rows_again h.max_var (1 + h.inputs) rows good
after_none h (l ∷ ls) rows none good = cc

-- The laws of sections.
none : (rows : List (List ℕ)) → length rows ≡ 0 → [] ≡ rows
none [] e = refl
none (ns ∷ rows) e = absurd (omega arith)

pub tells : (h : Header) (s : Section) → TellsRows in_binary h s
tells h Inputs rows c empty fit = none rows fit.counted
tells h Latches rows c empty fit = after_none h c.latches rows empty fit.good
tells h Gates rows c empty fit = none rows fit.counted
tells h s rows c empty fit = tells_rows h s rows c empty fit

pub apart : (h : Header) → AllApart in_binary h sections
apart h = search rules

-- The sections between latches and gates are those of an ASCII file that has no inputs, no latches and no gates: this
-- is its header, and this its circuit.
abbrev header_between : Header → Header
header_between h = record h { inputs = 0; latches = 0; gates = 0 }

abbrev circuit_between : Circuit → Circuit
circuit_between d = record d { inputs = []; latches = []; gates = [] }

-- a section of no lines
pub no_rows : {form : Form} {bound start : ℕ} → FitRows form bound start 0 []
no_rows = record { good = tt; counted = refl }

module _ (h : Header) (d : Circuit)
    (fit : AllFit in_binary h (rows_by in_binary d) sections (empty_circuit h.max_var)) where
  fit_between : AllFit in_ascii (header_between h) (rows_by in_ascii (circuit_between d)) sections
      (empty_circuit h.max_var)
  fit_between = search (rules, no_rows)

  abbrev nexts : List (List ℕ)
  nexts = map next_row d.latches

  module _ (gates : List Gate) where
    abbrev numbered : Circuit
    numbered = numbered_circuit h d gates

    pub literals_are : HasLiteralsUpTo numbered
    literals_are = (
      nexts_up_to h.max_var (literal_of (1 + h.inputs)) (1 + h.inputs) nexts fit.1.0.good,
      (entries_in_range (header_between h) (circuit_between d) fit_between).literals,
    )

    -- the sizes are those of the literals, and their sum is within the limit
    sizes_are : sum numbered.justice.sizes ≡ length numbered.justice.literals
    sizes_are = same_sizes (header_between h) (circuit_between d) fit_between

    pub sizes_within : sum numbered.justice.sizes ≤ h.limit
    sizes_within = small_sizes (header_between h) (circuit_between d) fit_between

    pub counts_are : length gates ≡ h.gates → HasCounts h numbered
    counts_are g = grind (arith, common_steps, length-range_with_len, as_many)

    pub order_is : length gates ≡ h.gates → h.max_var ≡ h.inputs + h.latches + h.gates
        → AreOrderedGates (1 + h.inputs + h.latches) gates → IsInBinaryOrder numbered
    order_is g full ordered = search (rules, length-range_with_len, as_many, define)
