-- The text of a simulation, which goes on by lines and says what they say.
use Rattle.std.proofs.Common.{◌≡◌, ◌&&◌, ◌∷◌, ◌++◌, ◌∙◌, if◌then◌else◌, ◌||◌, ℕ, List, [], Bool, true, false, Option}
use Rattle.std.proofs.Common.{Some, None, is_some, option_and_then, option_map, refl, sym, ap, subst, append_assoc}
use Rattle.std.proofs.Common.{append-nil, suc, length, inl, inr, nat_lt, is_none, codes, ap₂, arith, lt-ltb}
use Rattle.std.specs.List.{AllZip, flat_map}
use Rattle.std.proofs.lemmas.Bool.{cases_lt, le-leb, lt-leb}
use Rattle.aig_circuit.specs.declared.value.Val.{Val}
use Rattle.aig_circuit.specs.declared.circuit.Circuit.{Circuit}
use Rattle.aig_meaning.specs.Meaning.{Row}
use Rattle.aig_meaning.specs.Trace.{Follow, IsFirstState, IsTrace, reset_state}
use Rattle.aig_lines.specs.Lines.{Line}
use Rattle.aig_lines.specs.Feeders.{Feeder, HasFoldedBytes}
use Rattle.aig_lines.specs.Feeding.{Folded, Turn, ended_if, fold_bytes, checked_line, fold_lines, folded_to}
use Rattle.aig_lines.specs.Texts.{judged_lines, text_of}
use Rattle.aig_lines.proofs.Tells.{has_folded_lines}
use Rattle.aig_rows.proofs.Grammar.Rows.{or_yes as or_true}
use Rattle.aig_step.specs.Stimulus.{value_of, values_of, Entry, Stimulus, before_rest, entry_in, lines_say, stimulus}
use Rattle.aig_step.specs.Stimulus.{Step, Stop, runs_of, with_step}
use Rattle.aig_step.specs.declared.trace.Columns.{Columns}
use Rattle.aig_step.specs.TraceText.{IsTraceText, last_stop, row_text, rows_text, run_text}
use Rattle.aig_step.proofs.LineValues.{too_long_text}
use Rattle.aig_trace.specs.Parts.Progress.{Point, Does, Goes, begin_of, Steps}
use Rattle.aig_trace.specs.Parts.Saying.{Saying, before_lines, entry_turn, longest_entry, nothing_said, say_line}

first_some : (o : Option Val) (others : Option (List Val))
    → is_some (option_and_then (λ u. option_map (λ us. u ∷ us) others) o) ≡ (is_some o && is_some others)
first_some None others = refl
first_some (Some u) None = refl
first_some (Some u) (Some us) = refl

and_in_turn : (a b c : Bool) → (a && (b && c)) ≡ ((a && b) && c)
and_in_turn true b c = refl
and_in_turn false b c = refl

and_true : (a : Bool) → (a && true) ≡ a
and_true true = refl
and_true false = refl

pub values_more : (text : List ℕ) (b : ℕ)
    → is_some (values_of (text ++ b ∷ [])) ≡ (is_some (values_of text) && is_some (value_of b))
values_more [] b = first_some (value_of b) (Some []) ∙ and_true (is_some (value_of b))
values_more (a ∷ text) b =
    first_some (value_of a) (values_of (text ++ b ∷ []))
    ∙ ap (λ (s : Bool). is_some (value_of a) && s) (values_more text b)
    ∙ and_in_turn (is_some (value_of a)) (is_some (values_of text)) (is_some (value_of b))
    ∙ ap (λ (s : Bool). s && is_some (value_of b)) (sym (first_some (value_of a) (values_of text)))

-- A simulation goes on by a line, and by lines after lines.

-- by one line
pub goes_one : (c : Circuit) (columns : Columns) (p q : Point) (e : Entry) (t : List ℕ) → Does c columns p e q t
    → Goes c columns p (e ∷ []) q t
goes_one c columns p q e t does = (q, t, [], does, (refl, refl), sym (append-nil t))

-- by lines after lines
pub goes_over : (c : Circuit) (columns : Columns) (p q u : Point) (es fs : List Entry) (t v : List ℕ)
    → Goes c columns p es q t → Goes c columns q fs u v → Goes c columns p (es ++ fs) u (t ++ v)
goes_over c columns p q u [] fs t v (same, none) more =
    subst (λ (s : List ℕ). Goes c columns p fs u (s ++ v)) (sym none)
    (subst (λ (s : Point). Goes c columns s fs u v) same more)
goes_over c columns p q u (e ∷ es) fs t v (between, front, rest, does, goes, joined) more = (
  between,
  front,
  rest ++ v,
  does,
  goes_over c columns between q u es fs rest v goes more,
  ap (λ (s : List ℕ). s ++ v) joined ∙ append_assoc front rest v,
)

-- by one more line
pub goes_on : (c : Circuit) (columns : Columns) (p q u : Point) (es : List Entry) (e : Entry) (t v : List ℕ)
    → Goes c columns p es q t → Does c columns q e u v → Goes c columns p (es ++ e ∷ []) u (t ++ v)
goes_on c columns p q u es e t v goes does =
    goes_over c columns p q u es (e ∷ []) t v goes (goes_one c columns q u e v does)

-- To tell the lines of a stimulus is to say what they say.

-- a line that is too long says nothing
checked_is : {K : Type 0} (s : Saying K) (text : List ℕ)
    → checked_line say_line (longest_entry s.inputs) s text ≡ say_line s text
checked_is s text =
    let limit = longest_entry s.inputs in
    elim (cases_lt limit (length text)) [
      | inl long ↦
          rw (lt-leb (length text) limit long) (sym (ap (entry_turn s) (too_long_text s.inputs text long)))
      | inr short ↦ rw (le-leb (length text) limit short) refl
    ]

-- what was folded is what is said, after what was said before
pub record IsSaid {K : Type 0} (s : Saying K) (said : Stimulus) (t : Folded (Saying K)) : Type 0 where
  pub state : t.state ≡ record s { entries = s.entries ++ said.entries }
  pub bad : said.bad ≡ (if t.refused then Some t.number else None)

said_rest : {K : Type 0} (o : Option Entry) (s : Saying K) (number : ℕ) (ls : List Line)
    → ((e : Entry) → IsSaid (record s { entries = s.entries ++ e ∷ [] }) (lines_say s.inputs (suc number) ls)
    (fold_lines say_line (longest_entry s.inputs) (record s { entries = s.entries ++ e ∷ [] }) (suc number) ls))
    → (let t = entry_turn s o in
    IsSaid s (before_rest number o (lines_say s.inputs (suc number) ls))
    (if t.goes_on then fold_lines say_line (longest_entry s.inputs) t.state (suc number) ls else folded_to t.state
    number true))
said_rest None s number ls again = record {
  state = ap (λ (es : List Entry). record s { entries = es }) (sym (append-nil s.entries));
  bad = refl;
}
said_rest (Some e) s number ls again =
    let rest = again e in
    record {
      state = rest.state
          ∙ ap (λ (es : List Entry). record s { entries = es })
          (append_assoc s.entries (e ∷ []) (lines_say s.inputs (suc number) ls).entries);
      bad = rest.bad;
    }

folded_said : {K : Type 0} (ls : List Line) (s : Saying K) (number : ℕ)
    → IsSaid s (lines_say s.inputs number ls) (fold_lines say_line (longest_entry s.inputs) s number ls)
folded_said [] s number = record {
  state = ap (λ (es : List Entry). record s { entries = es }) (sym (append-nil s.entries));
  bad = refl;
}
folded_said {K} (l ∷ ls) s number =
    let on : Turn (Saying K) → Folded (Saying K) = λ t.
    if t.goes_on then fold_lines say_line (longest_entry s.inputs) t.state (suc number) ls
    else folded_to t.state number true in
    subst (IsSaid s (lines_say s.inputs number (l ∷ ls))) (ap on (sym (checked_is s (text_of l))))
    (said_rest (entry_in s.inputs (text_of l)) s number ls
    (λ e. folded_said ls (record s { entries = s.entries ++ e ∷ [] }) (suc number)))

-- what was said where a feeder stands
pub record HasSaid {T K : Type 0} (IsAt : T → Saying K → Type 0) (known : K) (inputs : ℕ) (bytes : List ℕ)
    (over : Bool) (f : Feeder) (t : T) : Type 0 where
  pub taker : IsAt t (record {
    known = known;
    inputs = inputs;
    entries = (stimulus inputs bytes over).entries;
  })
  pub bad : (stimulus inputs bytes over).bad ≡ (if f.refused then Some f.number else None)

pub has_said : {T K : Type 0} (IsAt : T → Saying K → Type 0) (known : K) (inputs : ℕ) (bytes : List ℕ) (over : Bool)
    (f : Feeder) (t : T)
    → HasFoldedBytes IsAt f t (ended_if say_line over (fold_bytes say_line (before_lines known inputs) bytes))
    → HasSaid IsAt known inputs bytes over f t
has_said IsAt known inputs bytes over f t stands =
    let has = has_folded_lines say_line IsAt f t over (longest_entry inputs) (nothing_said known inputs) bytes stands in
    let said = folded_said (judged_lines bytes over) (nothing_said known inputs) 1 in
    record { taker = subst (IsAt t) said.state has.taker; bad = rw (has.number, has.refused) said.bad }

-- The text of a simulation from the reset state is the trace text of its lines.

-- the text of runs, the first of which goes on from a point, and the point that they lead to
abbrev Leads : Circuit → Columns → Point → List (List (List Val)) → List (List Val) → Point → List ℕ → Type 0
Leads c columns p [] unended q text =
    (rows : List Row) × Follow c p.state unended rows × (text ≡ rows_text columns rows)
    × (q.has_step ≡ (p.has_step || nat_lt 0 (length unended)))
Leads c columns p (run ∷ runs) unended q text =
    (rows : List Row) × (rest : List ℕ) × Follow c p.state run rows × Leads c columns (begin_of c) runs unended q rest
    × (text ≡ run_text columns rows ++ rest)

or_false : (a : Bool) → (a || false) ≡ a
or_false true = refl
or_false false = refl

some_step : {X : Type 0} (a : Bool) (x : X) (xs : List X) → (a || nat_lt 0 (length (x ∷ xs))) ≡ true
some_step a x xs = ap (λ b. a || b) (lt-ltb 0 (length (x ∷ xs)) (omega arith)) ∙ or_true a

-- a step before runs
step_before : (c : Circuit) (columns : Columns) (p between q : Point) (given : List Val)
    (runs : List (List (List Val))) (unended : List (List Val)) (front rest : List ℕ)
    → Steps c columns p given between front → Leads c columns between runs unended q rest
    → let whole = with_step given runs unended in Leads c columns p whole.ended whole.unended q (front ++ rest)
step_before c columns p between q given [] unended front rest steps (rows, follow, is, has) = (
  steps.row ∷ rows,
  (
    steps.from,
    steps.inputs,
    steps.is_row,
    subst (λ (b : Point). Follow c b.state unended rows) steps.leads follow,
  ),
  ap₂ (λ (s t : List ℕ). s ++ t) steps.is is,
  has ∙ ap (λ (b : Point). b.has_step || nat_lt 0 (length unended)) steps.leads
      ∙ sym (some_step p.has_step given unended),
)
step_before c columns p between q given (run ∷ runs) unended front rest steps (rows, others, follow, leads, is) = (
  steps.row ∷ rows,
  others,
  (
    steps.from,
    steps.inputs,
    steps.is_row,
    subst (λ (b : Point). Follow c b.state run rows) steps.leads follow,
  ),
  leads,
  ap₂ (λ (s t : List ℕ). s ++ t) steps.is is
      ∙ sym (ap (λ (t : List ℕ). t ++ others)
      (append_assoc (row_text columns steps.row) (rows_text columns rows) (codes ".\n"))
      ∙ append_assoc (row_text columns steps.row) (run_text columns rows) others),
)

leads_by : (c : Circuit) (columns : Columns) (p q : Point) (es : List Entry) (text : List ℕ)
    → Goes c columns p es q text → Leads c columns p (runs_of es).ended (runs_of es).unended q text
leads_by c columns p q [] text (same, none) =
    ([], tt, none, ap (λ (s : Point). s.has_step) same ∙ sym (or_false p.has_step))
leads_by c columns p q (Step given ∷ es) text (between, front, rest, does, goes, joined) =
    let later = leads_by c columns between q es rest goes in
    subst
    (λ (t : List ℕ). let whole = with_step given (runs_of es).ended (runs_of es).unended in
    Leads c columns p whole.ended whole.unended q t) (sym joined)
    (step_before c columns p between q given (runs_of es).ended (runs_of es).unended front rest does later)
leads_by c columns p q (Stop ∷ es) text (between, front, rest, does, goes, joined) =
    let later = leads_by c columns between q es rest goes in (
      [],
      rest,
      tt,
      subst (λ (b : Point). Leads c columns b (runs_of es).ended (runs_of es).unended q rest) does.0 later,
      joined ∙ ap (λ (t : List ℕ). t ++ rest) does.1,
    )

-- the traces of runs, and the text of them
record AreTraced (c : Circuit) (columns : Columns) (runs : List (List (List Val))) (unended : List (List Val))
    (has_step : Bool) (text : List ℕ) : Type 0 where
  traces : List (List Row)
  last : List Row
  each : AllZip (IsTrace c (reset_state c)) runs traces
  is_last : IsTrace c (reset_state c) unended last
  is : text ≡ flat_map (run_text columns) traces ++ rows_text columns last
  has : has_step ≡ nat_lt 0 (length unended)

traced : (c : Circuit) (columns : Columns) (q : Point) (runs : List (List (List Val))) (unended : List (List Val))
    (text : List ℕ) → IsFirstState c (reset_state c) → Leads c columns (begin_of c) runs unended q text
    → AreTraced c columns runs unended q.has_step text
traced c columns q [] unended text first (rows, follow, is, has) =
    record { traces = []; last = rows; each = tt; is_last = (first, follow); is = is; has = has }
traced c columns q (run ∷ runs) unended text first (rows, rest, follow, leads, is) =
    let later = traced c columns q runs unended rest first leads in
    record {
      traces = rows ∷ later.traces;
      last = later.last;
      each = ((first, follow), later.each);
      is_last = later.is_last;
      is = is ∙ ap (λ (t : List ℕ). run_text columns rows ++ t) later.is
          ∙ sym (append_assoc (run_text columns rows) (flat_map (run_text columns) later.traces)
          (rows_text columns later.last));
      has = later.has;
    }

-- what ends a text, by whether the bytes have ended, whether a line is bad, and whether the run that goes on has a step
abbrev pub closing : Bool → Option ℕ → Bool → List ℕ
closing ended bad has_step = if ended && is_none bad && has_step then codes ".\n" else []

-- the text of a simulation that went by all entries of a stimulus, and what ends it
pub goes_is_text : (c : Circuit) (columns : Columns) (q : Point) (es : List Entry) (text : List ℕ)
    → IsFirstState c (reset_state c) → Goes c columns (begin_of c) es q text
    → (bytes : List ℕ) (ended : Bool) → (stimulus (length c.inputs) bytes ended).entries ≡ es
    → IsTraceText c columns bytes ended
    (text ++ closing ended (stimulus (length c.inputs) bytes ended).bad q.has_step)
goes_is_text c columns q es text first goes bytes ended same =
    let said = stimulus (length c.inputs) bytes ended in
    let t = traced c columns q (runs_of said.entries).ended (runs_of said.entries).unended text first
    (leads_by c columns (begin_of c) q said.entries text
    (subst (λ (s : List Entry). Goes c columns (begin_of c) s q text) (sym same) goes)) in
    record {
      traces = t.traces;
      last = t.last;
      each = t.each;
      is_last = t.is_last;
      is = ap₂ (λ (s : List ℕ) (b : Bool). s ++ closing ended said.bad b) t.is t.has
          ∙ append_assoc (flat_map (run_text columns) t.traces) (rows_text columns t.last)
          (last_stop ended said.bad (runs_of said.entries).unended);
    }
