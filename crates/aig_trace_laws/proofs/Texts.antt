-- Trace texts: a stimulus has exactly one, circuits that mean the same have the same, and known characters stay.
use Rattle.std.proofs.Common.{◌≡◌, ◌++◌, ◌∷◌, ◌∙◌, ◌≢◌, ◌&&◌, if◌then◌else◌, List, [], length, refl, ap₂, ℕ, Bool, sym}
use Rattle.std.proofs.Common.{ap, subst, Option, codes, is_none, nat_lt}
use Rattle.std.specs.List.{AllByRecursion, AllZip, flat_map}
use Rattle.std.proofs.lemmas.Slice.Zip.{AllZip-long}
use Rattle.aig_circuit.specs.declared.circuit.Circuit.{Circuit}
use Rattle.aig_circuit.specs.declared.value.Val.{Val}
use Rattle.aig_circuit.specs.Wellformed.{IsWellFormed}
use Rattle.aig_circuit.specs.declared.value.Val.TheVariants.{Zero, One, X}
use Rattle.aig_meaning.specs.Meaning.{Row}
use Rattle.aig_meaning.specs.Trace.{IsTrace, reset_state}
use Rattle.aig_meaning.specs.Completion.{RowStays, Stays}
use Rattle.aig_meaning.proofs.Traces.{one_trace, reset_state_is_first, same_meaning_same_traces, known_values_stay}
use Rattle.aig_step.specs.Stimulus.{runs_of, stimulus, Stimulus}
use Rattle.aig_step.specs.StimulusText.{AreSteps}
use Rattle.aig_step.specs.TraceText.{last_stop, rows_text, run_text, IsTraceText, character_of, properties_text}
use Rattle.aig_step.specs.TraceText.{row_text, values_text}
use Rattle.aig_step.specs.declared.trace.Columns.{Columns}
use Rattle.aig_step.specs.declared.trace.Columns.TheVariants.{Plain, Properties}
use Rattle.aig_step.proofs.StimulusTexts.{stimuli_are_read}
use Rattle.aig_step.proofs.Running.Machines.{same_reset_state}
use Rattle.aig_trace_laws.specs.Laws.{OneTraceText, SameMeaningSameText, KnownCharactersStay}
use Rattle.aig_trace_laws.proofs.KnownLines.{runs_known, stays_itself, stimulus_known}

-- each run has exactly one trace
each_once : (c : Circuit) (runs : List (List (List Val))) → IsWellFormed c
    → AllByRecursion (AreSteps c) runs
    → (traces : List (List Row)) × AllZip (IsTrace c (reset_state c)) runs traces
    × ((others : List (List Row)) → AllZip (IsTrace c (reset_state c)) runs others → others ≡ traces)
each_once c [] formed long = ([], tt, none) where
  none : (others : List (List Row)) → AllZip (IsTrace c (reset_state c)) [] others → others ≡ []
  none [] are = refl
  none (o ∷ os) are = absurd are
each_once c (run ∷ runs) formed long =
    let first = one_trace c (reset_state c) run formed (reset_state_is_first c) long.0 in
    let later = each_once c runs formed long.1 in
    (first.0 ∷ later.0, (first.1, later.1), same first.0 later.0 first.2 later.2) where
      same : (rows : List Row) (traces : List (List Row))
          → ((others : List Row) → IsTrace c (reset_state c) run others → others ≡ rows)
          → ((others : List (List Row)) → AllZip (IsTrace c (reset_state c)) runs others → others ≡ traces)
          → (others : List (List Row)) → AllZip (IsTrace c (reset_state c)) (run ∷ runs) others → others ≡ rows ∷ traces
      same rows traces one more [] are = absurd are
      same rows traces one more (o ∷ os) are =
          ap₂ (λ (r : List Row) (rs : List (List Row)). r ∷ rs) (one o are.0) (more os are.1)

pub one_trace_text : OneTraceText
one_trace_text c columns bytes ended formed =
    let said = stimulus (length c.inputs) bytes ended in
    let runs = runs_of said.entries in
    let long = (stimuli_are_read c bytes ended runs said.bad).0 (refl, refl) in
    let each = each_once c runs.ended formed long.each in
    let last = one_trace c (reset_state c) runs.unended formed (reset_state_is_first c) long.last in
    let end = last_stop ended said.bad runs.unended in (
      flat_map (run_text columns) each.0 ++ (rows_text columns last.0 ++ end),
      record { traces = each.0; last = last.0; each = each.1; is_last = last.1; is = refl },
      λ other is. is.is ∙ ap₂
          (λ (traces : List (List Row)) (rows : List Row).
          flat_map (run_text columns) traces ++ (rows_text columns rows ++ end))
          (each.2 is.traces is.each) (last.2 is.last is.is_last),
    )

-- Circuits that mean the same have the same trace texts.

-- the text of what a stimulus says, over a circuit that has the traces of the other
module _ (c d : Circuit) (columns : Columns)
    (traces : (first : List Val) (vectors : List (List Val)) (rows : List Row) → IsTrace c first vectors rows
    → IsTrace d first vectors rows)
    (reset : reset_state d ≡ reset_state c) (inputs : length d.inputs ≡ length c.inputs) where
  one_carried : (vectors : List (List Val)) (rows : List Row) → IsTrace c (reset_state c) vectors rows
      → IsTrace d (reset_state d) vectors rows
  one_carried vectors rows is =
      traces (reset_state d) vectors rows
      (subst (λ (first : List Val). IsTrace c first vectors rows) (sym reset) is)

  each_carried : (runs : List (List (List Val))) (shown : List (List Row))
      → AllZip (IsTrace c (reset_state c)) runs shown → AllZip (IsTrace d (reset_state d)) runs shown
  each_carried [] [] are = tt
  each_carried [] (rows ∷ shown) are = absurd are
  each_carried (run ∷ runs) [] are = absurd are
  each_carried (run ∷ runs) (rows ∷ shown) are = (one_carried run rows are.0, each_carried runs shown are.1)

  text_carried : (bytes : List ℕ) (ended : Bool) (text : List ℕ) → IsTraceText c columns bytes ended text
      → IsTraceText d columns bytes ended text
  text_carried bytes ended text is =
      let said : stimulus (length c.inputs) bytes ended ≡ stimulus (length d.inputs) bytes ended =
      ap (λ (n : ℕ). stimulus n bytes ended) (sym inputs) in
      record {
        traces = is.traces;
        last = is.last;
        each = subst (λ (s : Stimulus). AllZip (IsTrace d (reset_state d)) (runs_of s.entries).ended is.traces) said
            (each_carried (runs_of (stimulus (length c.inputs) bytes ended).entries).ended is.traces is.each);
        is_last = subst (λ (s : Stimulus). IsTrace d (reset_state d) (runs_of s.entries).unended is.last) said
            (one_carried (runs_of (stimulus (length c.inputs) bytes ended).entries).unended is.last is.is_last);
        is = subst
            (λ (s : Stimulus). text ≡ flat_map (run_text columns) is.traces
            ++ (rows_text columns is.last ++ last_stop ended s.bad (runs_of s.entries).unended))
            said is.is;
      }

pub same_meaning_same_text : SameMeaningSameText
same_meaning_same_text c d same columns bytes ended =
    let reset = same_reset_state c d same in
    let traces = same_meaning_same_traces c d same in (
      ap (λ (n : ℕ). (stimulus n bytes ended).bad) same.inputs,
      λ text. (
        text_carried c d columns (λ first vectors rows. (traces first vectors rows).0) reset same.inputs
            bytes ended text,
        text_carried d c columns (λ first vectors rows. (traces first vectors rows).1) (sym reset) (sym same.inputs)
            bytes ended text,
      ),
    )

-- Where characters x of a stimulus become 0 or 1, each character of the trace text that is not x stays.

-- a character that is not x stays
abbrev Keeps : ℕ → ℕ → Type 0
Keeps before after = before ≢ 120 → after ≡ before

abbrev AllKeep : List ℕ → List ℕ → Type 0
AllKeep text other = AllZip Keeps text other

joined : (ts us vs ws : List ℕ) → AllKeep ts us → AllKeep vs ws → AllKeep (ts ++ vs) (us ++ ws)
joined [] [] vs ws front back = back
joined [] (d ∷ ds) vs ws front back = absurd front
joined (b ∷ bs) [] vs ws front back = absurd front
joined (b ∷ bs) (d ∷ ds) vs ws front back = (front.0, joined bs ds vs ws front.1 back)

itself : (ts : List ℕ) → AllKeep ts ts
itself [] = tt
itself (b ∷ bs) = ((λ _. refl), itself bs)

each_text : {A : Type 0} (R : A → A → Type 0) (f : A → List ℕ) → ((x y : A) → R x y → AllKeep (f x) (f y))
    → (xs ys : List A) → AllZip R xs ys → AllKeep (flat_map f xs) (flat_map f ys)
each_text R f one [] [] are = tt
each_text R f one [] (y ∷ ys) are = absurd are
each_text R f one (x ∷ xs) [] are = absurd are
each_text R f one (x ∷ xs) (y ∷ ys) are =
    joined (f x) (f y) (flat_map f xs) (flat_map f ys) (one x y are.0) (each_text R f one xs ys are.1)

character_stays : (v w : Val) → Stays v w → Keeps (character_of v) (character_of w)
character_stays Zero w stays = λ _. ap character_of stays
character_stays One w stays = λ _. ap character_of stays
character_stays X w stays = λ other. absurd (other refl)

values_stay : (vs ws : List Val) → AllZip Stays vs ws → AllKeep (values_text vs) (values_text ws)
values_stay [] [] are = tt
values_stay [] (w ∷ ws) are = absurd are
values_stay (v ∷ vs) [] are = absurd are
values_stay (v ∷ vs) (w ∷ ws) are = (character_stays v w are.0, values_stay vs ws are.1)

-- after a space
spaced : (ts us : List ℕ) → AllKeep ts us → AllKeep (codes " " ++ ts) (codes " " ++ us)
spaced ts us are = ((λ _. refl), are)

properties_stay : (columns : Columns) (row other : Row) → RowStays row other
    → AllKeep (properties_text columns row) (properties_text columns other)
properties_stay Plain row other stays = tt
properties_stay Properties row other stays =
    spaced _ _ (joined (values_text row.bad) (values_text other.bad) (codes " " ++ values_text row.constraints)
    (codes " " ++ values_text other.constraints) (values_stay row.bad other.bad stays.bad)
    (spaced (values_text row.constraints) (values_text other.constraints)
    (values_stay row.constraints other.constraints stays.constraints)))

-- values with more after them
then_values : (vs ws : List Val) (ts us : List ℕ) → AllZip Stays vs ws → AllKeep ts us
    → AllKeep (values_text vs ++ ts) (values_text ws ++ us)
then_values vs ws ts us are more = joined (values_text vs) (values_text ws) ts us (values_stay vs ws are) more

row_stays : (columns : Columns) (row other : Row) → RowStays row other
    → AllKeep (row_text columns row) (row_text columns other)
row_stays columns row other stays =
    let end = joined (properties_text columns row) (properties_text columns other) (codes "\n") (codes "\n")
    (properties_stay columns row other stays) (itself (codes "\n")) in
    let next = then_values row.next other.next _ _ stays.next end in
    let outputs = then_values row.outputs other.outputs _ _ stays.outputs (spaced _ _ next) in
    let inputs = then_values row.inputs other.inputs _ _ stays.inputs (spaced _ _ outputs) in
    then_values row.state other.state _ _ stays.state (spaced _ _ inputs)

rows_stay : (columns : Columns) (rows others : List Row) → AllZip RowStays rows others
    → AllKeep (rows_text columns rows) (rows_text columns others)
rows_stay columns rows others stay = each_text RowStays (row_text columns) (row_stays columns) rows others stay

runs_stay : (columns : Columns) (traces others : List (List Row)) → AllZip (AllZip RowStays) traces others
    → AllKeep (flat_map (run_text columns) traces) (flat_map (run_text columns) others)
runs_stay columns traces others stay =
    each_text (AllZip RowStays) (run_text columns)
    (λ rows other are. joined (rows_text columns rows) (rows_text columns other) (codes ".\n") (codes ".\n")
    (rows_stay columns rows other are) (itself (codes ".\n")))
    traces others stay

all_stay : (vs : List Val) → AllZip Stays vs vs
all_stay [] = tt
all_stay (v ∷ vs) = (stays_itself v, all_stay vs)

module _ (c : Circuit) (formed : IsWellFormed c) where
  trace_stays : (vectors known : List (List Val)) (rows others : List Row) → AllZip (AllZip Stays) vectors known
      → IsTrace c (reset_state c) vectors rows → IsTrace c (reset_state c) known others → AllZip RowStays rows others
  trace_stays vectors known rows others are is is_too =
      known_values_stay c (reset_state c) (reset_state c) vectors known rows others formed (all_stay (reset_state c))
      are
      is is_too

  traces_stay : (runs known : List (List (List Val))) (traces others : List (List Row))
      → AllZip (AllZip (AllZip Stays)) runs known → AllZip (IsTrace c (reset_state c)) runs traces
      → AllZip (IsTrace c (reset_state c)) known others → AllZip (AllZip RowStays) traces others
  traces_stay [] [] [] [] are is is_too = tt
  traces_stay [] [] [] (o ∷ os) are is is_too = absurd is_too
  traces_stay [] [] (t ∷ ts) others are is is_too = absurd is
  traces_stay [] (k ∷ ks) traces others are is is_too = absurd are
  traces_stay (r ∷ rs) [] traces others are is is_too = absurd are
  traces_stay (r ∷ rs) (k ∷ ks) [] others are is is_too = absurd is
  traces_stay (r ∷ rs) (k ∷ ks) (t ∷ ts) [] are is is_too = absurd is_too
  traces_stay (r ∷ rs) (k ∷ ks) (t ∷ ts) (o ∷ os) are is is_too =
      (trace_stays r k t o are.0 is.0 is_too.0, traces_stay rs ks ts os are.1 is.1 is_too.1)

stop_stays : (ended : Bool) (bad known_bad : Option ℕ) (run known_run : List (List Val)) → known_bad ≡ bad
    → AllZip (AllZip Stays) run known_run
    → AllKeep (last_stop ended bad run) (last_stop ended known_bad known_run)
stop_stays ended bad known_bad run known_run same are =
    let same_stop : last_stop ended known_bad known_run ≡ last_stop ended bad run =
    ap₂ (λ (b : Option ℕ) (n : ℕ). if ended && is_none b && nat_lt 0 n then codes ".\n" else []) same
    (AllZip-long (AllZip Stays) run known_run are) in
    subst (AllKeep (last_stop ended bad run)) (sym same_stop) (itself (last_stop ended bad run))

pub known_characters_stay : KnownCharactersStay
known_characters_stay c columns bytes known ended formed are =
    let said = stimulus (length c.inputs) bytes ended in
    let said_known = stimulus (length c.inputs) known ended in
    let same = stimulus_known (length c.inputs) bytes known ended are in
    let runs = runs_known said.entries said_known.entries same.entries in (
      same.bad,
      λ text other is is_too.
          let whole = joined (flat_map (run_text columns) is.traces) (flat_map (run_text columns) is_too.traces)
          (rows_text columns is.last ++ last_stop ended said.bad (runs_of said.entries).unended)
          (rows_text columns is_too.last ++ last_stop ended said_known.bad (runs_of said_known.entries).unended)
          (runs_stay columns is.traces is_too.traces
          (traces_stay c formed (runs_of said.entries).ended (runs_of said_known.entries).ended is.traces is_too.traces
          runs.each is.each is_too.each))
          (joined (rows_text columns is.last) (rows_text columns is_too.last)
          (last_stop ended said.bad (runs_of said.entries).unended)
          (last_stop ended said_known.bad (runs_of said_known.entries).unended)
          (rows_stay columns is.last is_too.last
          (trace_stays c formed (runs_of said.entries).unended (runs_of said_known.entries).unended is.last is_too.last
          runs.last is.is_last is_too.is_last))
          (stop_stays ended said.bad said_known.bad (runs_of said.entries).unended (runs_of said_known.entries).unended
          same.bad runs.last)) in
          subst (λ (t : List ℕ). AllKeep t other) (sym is.is)
          (subst (λ (t : List ℕ). AllKeep
          (flat_map (run_text columns) is.traces
          ++ (rows_text columns is.last ++ last_stop ended said.bad (runs_of said.entries).unended)) t)
          (sym is_too.is) whole),
    )
