-- What is kept of the steps of a run, and its text.
use Rattle.std.proofs.Common.{◌≡◌, ◌+◌, ◌*◌, ◌<◌, ◌≤◌, ◌++◌, ◌∷◌, ◌∙◌, ℕ, zero, suc, List, [], ap, ap₂, arith, codes}
use Rattle.std.proofs.Common.{get_or, inl, inr, length, map, refl, subst, sym, take}
use Rattle.std.proofs.lemmas.Bool.{cases_lt}
use Rattle.std.proofs.lemmas.List.{append-nil, append_assoc, drop_at, get_or_append_left, get_or_push, length-append}
use Rattle.std.proofs.lemmas.List.{length-map, length-take, length-take-le, map-append, take_all, take_at, take_more}
use Rattle.std.proofs.lemmas.List.Concat.{flat_map-append}
use Rattle.aig_circuit.specs.declared.circuit.Circuit.{Circuit}
use Rattle.aig_circuit.specs.declared.value.Val.{Val}
use Rattle.aig_meaning.specs.Meaning.{IsRow, Row, literal_value, next_literals}
use Rattle.aig_meaning.specs.Trace.{reset_state, state_after}
use Rattle.aig_meaning.proofs.Traces.{trace_goes_on}
use Rattle.aig_lanes.specs.declared.run.Run.{Run}
use Rattle.aig_lanes.specs.declared.lane_columns.LaneColumns.{LaneColumns}
use Rattle.aig_step.specs.declared.trace.Columns.{Columns}
use Rattle.aig_step.specs.declared.trace.Columns.TheVariants.{Plain, Properties}
use Rattle.aig_lanes.specs.Parts.Kept.{asked, step_literals}
use Rattle.aig_lanes.specs.Parts.LaneTexts.{IsTextOf, KeepsTrace, RowStands, ShowsRows, end_of, kept_text}
use Rattle.aig_lanes.specs.Parts.LaneTexts.{shown_properties, shown_text}
use Rattle.aig_lanes.specs.Parts.Sheets.{part}
use Rattle.aig_step.specs.Parts.Lines.{row_read}
use Rattle.aig_step.specs.TraceText.{character_of, properties_text, row_text, rows_text, values_text}
use Rattle.aig_step.proofs.Running.Machines.{state_after_last}
use Rattle.aig_lanes.proofs.Side.Sheets.{part_same, steps_within}

asked-map : {A B : Type 0} (f : A → B) (columns : Columns) (xs : List A)
    → map f (asked columns xs) ≡ asked columns (map f xs)
asked-map f Plain xs = refl
asked-map f Properties xs = refl

-- what stands in the midst of values that were put after a text
column : (text front : List ℕ) (put before values behind : List Val) (end from count : ℕ)
    → take end text ≡ front ++ values_text put → put ≡ before ++ (values ++ behind)
    → from ≡ length front + length before → count ≡ length values → part from count text ≡ values_text values
column text front put before values behind end from count is parted begins long =
    let whole : front ++ values_text put ≡ (front ++ values_text before) ++ (values_text values ++ values_text behind) =
    ap (λ (vs : List Val). front ++ values_text vs) parted ∙ simp (map-append, append_assoc) in
    let first : length (front ++ values_text before) ≡ from =
    length-append front (values_text before)
    ∙ ap (λ (n : ℕ). length front + n) (length-map before character_of) ∙ sym begins in
    let size : length (front ++ values_text put) ≤ end = omega (arith, length-take end text, ap length is) in
    let room : from + count ≤ end =
    omega (
      arith,
      size,
      ap length whole,
      first,
      length-append (front ++ values_text before) (values_text values ++ values_text behind),
      length-append (values_text values) (values_text behind),
      length-map values character_of,
    ) in
    part_same from count end text (front ++ values_text put) room
    (is ∙ sym (take_all end (front ++ values_text put) size))
    ∙ ap (part from count) whole
    ∙ ap (take count) (drop_at (front ++ values_text before) (values_text values ++ values_text behind) from first)
    ∙ take_at (values_text values) (values_text behind) count (length-map values character_of ∙ sym long)

-- a step was put after those before it
module _ (c : Circuit) (shown : LaneColumns) (shows : ShowsRows c shown) (step : ℕ) (before after : List ℕ)
    (a : ℕ → Val) (start given : List Val) (room : end_of shown step ≤ length before)
    (put : take (end_of shown (step + 1)) after ≡ take (end_of shown step) before
    ++ values_text (map (literal_value a) (step_literals shown.columns c)))
    (front : take (end_of shown step) after ≡ take (end_of shown step) before)
    (state : part (step * length shown.literals.items) (length shown.resets.items) before ≡ values_text start) where
  abbrev value : ℕ → Val
  value = literal_value a

  abbrev row : Row
  row = row_read c start given a

  -- the row stands there
  pub row_stands : RowStands shown step given after row
  row_stands =
      let o = map value c.outputs in
      let b = asked shown.columns row.bad in
      let k = asked shown.columns row.constraints in
      let n = map value (next_literals c) in
      let old = take (end_of shown step) before in
      let long : length old ≡ end_of shown step = length-take-le (end_of shown step) before room in
      let all : map value (step_literals shown.columns c) ≡ o ++ (b ++ (k ++ n)) =
      simp (map-append, asked-map, append_assoc) in
      let outputs : shown.outputs ≡ length o = shows.outputs ∙ sym (length-map c.outputs value) in
      let bad : shown.bad ≡ length b =
      shows.bad ∙ sym (length-map (asked shown.columns c.bad) value)
      ∙ ap length (asked-map value shown.columns c.bad) in
      let constraints : shown.constraints ≡ length k =
      shows.constraints ∙ sym (length-map (asked shown.columns c.constraints) value)
      ∙ ap length (asked-map value shown.columns c.constraints) in
      let next : length shown.resets.items ≡ length n = ap length shows.resets ∙ simp length-map in
      let end = end_of shown (step + 1) in
      let at = λ (first column_values behind : List Val). column after old
      (map value (step_literals shown.columns c)) first column_values behind end in
      record {
        inputs = refl;
        state =
            part_same (step * length shown.literals.items) (length shown.resets.items) (end_of shown step) after before
            (omega arith) front
            ∙ state;
        outputs = at [] o (b ++ (k ++ n)) (end_of shown step) shown.outputs put all (omega (arith, long)) outputs;
        bad = at o b (k ++ n) (end_of shown step + shown.outputs) shown.bad put all (omega (arith, long, outputs)) bad;
        constraints = at (o ++ b) k n (end_of shown step + shown.outputs + shown.bad) shown.constraints put
            (all ∙ simp append_assoc) (omega (arith, long, outputs, bad, length-append o b)) constraints;
        next = at (o ++ (b ++ k)) n [] ((step + 1) * length shown.literals.items) (length shown.resets.items) put
            (all ∙ simp (append_assoc, append-nil))
            (omega (
              arith,
              long,
              outputs,
              bad,
              constraints,
              shown.counted,
              length-append o (b ++ k),
              length-append b k,
            )) next;
      }

-- a row stays where what is before its end stays
row_stays : (shown : LaneColumns) (t end : ℕ) (given : List Val) (before after : List ℕ) (row : Row)
    → end_of shown (t + 1) ≤ end → take end after ≡ take end before → RowStands shown t given before row
    → RowStands shown t given after row
row_stays shown t end given before after row within same stood =
    let widths = shown.counted in
    let stays = λ (from count : ℕ) (room : from + count ≤ end). part_same from count end after before room same in
    record {
      inputs = stood.inputs;
      state = stays _ _ (omega arith) ∙ stood.state;
      outputs = stays _ _ (omega arith) ∙ stood.outputs;
      bad = stays _ _ (omega arith) ∙ stood.bad;
      constraints = stays _ _ (omega arith) ∙ stood.constraints;
      next = stays _ _ (omega arith) ∙ stood.next;
    }

-- and what is kept
pub keeps_still : (c : Circuit) (vectors : List (List Val)) (shown : LaneColumns) (end : ℕ) (before after : List ℕ)
    (rows : List Row) → end_of shown (length vectors) ≤ end → take end after ≡ take end before
    → KeepsTrace c vectors shown before rows → KeepsTrace c vectors shown after rows
keeps_still c vectors shown end before after rows within same keeps = record {
  traced = keeps.traced;
  count = keeps.count;
  each = λ t d below.
      let less : t < length vectors = omega (arith, below, keeps.count) in
      row_stays shown t end (get_or vectors t []) before after (get_or rows t d)
      (omega (arith, within, steps_within t (length vectors) (length shown.literals.items) less)) same
      (keeps.each t d below);
  last =
      part_same (length vectors * length shown.literals.items) (length shown.resets.items) end after before within same
      ∙ keeps.last;
}

-- one more step is kept
pub keeps_more : (c : Circuit) (vectors : List (List Val)) (shown : LaneColumns) (text : List ℕ) (rows : List Row)
    (n : ℕ) (row : Row) → KeepsTrace c vectors shown text rows → IsRow c row
    → row.state ≡ state_after (reset_state c) rows → length vectors ≡ n → RowStands shown n row.inputs text row
    → KeepsTrace c (vectors ++ row.inputs ∷ []) shown text (rows ++ row ∷ [])
keeps_more c vectors shown text rows n row keeps is from size stands =
    let long : length (vectors ++ row.inputs ∷ []) ≡ n + 1 =
    length-append vectors (row.inputs ∷ []) ∙ omega (arith, size) in
    let more : length (rows ++ row ∷ []) ≡ n + 1 =
    length-append rows (row ∷ []) ∙ omega (arith, size, keeps.count) in
    record {
      traced = trace_goes_on c (reset_state c) vectors rows row keeps.traced from is;
      count = more ∙ sym long;
      each = λ t d below. elim (cases_lt t n) [
        | inl less ↦
            rw (
              get_or_append_left vectors (row.inputs ∷ []) [] t (omega (arith, less, size)),
              get_or_append_left rows (row ∷ []) d t (omega (arith, less, size, keeps.count)),
            )
            (keeps.each t d (omega (arith, less, size, keeps.count)))
        | inr later ↦
            let here : n ≡ t = omega (arith, later, below, more) in
            rw (
              get_or_push vectors row.inputs [] t (size ∙ here),
              get_or_push rows row d t (keeps.count ∙ size ∙ here),
            )
            (subst (λ (k : ℕ). RowStands shown k row.inputs text row) here stands)
      ];
      last = rw (long, state_after_last (reset_state c) rows row) stands.next;
    }

properties_kept : (columns : Columns) (from bad constraints : ℕ) (text : List ℕ) (row : Row)
    → part from bad text ≡ values_text (asked columns row.bad)
    → part (from + bad) constraints text ≡ values_text (asked columns row.constraints)
    → shown_properties columns from bad constraints text ≡ properties_text columns row
properties_kept Plain from bad constraints text row one other = refl
properties_kept Properties from bad constraints text row one other =
    ap₂ (λ (b c : List ℕ). codes " " ++ (b ++ (codes " " ++ c))) one other

-- the line of a step by what is kept of it
pub line_kept : (shown : LaneColumns) (t : ℕ) (given : List Val) (text : List ℕ) (row : Row)
    → RowStands shown t given text row → shown_text shown t (values_text given) text ≡ row_text shown.columns row
line_kept shown t given text row stands =
    let properties = properties_kept shown.columns (end_of shown t + shown.outputs) shown.bad shown.constraints text row
    stands.bad stands.constraints in
    rw (stands.state, stands.outputs, stands.next, properties, ← stands.inputs) refl

abbrev pub no_row : Row
no_row = record { state = []; inputs = []; outputs = []; next = []; bad = []; constraints = [] }

module _ (c : Circuit) (run : Run) (shown : LaneColumns) (text : List ℕ) (rows : List Row)
    (keeps : KeepsTrace c run.steps shown text rows) where
  texts_kept : (n : ℕ) → n ≤ length rows
      → kept_text shown run n text ≡ rows_text shown.columns (take n rows)
  texts_kept zero within = refl
  texts_kept (suc n) within =
      let less : n < length rows = omega (arith, within) in
      let next : n + 1 ≡ suc n = omega arith in
      let row = get_or rows n no_row in
      ap₂ (λ (front line : List ℕ). front ++ line) (texts_kept n (omega (arith, within)))
      (line_kept shown n (get_or run.steps n []) text row (keeps.each n no_row less)
      ∙ sym (append-nil (row_text shown.columns row)))
      ∙ sym (flat_map-append (row_text shown.columns) (take n rows) (row ∷ []))
      ∙ ap (rows_text shown.columns)
      (sym (take_more rows n no_row less) ∙ ap (λ (k : ℕ). take k rows) next)

  -- the lines of a run by what is kept of it
  pub text_of_kept : IsTextOf shown.columns c run (kept_text shown run (length run.steps) text)
  text_of_kept = record {
    rows = rows;
    traced = keeps.traced;
    is =
        ap (λ (n : ℕ). kept_text shown run n text) (sym keeps.count)
        ∙ texts_kept (length rows) (omega arith)
        ∙ ap (rows_text shown.columns) (take_all (length rows) rows (omega arith));
  }
