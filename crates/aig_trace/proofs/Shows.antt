-- What the lanes show of steps that were taken side by side, where the circuit has no latches.
use Rattle.std.proofs.Common.{◌≡◌, ◌∙◌, ◌<◌, ◌∷◌, ◌++◌, ◌+◌, ℕ, List, [], ap, append-nil, arith, length, map, refl}
use Rattle.std.proofs.Common.{subst, sym, true, false, Bool, Some, None, append_assoc, get_or, take}
use Rattle.std.proofs.lemmas.List.{take_more}
use Rattle.aig_lanes.specs.declared.bench.Bench.{Bench}
use Rattle.aig_lanes.specs.declared.run.Run.{Run}
use Rattle.aig_lanes.specs.Parts.Benches.{HasSameRoom}
use Rattle.aig_circuit.specs.declared.circuit.Circuit.{Circuit}
use Rattle.aig_circuit.specs.declared.circuit.Latch.{Latch}
use Rattle.aig_circuit.specs.declared.value.Val.{Val}
use Rattle.aig_meaning.specs.Meaning.{IsRow, Row, literal_value}
use Rattle.aig_meaning.specs.Trace.{reset_state, reset_value}
use Rattle.aig_lanes.specs.declared.lane_columns.LaneColumns.{LaneColumns}
use Rattle.aig_lanes.specs.Parts.InputBits.{one_step}
use Rattle.aig_lanes.specs.Parts.LaneTexts.{KeepsRun, KeepsTrace, shown_text}
use Rattle.aig_lanes.specs.Parts.Sheets.{BytesText, text_in}
use Rattle.aig_step.specs.declared.trace.Columns.{Columns}
use Rattle.aig_step.specs.Stimulus.{Entry, Step, Stop, entry_in}
use Rattle.aig_trace.specs.Taken.{IsRowText, Took}
use Rattle.aig_step.specs.TraceText.{row_text, values_text}
use Rattle.aig_lanes.proofs.Benches.ShownTexts.{line_kept, no_row}
use Rattle.aig_lanes.proofs.Benches.Steps.{steps_room_stays}
use Rattle.aig_trace.specs.declared.side_by_side.SideBySide.{SideBySide}
use Rattle.aig_trace.specs.declared.waiting.Waiting.{Waiting}
use Rattle.aig_trace.specs.Parts.Tracing.{AcceptedLine, Did, IsSameTracer, LineTracing, MovedOn, TookLine}
use Rattle.aig_trace.specs.Parts.Tracing.{Tracing, point_of}
use Rattle.aig_trace.specs.Parts.Taking.{KeepsLanes, ShowsSteps}
use Rattle.aig_trace.specs.Parts.Waits.{Serves}
use Rattle.aig_trace.proofs.RunTexts.{goes_one}
use Rattle.aig_trace.proofs.Traced.{did_twice}

-- what is kept of a step of a run is the line of a row
pub kept_row : (c : Circuit) (run : Run) (lane : ℕ) (shown : LaneColumns) (sheet : List BytesText)
    → KeepsRun c run lane shown sheet → (step : ℕ) → step < length run.steps
    → IsRowText (shown_text shown step (values_text (get_or run.steps step [])) (text_in lane sheet))
kept_row c run lane shown sheet (rows, keeps) step below = record {
  columns = shown.columns;
  row = get_or rows step no_row;
  is = line_kept shown step (get_or run.steps step []) (text_in lane sheet) (get_or rows step no_row)
      (keeps.each step no_row (omega (arith, below, keeps.count)));
}

-- the row that a lane shows
pub record ShowsRow (c : Circuit) (vector : List Val) (shown : LaneColumns) (text : List ℕ) : Type 0 where
  pub row : Row
  pub is_row : IsRow c row
  pub from : row.state ≡ reset_state c
  pub inputs : row.inputs ≡ vector
  pub is : shown_text shown 0 (values_text vector) text ≡ row_text shown.columns row

shown_row : (c : Circuit) (vector : List Val) (shown : LaneColumns) (text : List ℕ) (rows : List Row)
    → KeepsTrace c (vector ∷ []) shown text rows → ShowsRow c vector shown text
shown_row c vector shown text [] keeps = absurd keeps.traced.1
shown_row c vector shown text (row ∷ rows) keeps =
    let follow = keeps.traced.1 in
    record {
      row = row;
      is_row = follow.2;
      from = follow.0;
      inputs = follow.1;
      is = line_kept shown 0 vector text row (keeps.each 0 row (omega arith));
    }

no_values : (values : List Val) → length values ≡ 0 → values ≡ []
no_values [] none = refl
no_values (v ∷ vs) none = absurd (omega (arith, none))

-- the line of a step was put, which a lane shows
pub did_step : {W : Type 0} {H : W → W → List ℕ → Type 0} (t u : Tracing) (a b : W) (vector : List Val)
    (shown : LaneColumns) (sheet : List BytesText) (lane : ℕ) → t.circuit.latches ≡ []
    → length t.state ≡ length t.circuit.latches
    → u ≡ record t { has_step = true } → shown.columns ≡ t.columns
    → KeepsRun t.circuit (one_step vector) lane shown sheet
    → Took H a b (shown_text shown 0 (values_text vector) (text_in lane sheet)) → Did H t u (Step vector ∷ []) a b
did_step {W} {H} t u a b vector shown sheet lane none each noted columns keeps put =
    let shows = shown_row t.circuit vector shown (text_in lane sheet) keeps.0 keeps.1 in
    let row = shows.row in
    let text : List ℕ = row_text t.columns row in
    let state : t.state ≡ [] = no_values t.state (each ∙ ap length none) in
    let next : row.next ≡ [] =
    shows.is_row.1.next_shown
    ∙ ap (λ (ls : List Latch). map (literal_value shows.is_row.0) (map (λ (l : Latch). l.next) ls)) none in
    let is : shown_text shown 0 (values_text vector) (text_in lane sheet) ≡ text =
    shows.is ∙ ap (λ (k : Columns). row_text k row) columns in
    record {
      same = record {
        circuit = ap (λ (x : Tracing). x.circuit) noted;
        columns = ap (λ (x : Tracing). x.columns) noted;
      };
      text = text;
      goes = (
        point_of u,
        text,
        [],
        record {
          row = row;
          is_row = shows.is_row;
          from =
              shows.from ∙ ap (λ (ls : List Latch). map (λ (l : Latch). reset_value l.reset) ls) none ∙ sym state;
          inputs = shows.inputs;
          leads =
              ap point_of noted
              ∙ ap (λ (s : List Val). record { state = s; has_step = true }) (state ∙ sym next);
          is = refl;
        },
        (refl, refl),
        sym (append-nil text),
      );
      put = subst (Took H a b) is put;
    }

-- one more of these was done
pub did_on : {W : Type 0} {H : W → W → List ℕ → Type 0} (t u v : Tracing) (es : List Entry) (k : ℕ) (x y z : W)
    → k < length es → Did H t u (take k es) x y → Did H u v (get_or es k Stop ∷ []) y z
    → Did H t v (take (k + 1) es) x z
did_on {W} {H} t u v es k x y z below first more =
    subst (λ (fs : List Entry). Did H t v fs x z) (sym (take_more es k Stop below))
    (did_twice t u v (take k es) (get_or es k Stop ∷ []) x y z first more)

-- a line was taken of which it is known what it says
pub taken : {W : Type 0} {H : W → W → List ℕ → Type 0} (t u : Tracing) (x y : W) (inputs : ℕ) (text : List ℕ)
    (e : Entry) (good : Bool)
    → inputs ≡ length t.circuit.inputs → entry_in inputs text ≡ Some e → IsSameTracer t u
    → (good ≡ true → TookLine H t u x y text) → (good ≡ false → entry_in (length t.circuit.inputs) text ≡ None)
    → Did H t u (e ∷ []) x y
taken {W} {H} t u x y inputs text e true count says same took bad =
    let line = took refl in
    let is : entry_in (length t.circuit.inputs) text ≡ Some e =
    ap (λ (n : ℕ). entry_in n text) (sym count) ∙ says in
    let one : line.entry ≡ e = cc (line.said, is) in
    subst (λ (f : Entry). Did H t u (f ∷ []) x y) one
    (record {
      same = same;
      text = line.line;
      goes = goes_one t.circuit t.columns (point_of t) (point_of u) line.entry line.line line.does;
      put = line.put;
    })
taken {W} {H} t u x y inputs text e false count says same took bad =
    let is : entry_in (length t.circuit.inputs) text ≡ Some e =
    ap (λ (n : ℕ). entry_in n text) (sym count) ∙ says in
    let none = bad refl in
    cc (is, none)

-- it serves as before
pub serves_still : (c d : Circuit) (k m : Columns) (a b : Bench) (v w : Waiting) → d ≡ c → m ≡ k → HasSameRoom a b
    → w.inputs ≡ v.inputs → Serves c k a v → Serves d m b w
serves_still c d k m a b v w circuit columns room inputs serves =
    subst (λ (e : Circuit). Serves e m b w) (sym circuit)
    (record {
      stateless = serves.stateless;
      room = steps_room_stays c a b room serves.room;
      columns_are = ap (λ (s : LaneColumns). s.columns) room.shown ∙ serves.columns_are ∙ sym columns;
      inputs = inputs ∙ serves.inputs;
    })

-- and shows as before
pub shows_still : (a b : SideBySide) → IsSameTracer a.tracer b.tracer → KeepsLanes a b → ShowsSteps a → ShowsSteps b
shows_still a b same keeps shows j low =
    rw (same.circuit, keeps.waiting, keeps.shown, keeps.sheet) (shows j (rw (← keeps.waiting) low))

-- a line was let in after those that wait
pub accepted_by : {W : Type 0} {H : W → W → List ℕ → Type 0} (t u : LineTracing W) (waiting : List Entry)
    (text : List ℕ) (e : Entry) → MovedOn H t u → entry_in (length t.tracing.circuit.inputs) text ≡ Some e
    → waiting ≡ u.waiting ++ e ∷ []
    → AcceptedLine H t (record u { waiting = waiting }) text
accepted_by t u waiting text e moved says waits = record {
  entry = e;
  said = says;
  done = moved.done;
  did = moved.did;
  left =
      ap (λ (es : List Entry). es ++ e ∷ []) moved.left
      ∙ append_assoc moved.done u.waiting (e ∷ [])
      ∙ ap (λ (es : List Entry). moved.done ++ es) (sym waits);
}
