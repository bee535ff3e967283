-- The front of a stimulus and the texts of its runs, group by group.
use Rattle.std.proofs.Common.{◌≡◌, ◌++◌, ◌∷◌, ◌∙◌, ◌+◌, ◌<◌, ◌≤◌, ℕ, List, [], ap, append-nil, codes, map, refl, sym}
use Rattle.std.proofs.Common.{subst, false, true, zero, suc, length, get_or, take, arith}
use Rattle.std.specs.List.{AllZip, flat_map}
use Rattle.std.proofs.lemmas.List.Concat.{flat_map-append}
use Rattle.std.proofs.lemmas.List.{take_all, take_more}
use Rattle.aig_circuit.specs.declared.circuit.Circuit.{Circuit}
use Rattle.aig_circuit.specs.declared.value.Val.{Val}
use Rattle.aig_meaning.specs.Meaning.{MeansTheSame, Row}
use Rattle.aig_meaning.specs.Trace.{Follow}
use Rattle.aig_step.specs.declared.trace.Columns.{Columns}
use Rattle.aig_step.specs.Stimulus.{Entry, Step, Stop}
use Rattle.aig_trace.specs.Taken.{Took}
use Rattle.aig_step.specs.TraceText.{row_text, rows_text}
use Rattle.aig_trace.proofs.Taken.{took_twice}
use Rattle.aig_step.proofs.Running.Machines.{same_reset_state}
use Rattle.aig_lanes.specs.declared.run.Run.{Run}
use Rattle.aig_lanes.specs.Parts.LaneTexts.{IsTextOf, KeepsRun, kept_text}
use Rattle.aig_lanes.specs.declared.lane_columns.LaneColumns.{LaneColumns}
use Rattle.aig_lanes.specs.Parts.Sheets.{BytesText, text_in}
use Rattle.aig_lanes.proofs.Benches.ShownTexts.{text_of_kept}
use Rattle.aig_trace.specs.Parts.Progress.{Does, Goes, Point, begin_of}
use Rattle.aig_trace.proofs.RunTexts.{goes_on, goes_over}
use Rattle.aig_batch.specs.Parts.RunsRead.{AppendedRuns, entries_of_group, entries_of_groups, entries_of_run}
use Rattle.aig_batch.specs.Parts.RunsRead.{kept_texts, no_run, text_of_group}

-- a trace is a way
goes_rows : (c : Circuit) (columns : Columns) (p : Point) (vectors : List (List Val)) (rows : List Row)
    → Follow c p.state vectors rows → (q : Point) × Goes c columns p (map Step vectors) q (rows_text columns rows)
goes_rows c columns p [] [] follow = (p, (refl, refl))
goes_rows c columns p [] (row ∷ rows) follow = absurd follow
goes_rows c columns p (vector ∷ vectors) [] follow = absurd follow
goes_rows c columns p (vector ∷ vectors) (row ∷ rows) follow =
    let next : Point = record { state = row.next; has_step = true } in
    let later = goes_rows c columns next vectors rows follow.3 in (
      later.0,
      (
        next,
        row_text columns row,
        rows_text columns rows,
        record {
          row = row;
          is_row = follow.2;
          from = follow.0;
          inputs = follow.1;
          leads = refl;
          is = refl;
        },
        later.1,
        refl,
      ),
    )

-- the way of a run and its end
goes_run : (c : Circuit) (columns : Columns) (run : Run) (text : List ℕ) → IsTextOf columns c run text
    → Goes c columns (begin_of c) (entries_of_run run) (begin_of c) (text ++ codes ".\n")
goes_run c columns run text is =
    let way = goes_rows c columns (begin_of c) run.steps is.rows is.traced.1 in
    goes_on c columns (begin_of c) way.0 (begin_of c) (map Step run.steps) Stop text (codes ".\n")
    (subst (λ (t : List ℕ). Goes c columns (begin_of c) (map Step run.steps) way.0 t) (sym is.is) way.1)
    (refl, refl)

-- and of runs
goes_runs : (c : Circuit) (columns : Columns) (runs : List Run) (texts : List (List ℕ))
    → AllZip (IsTextOf columns c) runs texts
    → Goes c columns (begin_of c) (flat_map entries_of_run runs) (begin_of c)
    (flat_map (λ (text : List ℕ). text ++ codes ".\n") texts)
goes_runs c columns [] [] each = (refl, refl)
goes_runs c columns [] (text ∷ texts) each = absurd each
goes_runs c columns (run ∷ runs) [] each = absurd each
goes_runs c columns (run ∷ runs) (text ∷ texts) each =
    goes_over c columns (begin_of c) (begin_of c) (begin_of c) (entries_of_run run) (flat_map entries_of_run runs)
    (text ++ codes ".\n") (flat_map (λ (t : List ℕ). t ++ codes ".\n") texts) (goes_run c columns run text each.0)
    (goes_runs c columns runs texts each.1)

-- the text for one more group
pub put_more : {W : Type 0} {H : W → W → List ℕ → Type 0} (c : Circuit) (columns : Columns) (groups : List (List Run))
    (runs : List Run) (texts : List (List ℕ)) (before between after : W)
    → AppendedRuns H c columns groups before between → AllZip (IsTextOf columns c) runs texts
    → Took H between after (text_of_group texts) → AppendedRuns H c columns (groups ++ runs ∷ []) before after
put_more c columns groups runs texts before between after so_far each put = record {
  text = so_far.text ++ text_of_group texts;
  put = took_twice before between after so_far.text (text_of_group texts) so_far.put put;
  goes =
      let entries : entries_of_groups (groups ++ runs ∷ []) ≡ entries_of_groups groups ++ entries_of_group runs =
      flat_map-append entries_of_group groups (runs ∷ [])
      ∙ ap (λ (es : List Entry). entries_of_groups groups ++ es) (append-nil (entries_of_group runs)) in
      subst (λ (es : List Entry). Goes c columns (begin_of c) es (begin_of c) (so_far.text ++ text_of_group texts))
      (sym entries)
      (goes_over c columns (begin_of c) (begin_of c) (begin_of c) (entries_of_groups groups) (entries_of_group runs)
      so_far.text (text_of_group texts) so_far.goes (goes_runs c columns runs texts each));
}

-- circuits that mean the same begin in the same state
begin_same : (c d : Circuit) → MeansTheSame c d → begin_of d ≡ begin_of c
begin_same c d means =
    ap (λ (s : List Val). record { state = s; has_step = false }) (same_reset_state c d means)

-- and the same lines do the same
does_same : (c d : Circuit) (columns : Columns) (p q : Point) (e : Entry) (t : List ℕ) → MeansTheSame c d
    → Does d columns p e q t → Does c columns p e q t
does_same c d columns p q (Step given) t means does = record {
  row = does.row;
  is_row = (means.rows does.row).1 does.is_row;
  from = does.from;
  inputs = does.inputs;
  leads = does.leads;
  is = does.is;
}
does_same c d columns p q Stop t means does = (does.0 ∙ begin_same c d means, does.1)

goes_same : (c d : Circuit) (columns : Columns) (p q : Point) (es : List Entry) (text : List ℕ) → MeansTheSame c d
    → Goes d columns p es q text → Goes c columns p es q text
goes_same c d columns p q [] text means goes = goes
goes_same c d columns p q (e ∷ es) text means (between, front, rest, does, goes, joined) = (
  between,
  front,
  rest,
  does_same c d columns p between e front means does,
  goes_same c d columns between q es rest means goes,
  joined,
)

-- a run from the reset state of either
pub goes_too : (c d : Circuit) (columns : Columns) (q : Point) (es : List Entry) (text : List ℕ) → MeansTheSame c d
    → Goes d columns (begin_of d) es q text → Goes c columns (begin_of c) es q text
goes_too c d columns q es text means goes =
    goes_same c d columns (begin_of c) q es text means
    (subst (λ (p : Point). Goes d columns p es q text) (begin_same c d means) goes)

-- and one that ends there
pub front_goes : (c d : Circuit) (columns : Columns) (es : List Entry) (text : List ℕ) → MeansTheSame c d
    → Goes d columns (begin_of d) es (begin_of d) text → Goes c columns (begin_of c) es (begin_of c) text
front_goes c d columns es text means goes =
    subst (λ (q : Point). Goes c columns (begin_of c) es q text) (begin_same c d means)
    (goes_too c d columns (begin_of d) es text means goes)

-- The texts of a group of runs, step by step.

-- one more run and one more text
zip_more : (R : Run → List ℕ → Type 0) (runs : List Run) (texts : List (List ℕ)) (run : Run) (text : List ℕ)
    → AllZip R runs texts → R run text → AllZip R (runs ++ run ∷ []) (texts ++ text ∷ [])
zip_more R [] [] run text each more = (more, tt)
zip_more R [] (t ∷ ts) run text each more = absurd each
zip_more R (r ∷ rs) [] run text each more = absurd each
zip_more R (r ∷ rs) (t ∷ ts) run text each more = (each.0, zip_more R rs ts run text each.1 more)

pub one_behind : (n : ℕ) → suc n ≡ n + 1
one_behind n = omega arith

module _ (c : Circuit) (runs : List Run) (shown : LaneColumns) (sheet : List BytesText)
    (each : (j : ℕ) (d : Run) → j < length runs → KeepsRun c (get_or runs j d) j shown sheet) where
  zipped_first : (n : ℕ) → n ≤ length runs
      → AllZip (IsTextOf shown.columns c) (take n runs) (kept_texts shown runs n sheet)
  zipped_first zero within = tt
  zipped_first (suc n) within =
      let less : n < length runs = omega (arith, within) in
      let run = get_or runs n no_run in
      subst (λ (rs : List Run). AllZip (IsTextOf shown.columns c) rs (kept_texts shown runs (suc n) sheet))
      (sym (ap (λ (k : ℕ). take k runs) (one_behind n) ∙ take_more runs n no_run less))
      (zip_more (IsTextOf shown.columns c) (take n runs) (kept_texts shown runs n sheet) run
      (kept_text shown run (length run.steps) (text_in n sheet)) (zipped_first n (omega (arith, within)))
      (text_of_kept c run shown (text_in n sheet) (each n no_run less).0 (each n no_run less).1))

  -- what is kept of runs is their texts
  pub zipped_texts : AllZip (IsTextOf shown.columns c) runs (kept_texts shown runs (length runs) sheet)
  zipped_texts =
      subst (λ (rs : List Run). AllZip (IsTextOf shown.columns c) rs (kept_texts shown runs (length runs) sheet))
      (take_all (length runs) runs (omega arith)) (zipped_first (length runs) (omega arith))
