-- A dump gives its trace text back.
use Rattle.std.proofs.Common.{◌≡◌, ◌≢◌, ◌+◌, ◌∙◌, ◌||◌, ◌&&◌, ◌⊎◌, ◌∷◌, ◌++◌, ◌^◌, ◌≤◌, ℕ, suc, List, [], Bool, true}
use Rattle.std.proofs.Common.{false, None, is_none, map, nat_lt}
use Rattle.std.proofs.Common.{Option, Some, codes, filter, length, refl, sym, ap, ap₂, subst, arith, inl, inr}
use Rattle.std.proofs.Common.{append_assoc, append-nil, take, drop, eq-eqb, lt-ltb, take_all, flat_map}
use Rattle.std.proofs.lemmas.Bool.{cases_Bool}
use Rattle.std.proofs.lemmas.Grind.{flat_map-append}
use Rattle.std.proofs.lemmas.List.{length-map}
use Rattle.std.proofs.lemmas.List.Sums.{fold-append}
use Rattle.std.specs.List.{AllByRecursion, AllZip}
use Rattle.aig_circuit.specs.declared.circuit.Circuit.{Circuit}
use Rattle.aig_circuit.specs.declared.circuit.Latch.{Latch}
use Rattle.aig_circuit.specs.declared.value.Val.{Val}
use Rattle.aig_circuit.specs.declared.value.Val.TheVariants.{Zero, One, X}
use Rattle.aig_circuit.specs.Wellformed.{IsWellFormed, IsWithinLimits}
use Rattle.aig_circuit.proofs.Checking.{joined}
use Rattle.aig_lines.specs.Lines.{HasNoLineFeed}
use Rattle.aig_meaning.specs.Meaning.{IsRow, Row}
use Rattle.aig_meaning.specs.Trace.{Follow, IsTrace, reset_state, reset_value}
use Rattle.aig_meaning.proofs.Traces.{inputs_length, next_length, one_row, same_row, state_length}
use Rattle.aig_step.specs.declared.trace.Columns.{Columns}
use Rattle.aig_step.specs.declared.trace.Columns.TheVariants.{Plain, Properties}
use Rattle.aig_step.specs.Outcome.{first_bad_line}
use Rattle.aig_step.specs.Stimulus.{runs_of, stimulus, value_of}
use Rattle.aig_step.specs.TraceText.{IsTraceText, character_of, last_stop, row_text, rows_text, run_text, values_text}
use Rattle.aig_wave.specs.declared.signal.Signal.{Signal}
use Rattle.aig_wave.specs.Frames.{Frame, closing_line, frame, frames, frames_of, is_stop, is_trace_line, next_state}
use Rattle.aig_wave.specs.Frames.{most_frames, trace_lines}
use Rattle.aig_wave.specs.Laws.{BegunDumpsLoseNothing, DumpsLoseNothing, DumpsTellTheirEnds, ShowsSteps}
use Rattle.aig_wave.specs.Layout.{Layout, layout_of}
use Rattle.aig_wave.specs.Parts.Cuts.{Cut, cut_byte, cut_more}
use Rattle.aig_wave.specs.Places.{kinds}
use Rattle.aig_wave.specs.Wave.{dump, wave_text}
use Rattle.aig_wave.proofs.Columns.{closing_is_no_step, closing_shown, closing_state, has_columns, row_line, row_shown}
use Rattle.aig_wave.proofs.Columns.{same_columns}
use Rattle.aig_wave.proofs.Counting.{no_line_is_left_out}
use Rattle.aig_wave.proofs.Growing.{cut_line, too_long_to_stop, whole_lines_are}
use Rattle.aig_wave.proofs.Decoding.{AreFrames, AreSame, GoOnAlike, GoesOn, ShowSame, longer_dump, same_dump}
use Rattle.aig_wave.proofs.Distinct.{codes_are_distinct}

-- the rows of a run that begins in this state
abbrev AreRows : Circuit → List Val → List Row → Type 0
AreRows c state [] = length state ≡ length c.latches
AreRows c state (row ∷ rows) = (row.state ≡ state) × IsRow c row × AreRows c row.next rows

abbrev AreRuns : Circuit → List (List Row) → Type 0
AreRuns c runs = AllByRecursion (AreRows c (reset_state c)) runs

-- the lines of a run
abbrev run_lines : List Row → List (List ℕ)
run_lines [] = codes "." ∷ []
run_lines (row ∷ rows) = row_line row ∷ run_lines rows

abbrev ended : List ℕ → List ℕ
ended l = l ++ 10 ∷ []

row_is : (row : Row) → row_text Properties row ≡ ended (row_line row)
row_is row = simp append_assoc

rows_are : (rows : List Row) → rows_text Properties rows ≡ flat_map ended (map row_line rows)
rows_are [] = refl
rows_are (row ∷ rows) = ap₂ (λ (a b : List ℕ). a ++ b) (row_is row) (rows_are rows)

run_is : (rows : List Row) → run_text Properties rows ≡ flat_map ended (run_lines rows)
run_is [] = refl
run_is (row ∷ rows) =
    append_assoc (row_text Properties row) (rows_text Properties rows) (codes ".\n")
    ∙ ap₂ (λ (a b : List ℕ). a ++ b) (row_is row) (run_is rows)

runs_are : (runs : List (List Row)) → flat_map (run_text Properties) runs ≡ flat_map ended (flat_map run_lines runs)
runs_are [] = refl
runs_are (rows ∷ runs) =
    ap₂ (λ (a b : List ℕ). a ++ b) (run_is rows) (runs_are runs)
    ∙ sym (flat_map-append ended (run_lines rows) (flat_map run_lines runs))

-- runs that are ended, and the rows of one that is not
abbrev parts_text : List (List Row) → List Row → List ℕ
parts_text runs last = flat_map (run_text Properties) runs ++ rows_text Properties last

abbrev parts_lines : List (List Row) → List Row → List (List ℕ)
parts_lines runs last = flat_map run_lines runs ++ map row_line last

parts_are : (runs : List (List Row)) (last : List Row)
    → parts_text runs last ≡ flat_map ended (parts_lines runs last)
parts_are runs last =
    ap₂ (λ (a b : List ℕ). a ++ b) (runs_are runs) (rows_are last)
    ∙ sym (flat_map-append ended (flat_map run_lines runs) (map row_line last))

-- the text of a trace is that of runs that are ended, and of rows
record HasParts (c : Circuit) (text : List ℕ) : Type 0 where
  runs : List (List Row)
  last : List Row
  are : AreRuns c runs
  is_last : AreRows c (reset_state c) last
  is : text ≡ parts_text runs last

-- the text of a trace without a bad line is that of runs, each of which is ended
record HasRuns (c : Circuit) (text : List ℕ) : Type 0 where
  runs : List (List Row)
  are : AreRuns c runs
  is : text ≡ flat_map (run_text Properties) runs

rows_of : (c : Circuit) (state : List Val) (vectors : List (List Val)) (rows : List Row)
    → length state ≡ length c.latches → Follow c state vectors rows → AreRows c state rows
rows_of c state [] [] long follow = long
rows_of c state [] (row ∷ rows) long follow = absurd follow
rows_of c state (v ∷ vs) [] long follow = absurd follow
rows_of c state (v ∷ vs) (row ∷ rows) long follow =
    (follow.0, follow.2, rows_of c row.next vs rows (next_length c row follow.2) follow.3)

module _ (c : Circuit) where
  reset_long : length (reset_state c) ≡ length c.latches
  reset_long = length-map c.latches (λ (l : Latch). reset_value l.reset)

  runs_ended : (given : List (List (List Val))) (runs : List (List Row))
      → AllZip (IsTrace c (reset_state c)) given runs → AreRuns c runs
  runs_ended [] [] each = tt
  runs_ended [] (rows ∷ runs) each = absurd each
  runs_ended (vs ∷ given) [] each = absurd each
  runs_ended (vs ∷ given) (rows ∷ runs) each =
      (rows_of c (reset_state c) vs rows reset_long each.0.1, runs_ended given runs each.1)

  last_run : (bad : Option ℕ) (vectors : List (List Val)) (rows : List Row) → bad ≡ None
      → Follow c (reset_state c) vectors rows
      → HasRuns c (rows_text Properties rows ++ last_stop true bad vectors)
  last_run bad [] [] none follow = rw none (record { runs = []; are = tt; is = refl })
  last_run bad [] (row ∷ rows) none follow = absurd follow
  last_run bad (v ∷ vs) [] none follow = absurd follow
  last_run bad (v ∷ vs) (row ∷ rows) none follow =
      rw (none, lt-ltb 0 (suc (length vs)) (omega arith)) (record {
        runs = (row ∷ rows) ∷ [];
        are = (rows_of c (reset_state c) (v ∷ vs) (row ∷ rows) reset_long follow, tt);
        is = sym (append-nil (run_text Properties (row ∷ rows)));
      })

  has_runs : (bytes text : List ℕ) → IsTraceText c Properties bytes true text → first_bad_line c bytes true ≡ None
      → HasRuns c text
  has_runs bytes text p none =
      let said = stimulus (length c.inputs) bytes true in
      let runs = runs_of said.entries in
      let last = last_run said.bad runs.unended p.last none p.is_last.1 in
      record {
        runs = p.traces ++ last.runs;
        are = joined _ p.traces last.runs (runs_ended runs.ended p.traces p.each) last.are;
        is = p.is ∙ ap (λ (t : List ℕ). flat_map (run_text Properties) p.traces ++ t) last.is
            ∙ sym (flat_map-append (run_text Properties) p.traces last.runs);
      }

  stop_is : (ended : Bool) (bad : Option ℕ) (run : List (List Val))
      → (last_stop ended bad run ≡ codes ".\n") ⊎ (last_stop ended bad run ≡ [])
  stop_is ended bad run =
      elim (cases_Bool (ended && is_none bad && nat_lt 0 (length run))) [
        | inl so ↦ inl (rw so refl)
        | inr not_so ↦ inr (rw not_so refl)
      ]

  has_parts : (bytes text : List ℕ) (ended : Bool) → IsTraceText c Properties bytes ended text → HasParts c text
  has_parts bytes text ended p =
      let said = stimulus (length c.inputs) bytes ended in
      let runs = runs_of said.entries in
      let before = runs_ended runs.ended p.traces p.each in
      let last = rows_of c (reset_state c) runs.unended p.last reset_long p.is_last.1 in
      let front = flat_map (run_text Properties) p.traces in
      let rows = rows_text Properties p.last in
      elim (stop_is ended said.bad runs.unended) [
        | inl stops ↦ record {
          runs = p.traces ++ p.last ∷ [];
          last = [];
          are = joined _ p.traces (p.last ∷ []) before (last, tt);
          is_last = reset_long;
          is = p.is ∙ ap (λ (t : List ℕ). front ++ (rows ++ t)) stops
              ∙ ap (λ (t : List ℕ). front ++ t) (sym (append-nil (rows ++ codes ".\n")))
              ∙ sym (flat_map-append (run_text Properties) p.traces (p.last ∷ [])) ∙ sym (append-nil _);
        }
        | inr goes ↦ record {
          runs = p.traces;
          last = p.last;
          are = before;
          is_last = last;
          is = p.is ∙ ap (λ (t : List ℕ). front ++ (rows ++ t)) goes
              ∙ ap (λ (t : List ℕ). front ++ t) (append-nil rows);
        }
      ]

no_feed_at : (v : Val) → character_of v ≢ 10
no_feed_at Zero = λ e. omega (arith, e)
no_feed_at One = λ e. omega (arith, e)
no_feed_at X = λ e. omega (arith, e)

no_feed : (vs : List Val) (rest : List ℕ) → HasNoLineFeed rest → HasNoLineFeed (values_text vs ++ rest)
no_feed [] rest none = none
no_feed (v ∷ vs) rest none = (no_feed_at v, no_feed vs rest none)

spaced : (vs : List Val) (rest : List ℕ) → HasNoLineFeed rest → HasNoLineFeed (values_text vs ++ 32 ∷ rest)
spaced vs rest none = no_feed vs (32 ∷ rest) ((λ e. omega (arith, e)), none)

no_feed_in : (row : Row) → HasNoLineFeed (row_line row)
no_feed_in row =
    let last : HasNoLineFeed (values_text row.constraints) =
    subst HasNoLineFeed (append-nil (values_text row.constraints)) (no_feed row.constraints [] tt) in
    spaced row.state _ (spaced row.inputs _ (spaced row.outputs _ (spaced row.next _ (spaced row.bad _ last))))

-- the line of a step has no line feed but its last character
pub row_without_feed : (columns : Columns) (row : Row)
    → (line : List ℕ) × HasNoLineFeed line × (row_text columns row ≡ ended line)
row_without_feed Properties row = (row_line row, no_feed_in row, row_is row)
row_without_feed Plain row =
    let last : HasNoLineFeed (values_text row.next) =
    subst HasNoLineFeed (append-nil (values_text row.next)) (no_feed row.next [] tt) in
    (_, spaced row.state _ (spaced row.inputs _ (spaced row.outputs _ last)), simp append_assoc)

-- lines that come back of their text, and of which each is a frame
cut_lines : (before ls : List (List ℕ)) → AllByRecursion HasNoLineFeed ls
    → cut_more (record { lines = before; begun = [] }) (flat_map ended ls)
    ≡ record { lines = before ++ ls; begun = [] }
cut_lines before [] none = ap (λ (t : List (List ℕ)). record { lines = t; begun = [] }) (sym (append-nil before))
cut_lines before (l ∷ ls) none =
    let start : Cut = record { lines = before; begun = [] } in
    fold-append cut_byte start (ended l) (flat_map ended ls)
    ∙ ap (λ (d : Cut). cut_more d (flat_map ended ls)) (cut_line start l none.0)
    ∙ cut_lines (before ++ l ∷ []) ls none.1
    ∙ ap (λ (t : List (List ℕ)). record { lines = t; begun = [] }) (append_assoc before (l ∷ []) ls)

all_kept : (p : List ℕ → Bool) (ls : List (List ℕ)) → AllByRecursion (λ l. p l ≡ true) ls → filter p ls ≡ ls
all_kept p [] all = refl
all_kept p (l ∷ ls) all = rw all.0 (ap (λ (t : List (List ℕ)). l ∷ t) (all_kept p ls all.1))

value_back : (v : Val) → value_of (character_of v) ≡ Some v
value_back Zero = refl
value_back One = refl
value_back X = refl

same_values : (vs us : List Val) → values_text vs ≡ values_text us → vs ≡ us
same_values [] [] e = refl
same_values [] (u ∷ us) e = cc
same_values (v ∷ vs) [] e = cc
same_values (v ∷ vs) (u ∷ us) e =
    let heads : character_of v ≡ character_of u = cc in
    let tails : values_text vs ≡ values_text us = cc in
    let some : Some v ≡ Some u = sym (value_back v) ∙ ap value_of heads ∙ value_back u in
    let first : v ≡ u = cc in
    ap₂ (λ (h : Val) (t : List Val). h ∷ t) first (same_values vs us tails)

module _ (c : Circuit) where
  abbrev w : Layout
  w = layout_of c

  IsLine : List ℕ → Type 0
  IsLine l = HasNoLineFeed l × (is_trace_line w l ≡ true)

  no_stop : (row : Row) → IsRow c row → is_stop (row_line row) ≡ false
  no_stop row is = too_long_to_stop (row_line row) (omega (arith, (has_columns c row is).long))

  row_is_line : (row : Row) → IsRow c row → is_trace_line w (row_line row) ≡ true
  row_is_line row is =
      ap₂ (λ (a b : Bool). a || b) (no_stop row is)
      (eq-eqb (length (row_line row)) w.width (has_columns c row is).long)

  next_is : (row : Row) → IsRow c row → next_state w (row_line row) ≡ values_text row.next
  next_is row is =
      let long = length-map (reset_state c) character_of ∙ reset_long c in
      ap (λ (n : ℕ). take n (drop w.next (row_line row))) long ∙ (has_columns c row is).next

  run_has_lines : (state : List Val) (rows : List Row) → AreRows c state rows
      → AllByRecursion IsLine (run_lines rows)
  unfolding IsLine
  run_has_lines state [] are = ((((λ e. omega (arith, e)), tt), refl), tt)
  run_has_lines state (row ∷ rows) are =
      ((no_feed_in row, row_is_line row are.1), run_has_lines row.next rows are.2)

  rows_have_lines : (state : List Val) (rows : List Row) → AreRows c state rows
      → AllByRecursion IsLine (map row_line rows)
  unfolding IsLine
  rows_have_lines state [] are = tt
  rows_have_lines state (row ∷ rows) are =
      ((no_feed_in row, row_is_line row are.1), rows_have_lines row.next rows are.2)

  runs_have_lines : (runs : List (List Row)) → AreRuns c runs → AllByRecursion IsLine (flat_map run_lines runs)
  runs_have_lines [] are = tt
  runs_have_lines (rows ∷ runs) are =
      joined IsLine (run_lines rows) (flat_map run_lines runs) (run_has_lines (reset_state c) rows are.0)
      (runs_have_lines runs are.1)

  each_line : (P : List ℕ → Type 0) → ((l : List ℕ) → IsLine l → P l) → (ls : List (List ℕ))
      → AllByRecursion IsLine ls → AllByRecursion P ls
  each_line P from [] are = tt
  each_line P from (l ∷ ls) are = (from l are.0, each_line P from ls are.1)

  lines_back : (runs : List (List Row)) (last : List Row) → AreRuns c runs → AreRows c (reset_state c) last
      → trace_lines w (parts_text runs last) ≡ parts_lines runs last
  unfolding IsLine
  lines_back runs last are is_last =
      let ls = parts_lines runs last in
      let lines = joined IsLine (flat_map run_lines runs) (map row_line last) (runs_have_lines runs are)
      (rows_have_lines (reset_state c) last is_last) in
      ap (trace_lines w) (parts_are runs last)
      ∙ ap (filter (is_trace_line w)) (whole_lines_are (flat_map ended ls)
      ∙ ap (λ (d : Cut). d.lines) (cut_lines [] ls (each_line HasNoLineFeed (λ l is. is.0) ls lines)))
      ∙ all_kept (is_trace_line w) ls (each_line (λ l. is_trace_line w l ≡ true) (λ l is. is.1) ls lines)

  -- the frames of a run, and of runs
  abbrev run_frames : ℕ → List Val → List Row → List Frame → List Frame
  run_frames run state [] more = frame run (closing_line w (values_text state)) ∷ more
  run_frames run state (row ∷ rows) more = frame run (row_line row) ∷ run_frames run row.next rows more

  abbrev row_frames : ℕ → List Row → List Frame
  row_frames run rows = map (λ row. frame run (row_line row)) rows

  abbrev all_frames : ℕ → List (List Row) → List Row → List Frame
  all_frames run [] last = row_frames run last
  all_frames run (rows ∷ runs) last = run_frames run (reset_state c) rows (all_frames (run + 1) runs last)

  frames_are : (run : ℕ) (state : List Val) (rows : List Row) (behind : List (List ℕ)) → AreRows c state rows
      → frames w run (values_text state) (run_lines rows ++ behind)
      ≡ run_frames run state rows (frames w (run + 1) w.resets behind)
  frames_are run state [] behind are = refl
  frames_are run state (row ∷ rows) behind are =
      rw (no_stop row are.1) (ap (λ (fs : List Frame). frame run (row_line row) ∷ fs)
      (ap (λ (t : List ℕ). frames w run t (run_lines rows ++ behind)) (next_is row are.1)
      ∙ frames_are run row.next rows behind are.2))

  rows_framed : (run : ℕ) (state : List Val) (rows : List Row) → AreRows c state rows
      → frames w run (values_text state) (map row_line rows) ≡ row_frames run rows
  rows_framed run state [] are = refl
  rows_framed run state (row ∷ rows) are =
      rw (no_stop row are.1) (ap (λ (fs : List Frame). frame run (row_line row) ∷ fs)
      (ap (λ (t : List ℕ). frames w run t (map row_line rows)) (next_is row are.1)
      ∙ rows_framed run row.next rows are.2))

  all_are : (run : ℕ) (runs : List (List Row)) (last : List Row) → AreRuns c runs → AreRows c (reset_state c) last
      → frames w run w.resets (parts_lines runs last) ≡ all_frames run runs last
  all_are run [] last are is_last = rows_framed run (reset_state c) last is_last
  all_are run (rows ∷ runs) last are is_last =
      ap (frames w run w.resets) (append_assoc (run_lines rows) (flat_map run_lines runs) (map row_line last))
      ∙ frames_are run (reset_state c) rows (parts_lines runs last) are.0
      ∙ ap (run_frames run (reset_state c) rows) (all_are (run + 1) runs last are.1 is_last)

  run_frames_fit : (time before run : ℕ) (state : List Val) (rows : List Row) (more : List Frame)
      → GoesOn time before run → AreRows c state rows
      → ((t : ℕ) → t ≢ 0 → AreFrames w t run more) → AreFrames w time before (run_frames run state rows more)
  run_frames_fit time before run state [] more goes are then =
      (closing_shown c state are run, goes, then (time + 1) (λ e. omega (arith, e)))
  run_frames_fit time before run state (row ∷ rows) more goes are then = (
    row_shown c row run (has_columns c row are.1),
    goes,
    run_frames_fit (time + 1) run run row.next rows more (inl refl) are.2 then,
  )

  row_frames_fit : (time before run : ℕ) (state : List Val) (rows : List Row) → GoesOn time before run
      → AreRows c state rows → AreFrames w time before (row_frames run rows)
  row_frames_fit time before run state [] goes are = tt
  row_frames_fit time before run state (row ∷ rows) goes are = (
    row_shown c row run (has_columns c row are.1),
    goes,
    row_frames_fit (time + 1) run run row.next rows (inl refl) are.2,
  )

  all_frames_fit : (time before run : ℕ) (runs : List (List Row)) (last : List Row) → GoesOn time before run
      → AreRuns c runs → AreRows c (reset_state c) last → AreFrames w time before (all_frames run runs last)
  all_frames_fit time before run [] last goes are is_last =
      row_frames_fit time before run (reset_state c) last goes is_last
  all_frames_fit time before run (rows ∷ runs) last goes are is_last =
      run_frames_fit time before run (reset_state c) rows (all_frames (run + 1) runs last) goes are.0
      (λ t later. all_frames_fit t run (run + 1) runs last (inr (later, refl)) are.1 is_last)

  -- frames that are the same begin with one run
  abbrev first_run : ℕ → List Frame → ℕ
  first_run none [] = none
  first_run none (f ∷ fs) = f.run

  first_same : (none : ℕ) (fs gs : List Frame) → AllZip (AreSame w) fs gs → first_run none fs ≡ first_run none gs
  first_same none [] [] same = refl
  first_same none [] (g ∷ gs) same = absurd same
  first_same none (f ∷ fs) [] same = absurd same
  first_same none (f ∷ fs) (g ∷ gs) same = same.0.0

  first_of_run : (none run : ℕ) (state : List Val) (rows : List Row) (more : List Frame)
      → first_run none (run_frames run state rows more) ≡ run
  first_of_run none run state [] more = refl
  first_of_run none run state (row ∷ rows) more = refl

  first_of_rows : (run : ℕ) (rows : List Row) → first_run run (row_frames run rows) ≡ run
  first_of_rows run [] = refl
  first_of_rows run (row ∷ rows) = refl

  first_of_all : (run : ℕ) (runs : List (List Row)) (last : List Row)
      → first_run run (all_frames run runs last) ≡ run
  first_of_all run [] last = first_of_rows run last
  first_of_all run (rows ∷ runs) last =
      first_of_run run run (reset_state c) rows (all_frames (run + 1) runs last)

  -- what frames of runs tell
  record IsSameRun (state other : List Val) (rows others : List Row) (more behind : List Frame) : Type 0 where
    states : state ≡ other
    rows_same : rows ≡ others
    rest : AllZip (AreSame w) more behind

  shown_turned : (ss : List Signal) (line other : List ℕ) → ShowSame ss line other → ShowSame ss other line
  shown_turned [] line other same = tt
  shown_turned (s ∷ ss) line other same = (sym same.0, shown_turned ss line other same.1)

  row_told : (row other : Row) → IsRow c row → IsRow c other
      → AreSame w (frame 0 (row_line row)) (frame 0 (row_line other)) → row.next ≡ other.next → row ≡ other
  row_told row other is is_too same next =
      let a = has_columns c row is in
      let b = has_columns c other is_too in
      let columns = same_columns c (row_line row) (row_line other) kinds same.1 in
      same_row row other
      (same_values row.state other.state (sym a.state ∙ columns.1.0 ∙ b.state))
      (same_values row.inputs other.inputs (sym a.inputs ∙ columns.0 ∙ b.inputs))
      (same_values row.outputs other.outputs (sym a.outputs ∙ columns.1.1.0 ∙ b.outputs))
      next
      (same_values row.bad other.bad (sym a.bad ∙ columns.1.1.1.0 ∙ b.bad))
      (same_values row.constraints other.constraints (sym a.constraints ∙ columns.1.1.1.1.0 ∙ b.constraints))

  run_told : (run : ℕ) (state other : List Val) (rows others : List Row) (more behind : List Frame)
      → AreRows c state rows → AreRows c other others
      → first_run (run + 1) more ≡ run + 1 → first_run (run + 1) behind ≡ run + 1
      → AllZip (AreSame w) (run_frames run state rows more) (run_frames run other others behind)
      → IsSameRun state other rows others more behind
  run_told run state other [] [] more behind are are_too later later_too same =
      let columns = same_columns c _ _ kinds same.0.1 in
      record {
        states = same_values state other
            (sym (closing_state c state are) ∙ columns.1.0 ∙ closing_state c other are_too);
        rows_same = refl;
        rest = same.1;
      }
  run_told run state other [] (row ∷ rows) more behind are are_too later later_too same =
      absurd (omega (
        arith,
        later,
        first_same (run + 1) _ _ same.1,
        first_of_run (run + 1) run row.next rows behind,
      ))
  run_told run state other (row ∷ rows) [] more behind are are_too later later_too same =
      absurd (omega (
        arith,
        later_too,
        first_same (run + 1) _ _ same.1,
        first_of_run (run + 1) run row.next rows more,
      ))
  run_told run state other (row ∷ rows) (q ∷ qs) more behind are are_too later later_too same =
      let rest = run_told run row.next q.next rows qs more behind are.2 are_too.2 later later_too same.1 in
      let one = row_told row q are.1 are_too.1 (refl, same.0.1) rest.states in
      record {
        states = sym are.0 ∙ ap (λ (r : Row). r.state) one ∙ are_too.0;
        rows_same = ap₂ (λ (r : Row) (rs : List Row). r ∷ rs) one rest.rows_same;
        rest = rest.rest;
      }

  -- the same the other way round
  same_turned : (fs gs : List Frame) → AllZip (AreSame w) fs gs → AllZip (AreSame w) gs fs
  same_turned [] [] same = tt
  same_turned [] (g ∷ gs) same = absurd same
  same_turned (f ∷ fs) [] same = absurd same
  same_turned (f ∷ fs) (g ∷ gs) same = (
    (sym same.0.0, shown_turned w.signals f.line g.line same.0.1),
    same_turned fs gs same.1,
  )

  -- rows are no run that is ended, and neither is nothing
  abbrev AreNoRun : List Row → Type 0
  AreNoRun last = ShowsSteps c ⊎ (last ≡ [])

  rows_are_no_run : (run : ℕ) (first state : List Val) (last rows : List Row) (more : List Frame) → AreNoRun last
      → AreRows c first last → AreRows c state rows
      → AllZip (AreSame w) (row_frames run last) (run_frames run state rows more) → ⊥
  rows_are_no_run run first state [] [] more no_run are are_too same = same
  rows_are_no_run run first state [] (q ∷ qs) more no_run are are_too same = same
  rows_are_no_run run first state (row ∷ rows) [] more (inl shows) are are_too same =
      closing_is_no_step c state are_too row shows are.1 (shown_turned w.signals _ _ same.0.1)
  rows_are_no_run run first state (row ∷ rows) (q ∷ qs) more (inl shows) are are_too same =
      rows_are_no_run run row.next q.next rows qs more (inl shows) are.2 are_too.2 same.1
  rows_are_no_run run first state (row ∷ rows) qs more (inr none) are are_too same =
      absurd (omega (arith, ap length none))

  -- lines that show the same are those of the same rows, since the first state and the inputs tell the rest
  same_step : IsWellFormed c → (row other : Row) → row.state ≡ other.state → row.inputs ≡ other.inputs
      → IsRow c row → IsRow c other → row ≡ other
  same_step formed row other of_state of_inputs is is_too =
      let one = one_row c other.state other.inputs formed (state_length c other is_too)
      (inputs_length c other is_too) in
      one.4 row of_state of_inputs is ∙ sym (one.4 other refl refl is_too)

  rows_told : IsWellFormed c → (run : ℕ) (state : List Val) (rows others : List Row) → AreRows c state rows
      → AreRows c state others → AllZip (AreSame w) (row_frames run rows) (row_frames run others) → rows ≡ others
  rows_told formed run state [] [] are are_too same = refl
  rows_told formed run state [] (q ∷ qs) are are_too same = absurd same
  rows_told formed run state (row ∷ rows) [] are are_too same = absurd same
  rows_told formed run state (row ∷ rows) (q ∷ qs) are are_too same =
      let a = has_columns c row are.1 in
      let b = has_columns c q are_too.1 in
      let columns = same_columns c (row_line row) (row_line q) kinds same.0.1 in
      let inputs = same_values row.inputs q.inputs (sym a.inputs ∙ columns.0 ∙ b.inputs) in
      let one = same_step formed row q (are.0 ∙ sym are_too.0) inputs are.1 are_too.1 in
      ap₂ (λ (r : Row) (rs : List Row). r ∷ rs) one
      (rows_told formed run row.next rows qs are.2
      (subst (λ (r : Row). AreRows c r.next qs) (sym one) are_too.2) same.1)

  -- rows are told where there are none, or the circuit is well formed
  abbrev AreTold : List Row → List Row → Type 0
  AreTold last other = (IsWellFormed c × ShowsSteps c) ⊎ ((last ≡ []) × (other ≡ []))

  left_no_run : (last other : List Row) → AreTold last other → AreNoRun last
  left_no_run last other (inl so) = inl so.1
  left_no_run last other (inr none) = inr none.0

  right_no_run : (last other : List Row) → AreTold last other → AreNoRun other
  right_no_run last other (inl so) = inl so.1
  right_no_run last other (inr none) = inr none.1

  last_told : (run : ℕ) (last other : List Row) → AreTold last other → AreRows c (reset_state c) last
      → AreRows c (reset_state c) other → AllZip (AreSame w) (row_frames run last) (row_frames run other)
      → last ≡ other
  last_told run last other (inl so) are are_too same =
      rows_told so.0 run (reset_state c) last other are are_too same
  last_told run last other (inr none) are are_too same = none.0 ∙ sym none.1

  parts_told : (run : ℕ) (runs others : List (List Row)) (last other : List Row) → AreTold last other
      → AreRuns c runs → AreRuns c others → AreRows c (reset_state c) last → AreRows c (reset_state c) other
      → AllZip (AreSame w) (all_frames run runs last) (all_frames run others other)
      → (runs ≡ others) × (last ≡ other)
  parts_told run [] [] last other told are are_too is_last is_other same =
      (refl, last_told run last other told is_last is_other same)
  parts_told run [] (rows ∷ runs) last other told are are_too is_last is_other same =
      absurd (rows_are_no_run run (reset_state c) (reset_state c) last rows (all_frames (run + 1) runs other)
      (left_no_run last other told) is_last are_too.0 same)
  parts_told run (rows ∷ runs) [] last other told are are_too is_last is_other same =
      absurd (rows_are_no_run run (reset_state c) (reset_state c) other rows (all_frames (run + 1) runs last)
      (right_no_run last other told) is_other are.0 (same_turned _ _ same))
  parts_told run (rows ∷ runs) (qs ∷ others) last other told are are_too is_last is_other same =
      let more = all_frames (run + 1) runs last in
      let more_too = all_frames (run + 1) others other in
      let one = run_told run (reset_state c) (reset_state c) rows qs more more_too are.0 are_too.0
      (first_of_all (run + 1) runs last) (first_of_all (run + 1) others other) same in
      let rest = parts_told (run + 1) runs others last other told are.1 are_too.1 is_last is_other one.rest in
      (ap₂ (λ (rs : List Row) (rest : List (List Row)). rs ∷ rest) one.rows_same rest.0, rest.1)

  frames_back : (bytes text : List ℕ) (ended : Bool) (has : HasParts c text) → length bytes ≤ 2 ^ 62
      → IsTraceText c Properties bytes ended text → frames_of w text ≡ all_frames 0 has.runs has.last
  frames_back bytes text ended has short p =
      ap (frames w 0 w.resets)
      (take_all most_frames (trace_lines w text) (no_line_is_left_out c bytes text ended short p)
      ∙ ap (trace_lines w) has.is ∙ lines_back has.runs has.last has.are has.is_last)
      ∙ all_are 0 has.runs has.last has.are has.is_last

  -- two trace texts with one dump
  texts_told : (bytes more text other : List ℕ) (ended more_ended done : Bool) (a : HasParts c text)
      (b : HasParts c other) → IsWithinLimits c → AreTold a.last b.last → length bytes ≤ 2 ^ 62
      → length more ≤ 2 ^ 62 → IsTraceText c Properties bytes ended text
      → IsTraceText c Properties more more_ended other → wave_text c text done ≡ wave_text c other done
      → text ≡ other
  texts_told bytes more text other ended more_ended done a b limits told short short_too p q e =
      let fs = all_frames 0 a.runs a.last in
      let gs = all_frames 0 b.runs b.last in
      let dumps : dump w fs done ≡ dump w gs done =
      ap (λ (hs : List Frame). dump w hs done) (sym (frames_back bytes text ended a short p)) ∙ e
      ∙ ap (λ (hs : List Frame). dump w hs done) (frames_back more other more_ended b short_too q) in
      let same = same_dump w done fs gs (codes_are_distinct c limits)
      (all_frames_fit 0 0 0 a.runs a.last (inl refl) a.are a.is_last)
      (all_frames_fit 0 0 0 b.runs b.last (inl refl) b.are b.is_last) dumps in
      let parts = parts_told 0 a.runs b.runs a.last b.last told a.are b.are a.is_last b.is_last same in
      a.is ∙ ap₂ parts_text parts.0 parts.1 ∙ sym b.is

  -- A dump with its end is none without: after the end of a run the next one begins.
  run_goes_on : (time before run : ℕ) (state other : List Val) (rows others : List Row) (more behind : List Frame)
      → ShowsSteps c → AreRows c state rows → AreRows c other others
      → GoOnAlike w time before (run_frames run state rows more) (run_frames run other others behind)
      → (later : ℕ) × (later ≢ 0) × GoOnAlike w later run more behind
  run_goes_on time before run state other [] [] more behind shows are are_too alike =
      (time + 1, (λ e. omega (arith, e)), alike.1)
  run_goes_on time before run state other [] (q ∷ qs) more behind shows are are_too alike =
      absurd (closing_is_no_step c state are q shows are_too.1 alike.0.1)
  run_goes_on time before run state other (row ∷ rows) [] more behind shows are are_too alike =
      absurd (closing_is_no_step c other are_too row shows are.1 (shown_turned w.signals _ _ alike.0.1))
  run_goes_on time before run state other (row ∷ rows) (q ∷ qs) more behind shows are are_too alike =
      run_goes_on (time + 1) run run row.next q.next rows qs more behind shows are.2 are_too.2 alike.1

  no_rows_go_on : (time before run : ℕ) (state first : List Val) (rows last : List Row) (more : List Frame)
      → ShowsSteps c → AreRows c state rows → AreRows c first last
      → GoOnAlike w time before (run_frames run state rows more) (row_frames run last) → ⊥
  no_rows_go_on time before run state first [] [] more shows are are_too alike = alike
  no_rows_go_on time before run state first [] (q ∷ qs) more shows are are_too alike =
      closing_is_no_step c state are q shows are_too.1 alike.0.1
  no_rows_go_on time before run state first (row ∷ rows) [] more shows are are_too alike = alike
  no_rows_go_on time before run state first (row ∷ rows) (q ∷ qs) more shows are are_too alike =
      no_rows_go_on (time + 1) run run row.next q.next rows qs more shows are.2 are_too.2 alike.1

  goes_on_first : (time before none : ℕ) (gs : List Frame) → GoOnAlike w time before [] gs
      → (time ≢ 0) × (first_run none gs ≡ before)
  goes_on_first time before none [] alike = absurd alike
  goes_on_first time before none (g ∷ gs) alike = alike

  no_end : (time before run : ℕ) (runs others : List (List Row)) (last : List Row) → ShowsSteps c
      → (time ≢ 0 → run ≡ before + 1) → AreRuns c runs → AreRuns c others → AreRows c (reset_state c) last
      → GoOnAlike w time before (all_frames run runs []) (all_frames run others last) → ⊥
  no_end time before run [] others last shows next are are_too is_last alike =
      let first = goes_on_first time before run (all_frames run others last) alike in
      omega (arith, next first.0, first.1, first_of_all run others last)
  no_end time before run (rows ∷ runs) [] last shows next are are_too is_last alike =
      no_rows_go_on time before run (reset_state c) (reset_state c) rows last (all_frames (run + 1) runs []) shows are.0
      is_last alike
  no_end time before run (rows ∷ runs) (qs ∷ others) last shows next are are_too is_last alike =
      let rest = run_goes_on time before run (reset_state c) (reset_state c) rows qs (all_frames (run + 1) runs [])
      (all_frames (run + 1) others last) shows are.0 are_too.0 alike in
      no_end rest.0 run (run + 1) runs others last shows (λ _. refl) are.1 are_too.1 is_last rest.2

-- where no line is bad and all came, no rows are left
abbrev ended_parts : (c : Circuit) (text : List ℕ) → HasRuns c text → (a : HasParts c text) × (a.last ≡ [])
ended_parts c text has = (
  record {
    runs = has.runs;
    last = [];
    are = has.are;
    is_last = reset_long c;
    is = has.is ∙ sym (append-nil (flat_map (run_text Properties) has.runs));
  },
  refl,
)

pub dumps_lose_nothing : DumpsLoseNothing
dumps_lose_nothing c limits bytes more text other short short_too p none q none_too e =
    let a = ended_parts c text (has_runs c bytes text p none) in
    let b = ended_parts c other (has_runs c more other q none_too) in
    texts_told c bytes more text other true true true a.0 b.0 limits (inr (a.1, b.1)) short short_too p q e

pub begun_dumps_lose_nothing : BegunDumpsLoseNothing
begun_dumps_lose_nothing c formed shows bytes more text other ended more_ended short short_too p q e =
    texts_told c bytes more text other ended more_ended false (has_parts c bytes text ended p)
    (has_parts c more other more_ended q) formed.limits (inl (formed, shows)) short short_too p q e

pub dumps_tell_their_ends : DumpsTellTheirEnds
dumps_tell_their_ends c limits shows bytes more text other more_ended short short_too p none q = λ e. (
    let w = layout_of c in
    let has = has_runs c bytes text p none in
    let a = ended_parts c text has in
    let b = has_parts c more other more_ended q in
    let fs = all_frames c 0 has.runs [] in
    let gs = all_frames c 0 b.runs b.last in
    let of_text : frames_of w text ≡ fs =
    frames_back c bytes text true a.0 short p in
    let dumps : dump w fs true ≡ dump w gs false =
    ap (λ (hs : List Frame). dump w hs true) (sym of_text) ∙ e
    ∙ ap (λ (hs : List Frame). dump w hs false) (frames_back c more other more_ended b short_too q) in
    let alike = longer_dump w fs gs (codes_are_distinct c limits)
    (all_frames_fit c 0 0 0 has.runs [] (inl refl) has.are (reset_long c))
    (all_frames_fit c 0 0 0 b.runs b.last (inl refl) b.are b.is_last) dumps in
    no_end c 0 0 0 has.runs b.runs b.last shows (λ later. absurd (later refl)) has.are b.are b.is_last alike)
