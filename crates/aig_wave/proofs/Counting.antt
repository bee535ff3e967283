-- How many lines a trace text has.
use Rattle.std.proofs.Common.{◌≡◌, ◌∙◌, ◌+◌, ◌≤◌, ◌^◌, ◌==◌, ◌&&◌, ◌||◌, ◌∷◌, ◌++◌, if◌then◌else◌, ℕ, suc, List}
use Rattle.std.proofs.Common.{[], Bool, Option, None, Some, ap, arith, codes, filter, inl, inr, is_none}
use Rattle.std.proofs.Common.{length, nat_lt, length-append, refl}
use Rattle.std.proofs.lemmas.Bool.{cases_Bool}
use Rattle.std.proofs.lemmas.List.Sums.{count_by-le-length, length-filter}
use Rattle.std.specs.List.{AllZip, flat_map}
use Rattle.aig_circuit.specs.declared.circuit.Circuit.{Circuit}
use Rattle.aig_circuit.specs.declared.value.Val.{Val}
use Rattle.aig_circuit.specs.declared.value.Val.TheVariants.{Zero, One, X}
use Rattle.aig_lines.specs.Texts.{judged_lines}
use Rattle.aig_meaning.specs.Meaning.{Row}
use Rattle.aig_meaning.specs.Trace.{Follow, IsTrace, reset_state}
use Rattle.aig_lines.specs.Lines.{Line, begun_by, lines_of}
use Rattle.aig_step.specs.declared.trace.Columns.TheVariants.{Properties}
use Rattle.aig_step.specs.Stimulus.{Entry, Step, Stimulus, Stop, before_rest, entry_of, lines_say, runs_of, stimulus}
use Rattle.aig_step.specs.Stimulus.{with_step}
use Rattle.aig_step.specs.TraceText.{last_stop, row_text, rows_text, run_text, values_text}
use Rattle.aig_wave.specs.Frames.{is_trace_line, most_frames, whole_lines}
use Rattle.aig_wave.specs.Laws.{NoLineIsLeftOut}
use Rattle.aig_wave.specs.Layout.{layout_of}
use Rattle.aig_wave.specs.Parts.Cuts.{Cut, cut_more}
use Rattle.aig_wave.proofs.Growing.{whole_lines_are, at_feed, at_other}

-- how many line feeds there are
abbrev feeds : List ℕ → ℕ
feeds [] = 0
feeds (b ∷ bs) = (if b == 10 then 1 else 0) + feeds bs

feeds_in_both : (xs ys : List ℕ) → feeds (xs ++ ys) ≡ feeds xs + feeds ys
feeds_in_both [] ys = omega arith
feeds_in_both (x ∷ xs) ys = omega (arith, feeds_in_both xs ys)

feeds_of_lines : (c : Cut) (bs : List ℕ) → length (cut_more c bs).lines ≡ length c.lines + feeds bs
feeds_of_lines c [] = omega arith
feeds_of_lines c (b ∷ bs) =
    elim (cases_Bool (b == 10)) [
      | inl feed ↦
          (ap (λ (d : Cut). length (cut_more d bs).lines) (at_feed c b feed)
          ∙ feeds_of_lines (record { lines = c.lines ++ c.begun ∷ []; begun = [] }) bs
          ∙ rw feed (omega (arith, length-append c.lines (c.begun ∷ []))))
      | inr other ↦
          (ap (λ (d : Cut). length (cut_more d bs).lines) (at_other c b other)
          ∙ feeds_of_lines (record { lines = c.lines; begun = c.begun ++ b ∷ [] }) bs ∙ rw other (omega arith))
    ]

-- the line feeds of a trace
no_feeds : (vs : List Val) → feeds (values_text vs) ≡ 0
no_feeds [] = refl
no_feeds (Zero ∷ vs) = omega (arith, no_feeds vs)
no_feeds (One ∷ vs) = omega (arith, no_feeds vs)
no_feeds (X ∷ vs) = omega (arith, no_feeds vs)

row_feeds : (row : Row) → feeds (row_text Properties row) ≡ 1
row_feeds row = simp (feeds_in_both, no_feeds) (omega arith)

rows_feeds : (rows : List Row) → feeds (rows_text Properties rows) ≡ length rows
rows_feeds [] = refl
rows_feeds (row ∷ rows) =
    omega (arith, feeds_in_both (row_text Properties row) (rows_text Properties rows), row_feeds row, rows_feeds rows)

run_feeds : (rows : List Row) → feeds (run_text Properties rows) ≡ length rows + 1
run_feeds rows = omega (arith, feeds_in_both (rows_text Properties rows) (codes ".\n"), rows_feeds rows)

stop_feeds : (ended : Bool) (bad : Option ℕ) (run : List (List Val)) → feeds (last_stop ended bad run) ≤ 1
stop_feeds ended bad run =
    elim (cases_Bool (ended && is_none bad && nat_lt 0 (length run))) [
      | inl so ↦ rw so (omega arith)
      | inr not_so ↦ rw not_so (omega arith)
    ]

-- each entry of a stimulus is a line of the trace
abbrev entries_in : List (List (List Val)) → ℕ
entries_in [] = 0
entries_in (run ∷ runs) = length run + 1 + entries_in runs

one_entry : (vector : List Val) (runs : List (List (List Val))) (unended : List (List Val))
    → entries_in (with_step vector runs unended).ended + length (with_step vector runs unended).unended
    ≡ entries_in runs + length unended + 1
one_entry vector [] unended = omega arith
one_entry vector (run ∷ runs) unended = omega arith

entries_of : (es : List Entry) → entries_in (runs_of es).ended + length (runs_of es).unended ≡ length es
entries_of [] = refl
entries_of (Step vector ∷ es) =
    omega (arith, one_entry vector (runs_of es).ended (runs_of es).unended, entries_of es)
entries_of (Stop ∷ es) = omega (arith, entries_of es)

follow_length : (c : Circuit) (state : List Val) (vectors : List (List Val)) (rows : List Row)
    → Follow c state vectors rows → length rows ≡ length vectors
follow_length c state [] [] follow = refl
follow_length c state [] (row ∷ rows) follow = absurd follow
follow_length c state (v ∷ vs) [] follow = absurd follow
follow_length c state (v ∷ vs) (row ∷ rows) follow = ap suc (follow_length c row.next vs rows follow.3)

runs_feeds : (c : Circuit) (given : List (List (List Val))) (runs : List (List Row))
    → AllZip (IsTrace c (reset_state c)) given runs → feeds (flat_map (run_text Properties) runs) ≡ entries_in given
runs_feeds c [] [] each = refl
runs_feeds c [] (rows ∷ runs) each = absurd each
runs_feeds c (vs ∷ given) [] each = absurd each
runs_feeds c (vs ∷ given) (rows ∷ runs) each =
    omega (
      arith,
      feeds_in_both (run_text Properties rows) (flat_map (run_text Properties) runs),
      run_feeds rows,
      follow_length c (reset_state c) vs rows each.0.1,
      runs_feeds c given runs each.1,
    )

-- a line of a stimulus is an entry at most, and has a byte at least
entry_at : (entry : Option Entry) (number n : ℕ) (rest : Stimulus) → length rest.entries ≤ n
    → length (before_rest number entry rest).entries ≤ suc n
entry_at None number n rest few = omega arith
entry_at (Some entry) number n rest few = omega arith

few_entries : (inputs number : ℕ) (ls : List Line) → length (lines_say inputs number ls).entries ≤ length ls
few_entries inputs number [] = omega arith
few_entries inputs number (l ∷ ls) =
    entry_at (entry_of inputs l) number (length ls) (lines_say inputs (suc number) ls)
    (few_entries inputs (suc number) ls)

begun_few : (b : ℕ) (ls : List Line) → length (begun_by b ls) ≤ suc (length ls)
begun_few b [] = omega arith
begun_few b (l ∷ ls) = omega arith

few_lines : (bs : List ℕ) → length (lines_of bs) ≤ length bs
unfolding lines_of
few_lines [] = omega arith
few_lines (b ∷ bs) =
    elim (cases_Bool (b == 10)) [
      | inl feed ↦ rw feed (omega (arith, few_lines bs))
      | inr other ↦ rw other (omega (arith, few_lines bs, begun_few b (lines_of bs)))
    ]

few_kept : {X : Type 0} (p : X → Bool) (xs : List X) → length (filter p xs) ≤ length xs
few_kept p xs = omega (arith, length-filter p xs, count_by-le-length p xs)

many_frames : 2 ^ 62 + 1 ≤ most_frames
unfolding most_frames
many_frames = omega arith

pub no_line_is_left_out : NoLineIsLeftOut
no_line_is_left_out c bytes text ended short p =
    let w = layout_of c in
    let ls = judged_lines bytes ended in
    let said = stimulus (length c.inputs) bytes ended in
    let runs = runs_of said.entries in
    let rows = rows_text Properties p.last in
    let stop = last_stop ended said.bad runs.unended in
    let start : Cut = record { lines = []; begun = [] } in
    let lines = ap length (whole_lines_are text) ∙ feeds_of_lines start text in
    omega (
      arith,
      short,
      many_frames,
      few_kept (is_trace_line w) (whole_lines text),
      lines,
      ap feeds p.is,
      feeds_in_both (flat_map (run_text Properties) p.traces) (rows ++ stop),
      feeds_in_both rows stop,
      runs_feeds c runs.ended p.traces p.each,
      rows_feeds p.last,
      follow_length c (reset_state c) runs.unended p.last p.is_last.1,
      stop_feeds ended said.bad runs.unended,
      entries_of said.entries,
      few_entries (length c.inputs) 1 ls,
      few_kept (λ (l : Line). l.ended || ended) (lines_of bytes),
      few_lines bytes,
    )
