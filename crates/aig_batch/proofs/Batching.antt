-- A stimulus without a bad line, whose bytes are all taken at once.
use Rattle.std.proofs.Common.{◌≡◌, ◌++◌, ◌∙◌, if◌then◌else◌, ℕ, List, [], None, Option, ap, codes, length, Result, Ok}
use Rattle.std.proofs.Common.{Bool, Err, append_assoc, false, refl, subst, sym, true}
use Rattle.aig_circuit.specs.declared.circuit.Circuit.{Circuit}
use Rattle.aig_io.specs.Runs.{All, AtEnd, Beginning, Ending, NotSent}
use Rattle.aig_meaning.specs.Meaning.{MeansTheSame}
use Rattle.aig_meaning.proofs.Traces.{reset_state_is_first}
use Rattle.aig_step.specs.declared.trace.Columns.{Columns}
use Rattle.aig_fault.specs.declared.stopped.Stopped.{Stopped}
use Rattle.aig_fault.specs.declared.stopped.Stopped.TheVariants.{WriteFailed}
use Rattle.aig_step.specs.Outcome.{IsTraceUpTo, first_bad_line}
use Rattle.aig_step.specs.Stimulus.{Entry, stimulus}
use Rattle.aig_trace.specs.Taken.{Taken, Took}
use Rattle.aig_step.specs.TraceText.{IsTraceText}
use Rattle.aig_trace.proofs.Taken.{took_nothing, took_on, took_twice}
use Rattle.aig_lanes.specs.declared.run.Run.{Run}
use Rattle.aig_trace.specs.Parts.Progress.{begin_of}
use Rattle.aig_trace.specs.Parts.Tracing.{AppendedText, Tracing}
use Rattle.aig_batch.specs.Batched.{BatchSays, NotCollected}
use Rattle.aig_batch.specs.Parts.RunsRead.{AppendedRuns, SaysEntries, entries_of_groups}
use Rattle.aig_batch.proofs.Side.Fronts.{front_goes, goes_too}
use Rattle.aig_trace.proofs.RunTexts.{goes_over, closing, goes_is_text}

-- the text of the front was put, and then that of all lines after it
pub put_behind : {W : Type 0} {H : W → W → List ℕ → Type 0} (c d : Circuit) (t : Tracing) (bytes rest : List ℕ)
    (groups : List (List Run)) (a mid b : W) → MeansTheSame c t.circuit → MeansTheSame c d
    → SaysEntries (length c.inputs) bytes (entries_of_groups groups) rest → first_bad_line c bytes true ≡ None
    → AppendedRuns H d t.columns groups a mid → AppendedText H t rest mid b
    → (text : List ℕ) × IsTraceUpTo c t.columns bytes true None text × Took H a b text
put_behind {W} {H} c d t bytes rest groups a mid b means runs says none front back =
    let entries = (stimulus (length t.circuit.inputs) rest true).entries in
    let end : List ℕ = if back.point.has_step then codes ".\n" else [] in
    let same : entries ≡ (stimulus (length c.inputs) rest true).entries =
    ap (λ (n : ℕ). (stimulus n rest true).entries) means.inputs in
    let goes = goes_over c t.columns (begin_of c) (begin_of c) back.point (entries_of_groups groups) entries front.text
    back.text
    (front_goes c d t.columns (entries_of_groups groups) front.text runs front.goes)
    (goes_too c t.circuit t.columns back.point entries back.text means back.goes) in (
      (front.text ++ back.text) ++ end,
      record {
        first = none;
        is_text = subst
            (λ (o : Option ℕ). IsTraceText c t.columns bytes true
            ((front.text ++ back.text) ++ closing true o back.point.has_step))
            none
            (goes_is_text c t.columns back.point (entries_of_groups groups ++ entries) (front.text ++ back.text)
            (reset_state_is_first c) goes bytes true
            (says.parted ∙ ap (λ (es : List Entry). entries_of_groups groups ++ es) (sym same)));
      },
      subst (Took H a b) (sym (append_assoc front.text back.text end))
          (took_twice a mid b front.text (back.text ++ end) front.put back.put),
    )

-- the text of a stimulus without a bad line was taken, and sent
pub taken_so : {W : Type 0} {H : W → W → List ℕ → Type 0} (c : Circuit) (columns : Columns) (bytes : List ℕ) (a b e : W)
    (r : Result (Unit {0}) Stopped) (failed : Bool)
    → (text : List ℕ) × IsTraceUpTo c columns bytes true None text × Took H a b text → Took H b e []
    → r ≡ (if failed then Err WriteFailed else Ok tt) → Taken H (BatchSays c columns r bytes AtEnd) a e failed
taken_so c columns bytes a b e r true (text, is, put) last told =
    let took = took_on a b e text put last in
    rw told (record { text = text; delivery = Beginning 0; says = (refl, tt, is); took = took; tells = refl })
taken_so c columns bytes a b e r false (text, is, put) last told =
    let took = took_on a b e text put last in
    rw told (record { text = text; delivery = All; says = (refl, refl, is); took = took; tells = refl })

-- nothing was sent where not all came
batch_says : (c : Circuit) (columns : Columns) (e : Stopped) (bytes : List ℕ) (ending : Ending)
    → NotCollected c e bytes ending → BatchSays c columns (Err e) bytes ending [] NotSent
batch_says c columns WriteFailed bytes ending never = absurd never
batch_says c columns stopped bytes ending said = (said, refl)

pub nothing_taken : {W : Type 0} {H : W → W → List ℕ → Type 0} (c : Circuit) (columns : Columns) (e : Stopped)
    (bytes : List ℕ) (ending : Ending) (a : W) (failed : Bool) → NotCollected c e bytes ending → failed ≡ false
    → Taken H (BatchSays c columns (Err e) bytes ending) a a failed
nothing_taken c columns e bytes ending a failed said fine = record {
  text = [];
  delivery = NotSent;
  says = batch_says c columns e bytes ending said;
  took = took_nothing a;
  tells = fine;
}

-- where a failure cut the text is not told
pub cut_anywhere : (c : Circuit) (columns : Columns) (r : Result (Unit {0}) Stopped) (bytes : List ℕ) (ending : Ending)
    (text : List ℕ) (n m : ℕ) → BatchSays c columns r bytes ending text (Beginning n)
    → BatchSays c columns r bytes ending text (Beginning m)
cut_anywhere c columns (Ok x) bytes ending text n m (end, all, is) = cc
cut_anywhere c columns (Err WriteFailed) bytes ending text n m says = says
cut_anywhere c columns (Err stopped) bytes ending text n m (said, none) = cc
