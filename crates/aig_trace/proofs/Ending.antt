-- What came of a source, and what the sink took for it.
use Rattle.std.proofs.Common.{◌≡◌, ◌∙◌, ℕ, List, Bool, true, false, not, Option, Some, None, Result, Ok, Err, refl}
use Rattle.std.proofs.Common.{sym, ap₂, subst}
use Rattle.aig_circuit.specs.declared.circuit.Circuit.{Circuit}
use Rattle.aig_io.specs.Devices.{History}
use Rattle.aig_io.specs.Runs.{All, AtEnd, Beginning, Broken, Delivery, Ending, IsUnbroken, came, is_at_end}
use Rattle.aig_lines.specs.Feeders.{Feeder}
use Rattle.aig_meaning.specs.Meaning.{MeansTheSame}
use Rattle.aig_fault.specs.declared.stopped.Stopped.{Stopped}
use Rattle.aig_fault.specs.declared.stopped.Stopped.TheVariants.{OutOfMemory, ReadFailed, Refused, WriteFailed}
use Rattle.aig_step.specs.declared.trace.Columns.{Columns}
use Rattle.aig_step.specs.Outcome.{IsTraceUpTo, TraceSays, bad_stimulus}
use Rattle.aig_trace.specs.Taken.{Ran, Tells, Took, meant}
use Rattle.aig_trace.specs.Parts.Streaming.{IsTraced, ended_so}
use Rattle.aig_trace_laws.proofs.Texts.{same_meaning_same_text}

-- lines were taken, and the text for them was put
module _ {W : Type 0} {H : W → W → List ℕ → Type 0} (c : Circuit) (columns : Columns) (bytes : List ℕ)
    (ending : Ending) (from to : W) (f : Feeder) (failed : Bool)
    (t : IsTraced H c columns bytes (is_at_end ending) from to f) (source source_now : History)
    (history : source_now ≡ came bytes ending source) where
  abbrev Ends : Result (Unit {0}) Stopped → Type 0
  Ends r = Ran H (TraceSays c columns r) source source_now from to failed

  taken_so : (r : Result (Unit {0}) Stopped) (delivery : Delivery) → t.text ≡ meant t.text delivery
      → TraceSays c columns r bytes ending t.text delivery → Tells failed delivery → Ends r
  taken_so r delivery whole says tells = record {
    bytes = bytes;
    ending = ending;
    says = record {
      text = t.text;
      delivery = delivery;
      says = says;
      took = subst (Took H from to) whole t.put;
      tells = tells;
    };
    came = history;
  }

  ends_by : IsUnbroken ending → (broke refused : Bool) → failed ≡ broke → f.refused ≡ refused
      → (broke ≡ false → refused ≡ false → ending ≡ AtEnd) → Ends (ended_so broke (not refused) f.number)
  ends_by unbroken true refused tells is whole =
      taken_so (Err WriteFailed) (Beginning 0) refl (unbroken, tt, t.is_trace.is_text) tells
  ends_by unbroken false true tells is whole =
      taken_so (Err (Refused (bad_stimulus f.number))) All refl
      (f.number, refl, unbroken, refl, rw is at t.is_trace) tells
  ends_by unbroken false false tells is whole =
      let all = whole refl refl in taken_so (Ok tt) All refl (all, refl, rw (is, all) at t.is_trace) tells

  -- the source did not fail
  pub ends : (r : Result (Unit {0}) Stopped) → IsUnbroken ending → r ≡ ended_so failed (not f.refused) f.number
      → (r ≡ Ok tt → ending ≡ AtEnd) → Ends r
  ends r unbroken is whole =
      subst Ends (sym is)
      (ends_by unbroken failed f.refused refl refl (λ well good. whole (is ∙ ap₂
      (λ (broke refused : Bool). ended_so broke (not refused) f.number) well good)))

  -- it failed
  pub interrupted : ending ≡ Broken → failed ≡ false → f.refused ≡ false → Ends (Err ReadFailed)
  interrupted broken well going =
      taken_so (Err ReadFailed) All refl (broken, refl, rw (going, broken) at t.is_trace) well

-- where a failure cut the text is not told
pub cut_anywhere : (c : Circuit) (columns : Columns) (r : Result (Unit {0}) Stopped) (bytes : List ℕ) (ending : Ending)
    (text : List ℕ) (n m : ℕ) → TraceSays c columns r bytes ending text (Beginning n)
    → TraceSays c columns r bytes ending text (Beginning m)
cut_anywhere c columns (Ok x) bytes ending text n m (end, all, is) = cc
cut_anywhere c columns (Err OutOfMemory) bytes ending text n m (none, still, unsent) = cc
cut_anywhere c columns (Err (Refused fault)) bytes ending text n m (number, told, unbroken, all, is) = cc
cut_anywhere c columns (Err ReadFailed) bytes ending text n m (broken, all, is) = cc
cut_anywhere c columns (Err WriteFailed) bytes ending text n m says = says

-- nothing failed
pub ended_well : (failed refused : Bool) (number : ℕ) (x : Unit {0}) → ended_so failed (not refused) number ≡ Ok x
    → (failed ≡ false) × (refused ≡ false)
ended_well true refused number x is = cc
ended_well false true number x is = cc
ended_well false false number x is = (refl, refl)

-- what is said of a circuit that means the same
module _ (c d : Circuit) (means : MeansTheSame c d) (columns : Columns) where
  trace_too : (bytes : List ℕ) (ended : Bool) (bad : Option ℕ) (text : List ℕ)
      → IsTraceUpTo d columns bytes ended bad text → IsTraceUpTo c columns bytes ended bad text
  trace_too bytes ended bad text is =
      let same = same_meaning_same_text c d means columns bytes ended in
      record { first = sym same.0 ∙ is.first; is_text = (same.1 text).1 is.is_text }

  pub trace_says_too : (r : Result (Unit {0}) Stopped) (bytes : List ℕ) (ending : Ending) (text : List ℕ)
      (delivery : Delivery) → TraceSays d columns r bytes ending text delivery
      → TraceSays c columns r bytes ending text delivery
  trace_says_too (Ok x) bytes ending text delivery (end, all, is) = (end, all, trace_too bytes true None text is)
  trace_says_too (Err OutOfMemory) bytes ending text delivery says = says
  trace_says_too (Err (Refused fault)) bytes ending text delivery (number, told, unbroken, all, is) =
      (number, told, unbroken, all, trace_too bytes (is_at_end ending) (Some number) text is)
  trace_says_too (Err ReadFailed) bytes ending text delivery (broken, all, is) =
      (broken, all, trace_too bytes false None text is)
  trace_says_too (Err WriteFailed) bytes ending text delivery (unbroken, cut, is) =
      (unbroken, cut, ((same_meaning_same_text c d means columns bytes (is_at_end ending)).1 text).1 is)
