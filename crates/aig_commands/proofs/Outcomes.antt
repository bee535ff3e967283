-- What came of a request, from what came of its parts.
use Rattle.std.proofs.Common.{◌≡◌, ℕ, List, Result, Ok, Err, OnErr, IfErr, OnOk, [], is_err, refl, true}
use Rattle.aig_circuit.specs.declared.circuit.Circuit.{Circuit}
use Rattle.aig_io.specs.Devices.{History, TookBeginning, took}
use Rattle.aig_io.specs.Runs.{All, Beginning, Delivery, Ending, NotSent, Read, Transferred}
use Rattle.aig_io.proofs.Runs.{read_weaker}
use Rattle.aig_fault.specs.declared.fault.Fault.{Fault}
use Rattle.aig_fault.specs.declared.stopped.Stopped.{Stopped}
use Rattle.aig_fault.specs.declared.stopped.Stopped.TheVariants as stops
use Rattle.aig_commands.specs.Outcome.{Says}
use Rattle.aig_commands.specs.Reading.{AtItsEnd, NotRead}
use Rattle.aig_commands.proofs.Readings.{CameWhole}
use Rattle.aig_verdicts.specs.Judged.{WitnessSays}
use Rattle.aig_commands.specs.WitnessOutcome.{AnswerSays}

-- a source was read, and the sink took a beginning of the text for it, and failed
pub transferred_in_part : (P : List ℕ → Ending → List ℕ → Delivery → Type 0) (Q : List ℕ → Ending → Type 0)
    (source source_now sink sink_now : History) (text : List ℕ)
    → ((bytes : List ℕ) (ending : Ending) (count : ℕ) → Q bytes ending → P bytes ending text (Beginning count))
    → Read Q source source_now → TookBeginning text sink sink_now → Transferred P source source_now sink sink_now
transferred_in_part P Q source source_now sink sink_now text say read part = record {
  bytes = read.bytes;
  ending = read.ending;
  says = record {
    text = text;
    delivery = Beginning part.count;
    says = say read.bytes read.ending part.count read.says;
    sent = part.history;
  };
  came = read.came;
}

-- a witness file got no verdict
pub not_judged : (c : Circuit) (stopped : Stopped) (bytes text : List ℕ) (ending : Ending) (delivery : Delivery)
    → WitnessSays c (Err stopped) bytes ending → delivery ≡ NotSent
    → AnswerSays c (Err stopped) bytes ending text delivery
not_judged c stops.WriteFailed bytes text ending delivery says none = absurd says
not_judged c stopped bytes text ending delivery says none = (says, none)

-- where an answer is an error, this holds
pub on_err : {T E : Type 0} (answer : Result T E) (P : Type 0) → (is_err answer ≡ true → P) → OnErr answer P
on_err (Ok value) P holds = tt
on_err (Err error) P holds = holds refl

module _ (IsText : List ℕ → List ℕ → Type 0) (IsRefused : Fault → List ℕ
    → Type 0) (source source_now sink : History) where
  -- nothing was made of what came
  pub not_run : (stopped : Stopped) → Read (NotRead (AtItsEnd IsRefused) stopped) source source_now
      → Transferred (Says IsText IsRefused (Err stopped)) source source_now sink sink
  not_run stops.WriteFailed read = absurd read.says
  not_run stopped read =
      read_weaker _ _ source source_now
      (λ bytes ending says. record { text = []; delivery = NotSent; says = (says, refl); sent = refl }) read

  -- a text was made of it, and sent
  pub run_so : (r : Result (Unit {0}) Stopped) (sink_now : History) (text : List ℕ)
      → Read (CameWhole (λ bytes. IsText bytes text)) source source_now → OnOk r (sink_now ≡ took text sink)
      → OnErr r (TookBeginning text sink sink_now) → IfErr r (λ stopped. stopped ≡ stops.WriteFailed)
      → Transferred (Says IsText IsRefused r) source source_now sink sink_now
  run_so (Ok done) sink_now text read all part failed =
      read_weaker _ _ source source_now
      (λ bytes ending says. record { text = text; delivery = All; says = (says.0, refl, says.1); sent = all }) read
  run_so (Err stopped) sink_now text read all part failed =
      rw failed (transferred_in_part _ _ _ _ _ _ text (λ bytes ending count says. (says.0, tt, says.1)) read part)
