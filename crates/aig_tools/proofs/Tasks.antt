-- What is written where a simulation is done.
use Rattle.std.proofs.Common.{◌≡◌, ℕ, List, Bool, true, false, Option, None, Some, Result, Ok, Err, MatchBool, ap}
use Rattle.std.proofs.Common.{if◌then◌else◌}
use Rattle.std.proofs.Common.{refl, ◌∙◌, ◌++◌}
use Rattle.aig_io.specs.Devices.{History, took}
use Rattle.aig_io.specs.Runs.{All, AtEnd, Delivery, Ending, NotSent, Read, Transferred}
use Rattle.aig_io.proofs.Runs.{read_weaker}
use Rattle.aig_circuit.specs.declared.circuit.Circuit.{Circuit}
use Rattle.aig_command.specs.declared.request.Sim.{Sim}
use Rattle.aig_step.specs.Outcome.{IsTraceUpTo}
use Rattle.aig_step.specs.declared.trace.Columns.{Columns}
use Rattle.aig_verdicts.specs.declared.verdict.WitnessVerdict.{WitnessVerdict}
use Rattle.aig_fault.specs.declared.stopped.Stopped.{Stopped}
use Rattle.aig_fault.specs.declared.stopped.Stopped.TheVariants as stops
use Rattle.aig_claims.specs.RunDump.{HasNoDump, JudgedWith, comment_line}
use Rattle.aig_dump.specs.Dumped.{TraceSaysAs}
use Rattle.aig_trace.specs.Taken.{meant}
use Rattle.aig_dump.specs.InMemory.{JudgedRun}
use Rattle.aig_wave.specs.Wave.{wave_text}
use Rattle.aig_commands.specs.File.{IsFileOf}
use Rattle.aig_commands.specs.Simulation.{IsDumpText, IsSimulationText, columns_of, task_of}
use Rattle.aig_tools.specs.SimulationOutcome.{OfSteps, SimulationsWriteTheirTexts, TaskSays, without_verdict}
use Rattle.aig_commands.specs.WitnessDump.{RunDumpSays}
use Rattle.aig_commands.specs.declared.task.Task.TheVariants as tasks

-- steps that were answered without a verdict
pub of_steps : (Says : Result (Unit {0}) Stopped → List ℕ → Ending → List ℕ → Delivery → Type 0)
    (result : Result (Unit {0}) Stopped) (source source_now sink sink_now : History)
    → Transferred (Says result) source source_now sink sink_now
    → Transferred (OfSteps Says (without_verdict result)) source source_now sink sink_now
of_steps Says (Ok done) source source_now sink sink_now ran = ran
of_steps Says (Err stopped) source source_now sink sink_now ran = ran

-- whether as a batch or not, what is done is said alike
traced : (batch : Bool) (c : Circuit) (columns : Columns) (bytes text : List ℕ) (ending : Ending) (delivery : Delivery)
    → TraceSaysAs batch c columns (Ok tt) bytes ending text delivery
    → (ending ≡ AtEnd) × (delivery ≡ All) × IsTraceUpTo c columns bytes true None text
traced true c columns bytes text ending delivery says = says
traced false c columns bytes text ending delivery says = says

-- what is written, by whether a verdict or a dump is asked for
by_task : (witness vcd : Bool) (request : Sim) (c : Circuit) (model bytes text : List ℕ) (ending : Ending)
    (delivery : Delivery) → IsFileOf model request.max_var c
    → TaskSays (if witness then (if vcd then tasks.RunDump else tasks.Verdict)
    else (if vcd then tasks.Dump request.batch else tasks.Trace request.batch (columns_of request))) c (Ok None) bytes
    ending text delivery
    → (ending ≡ AtEnd) × (delivery ≡ All)
    × MatchBool vcd (IsDumpText request model bytes text) (IsSimulationText request model bytes text)
by_task true true request c model bytes text ending delivery read says = absurd says
by_task true false request c model bytes text ending delivery read says = absurd says
by_task false true request c model bytes text ending delivery read (all, dump) =
    let trace = traced request.batch c _ bytes dump.trace ending dump.delivery dump.says in (
      trace.0,
      all,
      record {
        trace = dump.trace;
        simulation = record {
          found = c;
          read = read;
          none_bad = trace.2.first;
          is_trace = trace.2.is_text;
        };
        is_dump = dump.is_dump ∙ ap (λ delivery. wave_text c (meant dump.trace delivery) true) trace.1;
      },
    )
by_task false false request c model bytes text ending delivery read says =
    let trace = traced request.batch c _ bytes text ending delivery says in
    (trace.0, trace.1, record { found = c; read = read; none_bad = trace.2.first; is_trace = trace.2.is_text })

pub simulations_write_their_texts : SimulationsWriteTheirTexts
simulations_write_their_texts request = by_task request.witness request.vcd request

-- where no witness file is judged, there is no verdict
none_judged : (witness vcd : Bool) (request : Sim) (c : Circuit) (verdict : WitnessVerdict) (bytes text : List ℕ)
    (ending : Ending) (delivery : Delivery) → witness ≡ false
    → TaskSays (if witness then (if vcd then tasks.RunDump else tasks.Verdict)
    else (if vcd then tasks.Dump request.batch else tasks.Trace request.batch (columns_of request))) c
    (Ok (Some verdict)) bytes ending text delivery → ⊥
none_judged true vcd request c verdict bytes text ending delivery none says = absurd cc
none_judged false true request c verdict bytes text ending delivery none says = says
none_judged false false request c verdict bytes text ending delivery none says = says

pub unjudged : (request : Sim) (c : Circuit) (verdict : Option WitnessVerdict) (bytes : List ℕ) (ending : Ending)
    (text : List ℕ) (delivery : Delivery) → request.witness ≡ false
    → TaskSays (task_of request) c (Ok verdict) bytes ending text delivery
    → TaskSays (task_of request) c (Ok None) bytes ending text delivery
unjudged request c None bytes ending text delivery none says = says
unjudged request c (Some verdict) bytes ending text delivery none says =
    absurd (none_judged request.witness request.vcd request c verdict bytes text ending delivery none says)

-- the dump of a run after the verdict
pub judged_with : (c : Circuit) (verdict : WitnessVerdict) (bytes run : List ℕ) → JudgedRun c verdict bytes run
    → JudgedWith c verdict bytes (comment_line verdict ++ run)
judged_with c verdict bytes run (judged, is_run) =
    record { judged = judged; is_dump = record { run = run; is_run = is_run; is_text = refl } }

-- a source was read, and the sink took the text for it
pub transferred_whole : (P : List ℕ → Ending → List ℕ → Delivery → Type 0) (Q : List ℕ → Ending → Type 0)
    (source source_now sink sink_now : History) (text : List ℕ)
    → ((bytes : List ℕ) (ending : Ending) → Q bytes ending → P bytes ending text All)
    → Read Q source source_now → sink_now ≡ took text sink → Transferred P source source_now sink sink_now
transferred_whole P Q source source_now sink sink_now text say read all =
    read_weaker Q _ source source_now
    (λ bytes ending says. record { text = text; delivery = All; says = say bytes ending says; sent = all }) read

-- there is no dump
pub no_dump : (c : Circuit) (stopped : Stopped) (bytes text : List ℕ) (ending : Ending) (delivery : Delivery)
    → HasNoDump c stopped bytes ending → delivery ≡ NotSent
    → RunDumpSays c (Err stopped) bytes ending text delivery
no_dump c stops.WriteFailed bytes text ending delivery says none = absurd says
no_dump c stopped bytes text ending delivery says none = (says, none)
