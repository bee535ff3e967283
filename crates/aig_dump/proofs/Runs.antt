-- The dump of what a witness file claims is that of a simulation, by the circuit that starts in its first state.
use Rattle.std.proofs.Common.{◌≡◌, ◌++◌, ◌∙◌, ℕ, List, [], ◌∷◌, true, None, ap, codes, length, map, subst, sym, refl}
use Rattle.std.specs.List.{AllZip, flat_map}
use Rattle.std.proofs.lemmas.List.{append-nil}
use Rattle.aig_circuit.specs.declared.circuit.Circuit.{Circuit}
use Rattle.aig_circuit.specs.declared.value.Val.{Val}
use Rattle.aig_meaning.specs.Meaning.{Row}
use Rattle.aig_meaning.specs.Trace.{IsTrace, reset_state}
use Rattle.aig_lines.specs.Lines.{lines_of}
use Rattle.aig_step.specs.declared.trace.Columns.TheVariants.{Properties}
use Rattle.aig_step.specs.Stimulus.{Runs, judged_lines, runs_of, stimulus, text_of}
use Rattle.aig_step.specs.TraceText.{IsTraceText, last_stop, rows_text, run_text, values_text}
use Rattle.aig_step.proofs.StimulusTexts.{stimuli_are_read}
use Rattle.aig_wave.specs.Wave.{wave_text}
use Rattle.aig_witness.specs.Witness.{Claim}
use Rattle.aig_dump.specs.Parts.Showing.{IsRunText}
use Rattle.aig_claims.specs.RunDump.{IsRunDump, started_in}
use Rattle.aig_claims.specs.Started.{value_or_x}
use Rattle.aig_dump.specs.InMemory.{IsDumpFor}
use Rattle.aig_dump.proofs.Behind.{all_judged}
use Rattle.aig_claims.proofs.Starting.{trace_from, values_back}

-- the traces of one run that has ended are one trace
one_run : (c : Circuit) (first : List Val) (steps : List (List Val)) (traces : List (List Row)) (last : List Row)
    → AllZip (IsTrace c first) (steps ∷ []) traces → IsTrace c first [] last
    → (rows : List Row) × IsTrace c first steps rows
    × (flat_map (run_text Properties) traces ++ (rows_text Properties last ++ last_stop true None [])
    ≡ run_text Properties rows)
one_run c first steps [] last each is = absurd each
one_run c first steps (rows ∷ []) [] each is =
    (rows, each.0, append-nil _ ∙ append-nil (run_text Properties rows))
one_run c first steps (rows ∷ []) (r ∷ rs) each is = absurd is.1
one_run c first steps (rows ∷ other ∷ more) last each is = absurd each.1

-- the lines of the steps and the line that ends them
abbrev Said : List (List Val) → Runs
Said steps = record { ended = steps ∷ []; unended = [] }

trace_of_run : (c : Circuit) (st text : List ℕ) (steps : List (List Val))
    → (let said = stimulus (length c.inputs) st true in (runs_of said.entries ≡ Said steps) × (said.bad ≡ None))
    → IsTraceText c Properties st true text
    → (rows : List Row) × IsTrace c (reset_state c) steps rows × (text ≡ run_text Properties rows)
trace_of_run c st text steps (runs, bad) t =
    let each = subst (λ (r : Runs). AllZip (IsTrace c (reset_state c)) r.ended t.traces) runs t.each in
    let last = subst (λ (r : Runs). IsTrace c (reset_state c) r.unended t.last) runs t.is_last in
    let one = one_run c (reset_state c) steps t.traces t.last each last in
    (one.0, one.1, (rw (bad, runs) at t.is) ∙ one.2)

pub run_dumped : (c : Circuit) (claim : Claim) (first st run : List ℕ) → IsRunText c claim first st
    → IsDumpFor (started_in (map value_or_x first) c) st run → IsRunDump c claim run
run_dumped c claim first st run text dumped =
    let d : Circuit = started_in claim.first c in
    let started : started_in (map value_or_x first) c ≡ d =
    ap (λ vs. started_in vs c) (ap (map value_or_x) text.is_first ∙ values_back claim.first) in
    let (trace, is_trace, is) = subst (λ (e : Circuit). IsDumpFor e st run) started dumped in
    let texts : map text_of (judged_lines st true) ≡ map values_text claim.steps ++ codes "." ∷ [] =
    ap (map text_of) (all_judged (lines_of st)) ∙ text.are_steps in
    let said = (stimuli_are_read d st true (Said claim.steps) None).1 (record {
      good = map text_of (judged_lines st true);
      behind = [];
      parted = sym (append-nil _);
      lines = texts ∙ sym (append-nil _ ∙ append-nil _);
      each = (text.each, tt);
      last = tt;
      next = refl;
    }) in
    let rows = trace_of_run d st trace claim.steps said is_trace in
    record {
      rows = rows.0;
      trace = trace_from c claim.first claim.steps rows.0 text.starts rows.1;
      is_dump = is ∙ ap (λ text. wave_text d text true) rows.2;
    }
