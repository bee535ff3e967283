-- A model and a witness file have one dump, with their verdict, and a file and its conversion have the same.
use Rattle.std.proofs.Common.{◌≡◌, ◌⊎◌, ◌<◌, ◌∙◌, ◌++◌, ◌∷◌, ℕ, List, [], ap, ap₂, inl, inr, length, map, refl, subst}
use Rattle.std.proofs.Common.{sym, true}
use Rattle.std.specs.List.{AllByRecursion}
use Rattle.aig_circuit.specs.declared.circuit.Circuit.{Circuit}
use Rattle.aig_circuit.specs.declared.circuit.Latch.{Latch}
use Rattle.aig_circuit.specs.declared.circuit.Reset.{Reset}
use Rattle.aig_circuit.specs.declared.circuit.TheConstants.{LARGEST}
use Rattle.aig_circuit.specs.Wellformed.{IsWellFormed}
use Rattle.aig_circuit.specs.declared.value.Val.{Val}
use Rattle.aig_meaning.specs.Meaning.{MeansTheSame, Row}
use Rattle.aig_meaning.specs.Trace.{IsFirstState}
use Rattle.aig_meaning.proofs.Traces.{one_trace, same_back, rows_follow_once, same_meaning_same_traces}
use Rattle.aig_command.specs.declared.request.Sim.{Sim}
use Rattle.aig_step.specs.declared.trace.Columns.TheVariants.{Properties}
use Rattle.aig_step.specs.TraceText.{run_text}
use Rattle.aig_wave.specs.Laws.{ShowTheSame}
use Rattle.aig_wave.specs.Wave.{wave_text}
use Rattle.aig_wave.proofs.Alike.{same_wave}
use Rattle.aig_witness.specs.declared.verdict.Verdict.{Verdict}
use Rattle.aig_witness.specs.Witness.{Claim}
use Rattle.aig_binary.proofs.Files.{one_circuit}
use Rattle.aig_commands.specs.File.{IsFileOf}
use Rattle.aig_claims.proofs.Marking.{marked_is_well_formed, marked_long, marked_runs_are_runs}
use Rattle.aig_claims.specs.LoopMark.{marked, marked_rows, with_loop_mark}
use Rattle.aig_claims.specs.RunDump.{IsRunDump, IsShownRun, comment_line, reset_to, started_in, with_resets}
use Rattle.aig_lasso.specs.declared.verdict.LassoVerdict.TheVariants.{Confirmed, NotConfirmed}
use Rattle.aig_verdicts.proofs.Files.{justice_files_are_read}
use Rattle.aig_verdicts.proofs.Verdicts.{one_verdict_at_most}
use Rattle.aig_verdicts.specs.Comments.{uncommented}
use Rattle.aig_verdicts.specs.Judged.{IsVerdictFor, SaysFor}
use Rattle.aig_verdicts.specs.declared.verdict.WitnessVerdict.{WitnessVerdict}
use Rattle.aig_verdicts.specs.declared.verdict.WitnessVerdict.TheVariants.{BadState, Justice}
use Rattle.aig_witness.proofs.WitnessTexts.{witness_files_are_read}
use Rattle.aig_commands.specs.WitnessDump.{IsWitnessDumpText}
use Rattle.aig_commands.specs.WitnessDumpLaws.{IsBadState, VerdictsHaveDumps, WitnessDumpsAreKept, WitnessDumpsAreUnambiguous}
use Rattle.aig_commands.proofs.Dumps.{shown_alike, show_back}
use Rattle.aig_commands.proofs.Meant.{converted_file}
use Rattle.aig_commands.proofs.TripsExist.{well_formed_file}
use Rattle.aig_commands.proofs.Verdicts.{carried}

-- the dump of a run of a circuit
run_dump_of : (c : Circuit) (claim : Claim) → IsWellFormed c → IsFirstState c claim.first
    → AllByRecursion (λ (given : List Val). length given ≡ length c.inputs) claim.steps
    → (run : List ℕ) × IsRunDump c claim run
run_dump_of c claim good starts each =
    let one = one_trace c claim.first claim.steps good starts each in (
      wave_text (started_in claim.first c) (run_text Properties one.0) true,
      record { rows = one.0; trace = one.1; is_dump = refl },
    )

shown_run : (c : Circuit) (witness : List ℕ) (claim : Claim) (verdict : WitnessVerdict) → IsWellFormed c
    → SaysFor c verdict witness claim → IsBadState verdict ⊎ (c.max_var < LARGEST)
    → (run : List ℕ) × IsShownRun c claim verdict run
shown_run c witness claim (BadState v) good says room =
    let file = (witness_files_are_read c (uncommented witness) claim).0 says in
    run_dump_of c claim good file.starts file.each
shown_run c witness claim (Justice NotConfirmed) good says room =
    let file = (justice_files_are_read c (uncommented witness) claim).0 says in
    run_dump_of c claim good file.starts file.each
shown_run c witness claim (Justice (Confirmed start)) good says (inl never) = absurd never
shown_run c witness claim (Justice (Confirmed start)) good says (inr room) =
    let file = (justice_files_are_read c (uncommented witness) claim).0 says in
    run_dump_of (with_loop_mark c) (marked start claim) (marked_is_well_formed c good room) file.starts
    (marked_long c start claim.steps file.each)

pub verdicts_have_dumps : VerdictsHaveDumps
verdicts_have_dumps request model witness verdict answer room =
    let good = well_formed_file model request.max_var answer.found answer.read in
    let run = shown_run answer.found witness answer.claim verdict good answer.says room in (
      comment_line verdict ++ run.0,
      record { answer = answer; is_dump = record { run = run.0; is_run = run.1; is_text = refl } },
    )

-- one run has one dump
one_run : (c : Circuit) (claim : Claim) (dump other : List ℕ) → IsWellFormed c → IsRunDump c claim dump
    → IsRunDump c claim other → dump ≡ other
one_run c claim dump other good p q =
    let rows = rows_follow_once c good claim.first claim.steps p.rows q.rows p.trace.1 q.trace.1 in
    p.is_dump ∙ ap (λ (rs : List Row). wave_text (started_in claim.first c) (run_text Properties rs) true) rows
    ∙ sym q.is_dump

-- also with the mark of its loop
one_marked_run : (c : Circuit) (claim : Claim) (start : ℕ) (dump other : List ℕ) → IsWellFormed c
    → IsRunDump (with_loop_mark c) (marked start claim) dump → IsRunDump (with_loop_mark c) (marked start claim) other
    → dump ≡ other
one_marked_run c claim start dump other good p q =
    let own = marked_runs_are_runs c claim start p.rows p.trace in
    let own_too = marked_runs_are_runs c claim start q.rows q.trace in
    let same = rows_follow_once c good claim.first claim.steps own.0 own_too.0 own.1.1 own_too.1.1 in
    let rows : p.rows ≡ q.rows = own.2 ∙ ap (marked_rows start) same ∙ sym own_too.2 in
    p.is_dump
    ∙ ap (λ (rs : List Row). wave_text (started_in claim.first (with_loop_mark c)) (run_text Properties rs) true) rows
    ∙ sym q.is_dump

one_shown_run : (c : Circuit) (claim : Claim) (verdict : WitnessVerdict) (dump other : List ℕ) → IsWellFormed c
    → IsShownRun c claim verdict dump → IsShownRun c claim verdict other → dump ≡ other
one_shown_run c claim (BadState v) dump other good p q = one_run c claim dump other good p q
one_shown_run c claim (Justice NotConfirmed) dump other good p q = one_run c claim dump other good p q
one_shown_run c claim (Justice (Confirmed start)) dump other good p q = one_marked_run c claim start dump other good p q

pub one_witness_dump : WitnessDumpsAreUnambiguous
one_witness_dump request model witness verdict other text more p q =
    let same = one_circuit model request.max_var p.answer.found q.answer.found p.answer.read q.answer.read in
    let good = well_formed_file model request.max_var q.answer.found q.answer.read in
    let one = one_verdict_at_most q.answer.found witness verdict other p.answer.claim q.answer.claim good
    (subst (λ (c : Circuit). SaysFor c verdict witness p.answer.claim) same p.answer.says)
    (subst (λ (c : Circuit). IsVerdictFor c p.answer.claim verdict) same p.answer.is_verdict) q.answer.says
    q.answer.is_verdict in
    let here = subst (λ (c : Circuit). IsShownRun c p.answer.claim verdict p.is_dump.run) same p.is_dump.is_run in
    let here_too = subst (λ (k : Claim). IsShownRun q.answer.found k verdict p.is_dump.run) one.1 here in
    let here_last = subst (λ (v : WitnessVerdict). IsShownRun q.answer.found q.answer.claim v p.is_dump.run) one.0
    here_too in
    let runs = one_shown_run q.answer.found q.answer.claim other p.is_dump.run q.is_dump.run good here_last
    q.is_dump.is_run in
    p.is_dump.is_text ∙ ap₂ (λ (v : WitnessVerdict) (run : List ℕ). comment_line v ++ run) one.0 runs
    ∙ sym q.is_dump.is_text

-- latches with the same resets have them after the same change
resets_again : (rs : List Reset) (ks ls : List Latch)
    → map (λ (l : Latch). l.reset) ks ≡ map (λ (l : Latch). l.reset) ls
    → map (λ (l : Latch). l.reset) (with_resets rs ks) ≡ map (λ (l : Latch). l.reset) (with_resets rs ls)
resets_again [] ks ls is = is
resets_again (r ∷ rs) [] [] is = refl
resets_again (r ∷ rs) [] (l ∷ ls) is = cc
resets_again (r ∷ rs) (k ∷ ks) [] is = cc
resets_again (r ∷ rs) (k ∷ ks) (l ∷ ls) is = ap (λ qs. r ∷ qs) (resets_again rs ks ls cc)

carried_dump : (before after : Sim) (file other witness : List ℕ) (verdict : Verdict) (text : List ℕ) (c d : Circuit)
    → before.max_var ≡ LARGEST → after.max_var ≡ LARGEST → IsFileOf file LARGEST c → IsFileOf other LARGEST d
    → MeansTheSame c d → ShowTheSame c d → IsWitnessDumpText before file witness (BadState verdict) text
    → IsWitnessDumpText after other witness (BadState verdict) text
unfolding carried
carried_dump before after file other witness verdict text c d limit limit_after is is_other means show p =
    let claim = p.answer.claim in
    let same : p.answer.found ≡ c =
    one_circuit file LARGEST p.answer.found c (rw limit at p.answer.read) is in
    let run : IsRunDump c claim p.is_dump.run =
    subst (λ (e : Circuit). IsRunDump e claim p.is_dump.run) same p.is_dump.is_run in
    let started : ShowTheSame (started_in claim.first c) (started_in claim.first d) =
    record {
      symbols = show.symbols;
      inputs = show.inputs;
      outputs = show.outputs;
      bad = show.bad;
      constraints = show.constraints;
      resets = resets_again (map reset_to claim.first) d.latches c.latches show.resets;
    } in
    record {
      answer = carried before after file other witness verdict c d limit limit_after is is_other means p.answer;
      is_dump = record {
        run = p.is_dump.run;
        is_run = record {
          rows = run.rows;
          trace = (same_meaning_same_traces c d means claim.first claim.steps run.rows).0 run.trace;
          is_dump = run.is_dump ∙ sym (same_wave _ _ started (run_text Properties run.rows) true);
        };
        is_text = p.is_dump.is_text;
      };
    }

pub witness_dumps_are_kept : WitnessDumpsAreKept
witness_dumps_are_kept request before after still keeps limit limit_before limit_after file converted witness text
    verdict p =
    let c : Circuit = p.found in
    let is : IsFileOf file LARGEST c = subst (λ n. IsFileOf file n c) limit p.read in
    let made = converted_file request file converted still p in
    let d : Circuit = made.0 in
    let show = shown_alike request still keeps limit file converted p c d is made.1 in (
      carried_dump before after file converted witness verdict text c d limit_before limit_after is made.1 made.2 show,
      carried_dump after before converted file witness verdict text d c limit_after limit_before made.1 is
          (same_back c d made.2) (show_back c d show),
    )
