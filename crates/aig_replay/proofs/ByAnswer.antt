-- What is found by an answer's values is a witness.
use Rattle.std.proofs.Common.{◌≡◌, ◌+◌, ◌<◌, ◌∙◌, ℕ, List, None, Ok, Option, Some}
use Rattle.std.proofs.Common.{ap, arith, length, refl, subst, sym, take}
use Rattle.std.proofs.lemmas.List.{length-take-le}
use Rattle.aig_answer.specs.declared.reader.Status.TheVariants.{Satisfiable}
use Rattle.aig_circuit.specs.declared.circuit.Circuit.{Circuit}
use Rattle.aig_circuit.specs.Wellformed.{IsWellFormed}
use Rattle.aig_meaning.specs.Meaning.{Row}
use Rattle.aig_meaning.specs.Trace.{IsTrace}
use Rattle.aig_meaning.proofs.Traces.{rows_follow_once}
use Rattle.aig_unroll.specs.Unrolled.{resets_of, uninitialised}
use Rattle.aig_reach.proofs.Cutting.{steps_many}
use Rattle.aig_reach.proofs.Whole.{cut_trace, property_below, step_below}
use Rattle.aig_witness.specs.declared.verdict.Verdict.TheVariants.{Confirmed}
use Rattle.aig_witness.specs.Witness.{Claim, IsFirstConfirmed, IsVerdict}
use Rattle.aig_replay.specs.declared.search.Hit.{Hit}
use Rattle.aig_replay.specs.Alone.{HasSelected, selected_of}
use Rattle.aig_replay.specs.Finding.{hit_from}
use Rattle.aig_replay.specs.Laws.{IsFoundIn, claim_of}
use Rattle.aig_replay.specs.Reached.{AnswersHaveOneWitness, HasFound, ReachedBy, claim_selected, read_over, run_by}
use Rattle.aig_replay.specs.Reached.{run_of, said_in}
use Rattle.aig_replay.specs.Starting.{assigned}
use Rattle.aig_replay.proofs.BadAlone.{selected_is_well_formed, verdict_back}
use Rattle.aig_replay.proofs.Claimed.{found_runs_are_confirmed}
use Rattle.aig_replay.proofs.FirstFound.{first_is_found}
use Rattle.aig_replay.proofs.WitnessText.{witness_texts_say}

-- what is found in each trace of the run is found in it
pub has_found : (d : Circuit) (frames : ℕ) (bits : List ℕ) (found : Option Hit) → IsWellFormed d
    → ((rows : List Row) → IsTrace d (run_of d frames bits).first (run_of d frames bits).steps rows
    → found ≡ hit_from 0 rows) → HasFound d frames bits found
has_found d frames bits found formed is =
    let one = cut_trace d frames (assigned bits) formed in
    record { rows = one.0; trace = one.1.0; is_found = sym (is one.0 one.1.0) }

module _ (d : Circuit) (frames : ℕ) (bits : List ℕ) (hit : Hit) (found : HasFound d frames bits (Some hit)) where
  abbrev run : Claim
  run = run_of d frames bits

  pub run_many : length run.steps ≡ frames
  run_many = steps_many (assigned bits) (1 + uninitialised (resets_of d)) (length d.inputs) frames

  first_there : IsFirstConfirmed hit.property found.rows hit.step
  first_there = subst (λ (o : Option Hit). IsFoundIn found.rows o) found.is_found (first_is_found found.rows)

  pub hit_low : hit.step < frames
  hit_low =
      omega (
        arith,
        step_below d run.first run.steps found.rows hit.property hit.step found.trace.1 first_there.confirmed,
        run_many,
      )

  pub hit_there : hit.property < length d.bad
  hit_there = property_below d run.first run.steps found.rows hit.property hit.step found.trace.1 first_there.confirmed

  steps_left : length (take (hit.step + 1) run.steps) ≡ hit.step + 1
  steps_left = length-take-le (hit.step + 1) run.steps (omega (arith, hit_low, run_many))

  verdict : IsVerdict d (claim_of run.first run.steps hit) (Confirmed hit.step)
  verdict = found_runs_are_confirmed d run.first run.steps found.rows hit found.trace found.is_found

-- of each circuit from which this one was selected
pub reached : (c : Circuit) (selected : Option ℕ) (frames : ℕ) (bytes : List ℕ) (hit : Hit) → IsWellFormed c
    → HasSelected selected c → said_in (selected_of selected c) frames bytes ≡ Ok Satisfiable
    → HasFound (selected_of selected c) frames (read_over (selected_of selected c) frames bytes).bits (Some hit)
    → ReachedBy c selected frames bytes (claim_selected selected
    (claim_of (run_by (selected_of selected c) frames bytes).first
    (run_by (selected_of selected c) frames bytes).steps hit))
reached c None frames bytes hit formed there said found =
    let bits = (read_over c frames bytes).bits in
    let run = run_by c frames bytes in
    let claim = claim_of run.first run.steps hit in
    let is = verdict c frames bits hit found in
    record {
      hit = hit;
      said = said;
      found = found;
      is_claim = refl;
      low = hit_low c frames bits hit found;
      long = steps_left c frames bits hit found;
      named = λ n (is : None ≡ Some n). cc;
      is_verdict = is;
      says = witness_texts_say c claim is.rows formed (hit_there c frames bits hit found) is.trace;
    }
reached c (Some n) frames bytes hit formed there said found =
    let d = selected_of (Some n) c in
    let bits = (read_over d frames bytes).bits in
    let run = run_by d frames bytes in
    let claim = claim_selected (Some n) (claim_of run.first run.steps hit) in
    let zero : hit.property ≡ 0 = omega (arith, hit_there d frames bits hit found) in
    let is = verdict_back c n there (claim_of run.first run.steps hit) hit.step zero
    (verdict d frames bits hit found) in
    record {
      hit = hit;
      said = said;
      found = found;
      is_claim = refl;
      low = hit_low d frames bits hit found;
      long = steps_left d frames bits hit found;
      named = λ m (is : Some n ≡ Some m). cc;
      is_verdict = is;
      says = witness_texts_say c claim is.rows formed there is.trace;
    }

pub answers_have_one_witness : AnswersHaveOneWitness
answers_have_one_witness c selected frames bytes claim other formed there is is_too =
    let d = selected_of selected c in
    let run = run_by d frames bytes in
    let rows : is.found.rows ≡ is_too.found.rows =
    rows_follow_once d (selected_is_well_formed selected c there formed) run.first run.steps is.found.rows
    is_too.found.rows
    is.found.trace.1 is_too.found.trace.1 in
    let some : Some is.hit ≡ Some is_too.hit =
    sym is.found.is_found ∙ ap (hit_from 0) rows ∙ is_too.found.is_found in
    let hit : is.hit ≡ is_too.hit = cc in
    is.is_claim ∙ ap (λ (h : Hit). claim_selected selected (claim_of run.first run.steps h)) hit ∙ sym is_too.is_claim
