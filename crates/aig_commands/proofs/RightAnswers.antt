-- An answer whose values satisfy the clauses that are written of a model has a witness.
use Rattle.std.proofs.Common.{◌≡◌, ◌≤◌, ◌-◌, ◌∙◌, ℕ, List, Option, None, Some, Ok, Bool, true, false, ap, arith, get_or}
use Rattle.std.proofs.Common.{length, map, refl, replicate, subst, sym}
use Rattle.std.specs.List.{range_with_len}
use Rattle.std.proofs.lemmas.List.FromFn.{get_or-map-range_with_len, length-range_with_len}
use Rattle.aig_circuit.specs.declared.circuit.Circuit.{Circuit}
use Rattle.aig_circuit.specs.Wellformed.{IsWellFormed}
use Rattle.aig_answer.specs.declared.reader.Status.TheVariants.{Satisfiable}
use Rattle.aig_answer.specs.AnswerText.{all_values, answer_text}
use Rattle.aig_answer.proofs.Answers.{answers_are_read}
use Rattle.aig_meaning.specs.Trace.{IsTrace}
use Rattle.aig_reach.proofs.Whole.{cut_trace, inputs_are}
use Rattle.aig_reach.specs.Cut.{cut_claim}
use Rattle.aig_cnf.specs.Clauses.{Satisfies, bad_clauses}
use Rattle.aig_cuts.proofs.Completing.{cuts_are_completed}
use Rattle.aig_commands.specs.Unrolling.{AreClausesOf}
use Rattle.aig_reduce.specs.Reduced.{IsReducedIf}
use Rattle.aig_reduce.proofs.Reductions.{reductions_are_satisfied_alike}
use Rattle.aig_replay.specs.declared.search.Hit.{Hit}
use Rattle.aig_command.specs.declared.request.Property.{Property}
use Rattle.aig_command.specs.declared.request.Property.TheVariants.{AnyBad, Bad, Justice}
use Rattle.aig_live.specs.FoundLasso.{lasso_in}
use Rattle.aig_replay.specs.Alone.{HasSelected, selected_of}
use Rattle.aig_replay.specs.Laws.{claim_of}
use Rattle.aig_replay.specs.Reached.{HasFound, ReachedBy, claim_selected, read_over, run_by, said_in}
use Rattle.aig_replay.specs.Starting.{assigned}
use Rattle.aig_replay.proofs.ByAnswer.{reached}
use Rattle.aig_replay.proofs.Claimed.{answers_are_found}
use Rattle.aig_unroll.proofs.Ordering.Ordered.{unrolled_is_ordered}
use Rattle.aig_unroll.specs.Unrolled.{IsTooLarge, IsUnrolled, all_inputs}
use Rattle.aig_witness.specs.Witness.{Claim}
use Rattle.aig_commands.specs.Laws.{RightAnswersHaveWitnesses}
use Rattle.aig_commands.specs.Property.{HasProperty, property_model}
use Rattle.aig_commands.specs.Reaching.{IsClaimedBy, claimed_text}
use Rattle.aig_commands.proofs.Cuts.{one_cut}
use Rattle.aig_commands.proofs.Properties.{lasso_is_claimed, model_is_well_formed}
use Rattle.aig_commands.proofs.TripsExist.{well_formed_file}
use Rattle.aig_commands.proofs.Values.{values_read}

-- what an answer on the clauses of this circuit claims that it reaches
abbrev claim_by : Option ℕ → ℕ → Circuit → List ℕ → Hit → Claim
claim_by bad frames selected answer hit =
    claim_selected bad (claim_of (run_by selected frames answer).first (run_by selected frames answer).steps hit)

reached_by : (c selected : Circuit) (bad : Option ℕ) (frames : ℕ) (answer : List ℕ) (hit : Hit) → IsWellFormed c
    → HasSelected bad c → selected ≡ selected_of bad c → said_in selected frames answer ≡ Ok Satisfiable
    → HasFound selected frames (read_over selected frames answer).bits (Some hit)
    → ReachedBy c bad frames answer (claim_by bad frames selected answer hit)
reached_by c selected bad frames answer hit formed has same said found =
    subst (λ (k : Circuit). ReachedBy c bad frames answer (claim_by bad frames k answer hit)) (sym same)
    (reached c bad frames answer hit formed has
    (subst (λ (k : Circuit). said_in k frames answer ≡ Ok Satisfiable) same said)
    (subst (λ (k : Circuit). HasFound k frames (read_over k frames answer).bits (Some hit)) same found))

-- the same of a property
abbrev claim_of_property : Property → ℕ → Circuit → List ℕ → Hit → Claim
claim_of_property AnyBad frames selected answer hit = claim_by None frames selected answer hit
claim_of_property (Bad number) frames selected answer hit = claim_by (Some number) frames selected answer hit
claim_of_property (Justice number) frames selected answer hit =
    lasso_in number selected (claim_by None frames selected answer hit)

is_claimed : (property : Property) (c selected : Circuit) (frames : ℕ) (answer : List ℕ) (hit : Hit) → IsWellFormed c
    → HasProperty property c → selected ≡ property_model property c → said_in selected frames answer ≡ Ok Satisfiable
    → HasFound selected frames (read_over selected frames answer).bits (Some hit)
    → IsClaimedBy c property frames answer (claim_of_property property frames selected answer hit)
is_claimed AnyBad c selected frames answer hit formed has same said found =
    reached_by c selected None frames answer hit formed has same said found
is_claimed (Bad number) c selected frames answer hit formed has same said found =
    reached_by c selected (Some number) frames answer hit formed has same said found
is_claimed (Justice number) c selected frames answer hit formed has same said found =
    lasso_is_claimed number frames selected answer (claim_by None frames selected answer hit)
    (λ made good there is. reached_by made selected None frames answer hit good there is said found) c formed has same

-- ---- what is left of an unrolled circuit has its inputs

inputs_left : (simplify : Bool) (d written : Circuit) (n : ℕ) → d.inputs ≡ range_with_len 1 n
    → IsReducedIf simplify d written → written.inputs ≡ range_with_len 1 n
inputs_left true d written n are is =
    is.ordered.inputs
    ∙ ap (range_with_len 1) (is.same.inputs ∙ ap (λ (vs : List ℕ). length vs) are ∙ length-range_with_len 1 n)
inputs_left false d written n are is = ap (λ (e : Circuit). e.inputs) is ∙ are

-- so assignments that agree on them agree on the first variables
agree_first : (a b : ℕ → Bool) (n : ℕ) (ones others : List ℕ) → ones ≡ range_with_len 1 n
    → others ≡ range_with_len 1 n → map b ones ≡ map a others → (v : ℕ) → 1 ≤ v → v ≤ n → a v ≡ b v
agree_first a b n ones others is is_too same v some within =
    let values : map b (range_with_len 1 n) ≡ map a (range_with_len 1 n) =
    sym (ap (map b) is) ∙ same ∙ ap (map a) is_too in
    sym (get_or-map-range_with_len a 1 n (v - 1) v false (omega (arith, some, within)) (omega (arith, some)))
    ∙ sym (ap (λ bs. get_or bs (v - 1) false) values)
    ∙ get_or-map-range_with_len b 1 n (v - 1) v false (omega (arith, some, within)) (omega (arith, some))

-- what satisfies the clauses that are written of a circuit gives what satisfies all, by the same inputs
completed : (simplify : Bool) (d : Circuit) (clauses : List (List ℕ)) → IsWellFormed d → AreClausesOf simplify d clauses
    → (a : ℕ → Bool) → Satisfies a clauses
    → (b : ℕ → Bool) × Satisfies b (bad_clauses d) × (map b d.inputs ≡ map a d.inputs)
completed true d clauses good (plan, right, are) a satisfied =
    let there = cuts_are_completed plan d good right a (rw are at satisfied) in (there.0, there.1, there.3)
completed false d clauses good are a satisfied = (a, rw are at satisfied, refl)

left_is_well_formed : (simplify : Bool) (d written : Circuit) → IsWellFormed d → IsReducedIf simplify d written
    → IsWellFormed written
left_is_well_formed true d written good is = is.formed
left_is_well_formed false d written good is = rw is good

pub right_answers_have_witnesses : RightAnswersHaveWitnesses
right_answers_have_witnesses request selected model simplify written clauses a before lines last behind of_model is_left
    are_written satisfied are are_lines are_last are_behind values =
    let answer = answer_text before lines last behind in
    let frames = request.frames in
    let inputs = all_inputs selected frames in
    let p = of_model.has_clauses in
    let of = p.is_text.is_unrolled in
    let d = p.is_text.unrolled in
    let same = sym of_model.selected_is in
    let good : IsWellFormed selected =
    subst IsWellFormed same
    (model_is_well_formed request.property p.found of.has_property
    (well_formed_file model request.max_var p.found p.read)) in
    let unrolled : IsUnrolled selected frames d = subst (λ (k : Circuit). IsUnrolled k frames d) same of.is_unrolled in
    let fits : ¬ IsTooLarge selected frames = subst (λ (k : Circuit). ¬ IsTooLarge k frames) same of.fits in
    let ordered = unrolled_is_ordered selected d frames good unrolled fits in
    let whole = completed simplify written clauses (left_is_well_formed simplify d written ordered.0 is_left) are_written
    a satisfied in
    let over = (reductions_are_satisfied_alike simplify d written ordered.0 is_left).1 whole.0 whole.1 in
    let b = over.0 in
    let first = inputs_are selected d frames good unrolled in
    let alike : (v : ℕ) → 1 ≤ v → v ≤ inputs → a v ≡ b v =
    agree_first a b inputs d.inputs written.inputs first (inputs_left simplify d written inputs first is_left)
    (over.2 ∙ whole.2) in
    let read = answers_are_read (replicate inputs 48) before lines last behind are are_lines are_last are_behind in
    let agree : (v : ℕ) → 1 ≤ v → v ≤ inputs → assigned (read_over selected frames answer).bits v ≡ b v =
    λ v some within.
    ap (λ bits. assigned bits v) read.values_are
    ∙ values_read a inputs (all_values lines last) values v some within ∙ alike v some within in
    let cut : run_by selected frames answer ≡ cut_claim selected frames b 0 =
    one_cut selected frames (assigned (read_over selected frames answer).bits) b agree in
    let trace = cut_trace selected frames b good in
    let hit = answers_are_found selected d frames b trace.0 good ordered.0 unrolled over.1 trace.1.0 in
    let found : HasFound selected frames (read_over selected frames answer).bits (Some hit.0) = record {
      rows = trace.0;
      trace = subst (λ (k : Claim). IsTrace selected k.first k.steps trace.0) (sym cut) trace.1.0;
      is_found = hit.1;
    } in
    let claim = claim_of_property request.property frames selected answer hit.0 in (
      claimed_text request.property claim,
      record {
        claim = claim;
        claimed = λ c formed has is.
            is_claimed request.property c selected frames answer hit.0 formed has is read.status_is found;
        written_as = refl;
      },
    )
