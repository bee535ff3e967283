-- A justice property that became a bad state, and what is written of one.
use Rattle.std.proofs.Common.{◌≡◌, ◌≤◌, ◌∙◌, ℕ, List, ap, arith, inl, inr, length, map, subst, sym, take}
use Rattle.std.proofs.lemmas.Bool.{cases_lt}
use Rattle.std.proofs.lemmas.List.{length-map, length-take}
use Rattle.aig_circuit.specs.declared.circuit.Circuit.{Circuit}
use Rattle.aig_circuit.specs.declared.circuit.TheConstants.{LARGEST}
use Rattle.aig_circuit.specs.Wellformed.{IsWellFormed}
use Rattle.aig_binary.proofs.Files.{one_circuit}
use Rattle.aig_live.proofs.Back.{confirmed_means_lasso}
use Rattle.aig_live.proofs.Formed.{made_is_well_formed}
use Rattle.aig_live.proofs.Never.{liveness_is_safety}
use Rattle.aig_command.specs.declared.request.BadStates.{BadStates}
use Rattle.aig_circuit.specs.declared.value.Val.{Val}
use Rattle.aig_command.specs.declared.request.Property.{Property}
use Rattle.aig_command.specs.declared.request.Property.TheVariants.{Justice}
use Rattle.aig_invariant.specs.Invariant.{with_invariant}
use Rattle.aig_invariant.specs.Outcome.{HasCubes}
use Rattle.aig_lasso.specs.Endless.{IsFairRun}
use Rattle.aig_lasso.specs.Goaled.{HasGoals}
use Rattle.aig_lasso.specs.Goals.{with_goals}
use Rattle.aig_lasso.specs.Lasso.{IsLasso, IsLassoVerdict}
use Rattle.aig_lasso.specs.declared.verdict.LassoVerdict.{LassoVerdict}
use Rattle.aig_lasso.specs.declared.verdict.LassoVerdict.TheVariants.{Confirmed, NotConfirmed}
use Rattle.aig_lasso.proofs.Round.{lassos_are_fair_runs}
use Rattle.aig_replay.proofs.WitnessText.{text_is}
use Rattle.aig_verdicts.proofs.Files.{lasso_file_says, lassos_have_files}
use Rattle.aig_verdicts.proofs.Verdicts.{justice_claims_have_verdicts}
use Rattle.aig_verdicts.proofs.Plain.{justice_kept}
use Rattle.aig_verdicts.specs.Comments.{uncommented}
use Rattle.aig_verdicts.specs.Kinds.{SaysJustice}
use Rattle.aig_verdicts.specs.declared.verdict.WitnessVerdict.TheVariants as verdicts
use Rattle.aig_command.specs.declared.request.Reach.{Reach}
use Rattle.aig_command.specs.declared.request.Sim.{Sim}
use Rattle.aig_commands.specs.File.{IsFileOf}
use Rattle.aig_commands.specs.Property.{HasProperty}
use Rattle.aig_commands.specs.WitnessOutcome.{IsWitnessAnswer}
use Rattle.aig_commands.specs.LiveLaws.{LassoAnswersAreConfirmed, NeverMeansNoneIsConfirmed, RightLassosAreConfirmed}
use Rattle.aig_commands.specs.LiveLaws.{RefutationsMeanNoneIsConfirmed}
use Rattle.aig_live.specs.Laws.{live}
use Rattle.aig_live.specs.Outcome.{HasLive}
use Rattle.aig_meaning.specs.Meaning.{MeansTheSame}
use Rattle.aig_meaning.proofs.Traces.{same_back}
use Rattle.aig_witness.specs.declared.verdict.Verdict.{Verdict}
use Rattle.aig_witness.specs.Witness.{Claim, IsVerdict}
use Rattle.aig_witness.proofs.WitnessEnds.{verdict_too}
use Rattle.aig_witness.proofs.Witnessing.{same_bad}
use Rattle.aig_commands.specs.Conversion.{CanTurn, turned}
use Rattle.aig_commands.specs.LiveLaws.{AnswersAreLassos, ConfirmedClaimsAreLassos, NeverExactlyWithoutFairRun}
use Rattle.aig_commands.specs.LiveLaws.{NeverMeansNoneIsFair, RefutationsMeanNoLasso, TurnsJustice}
use Rattle.aig_commands.specs.Proving.{NoRunHas}
use Rattle.aig_commands.specs.Reaching.{IsClaimedBy, IsSelectedModel, claimed_text}
use Rattle.aig_commands.specs.Refuting.{HasNoLassoWithin, NoRunHasWithin}
use Rattle.aig_commands.proofs.Meant.{turned_file}
use Rattle.aig_commands.proofs.TripsExist.{well_formed_file}

module _ (property : ℕ) (c d : Circuit) (t : TurnsJustice property c d) where
  source_is : t.is_text.source ≡ c
  source_is =
      (rw t.undo_map at t.is_text.is_source)
      ∙ one_circuit t.file LARGEST t.is_text.found c (rw t.limit at t.is_text.read) t.source

  good : IsWellFormed c
  good = well_formed_file t.file LARGEST c t.source

  fits : (live property c).max_var ≤ LARGEST
  fits =
      let can = subst (λ (b : BadStates). CanTurn b t.is_text.source) t.justice t.is_text.can_turn in
      (subst (λ (s : Circuit). HasLive property s) source_is can).1

  live_is_good : IsWellFormed (live property c)
  live_is_good = made_is_well_formed c property good fits

  -- what is written of the source means what the circuit for the property means
  same : MeansTheSame (live property c) d
  same =
      let source_is_good =
      subst (λ (b : BadStates). IsWellFormed (turned b t.is_text.source)) (sym t.justice)
      (subst (λ (s : Circuit). IsWellFormed (live property s)) (sym source_is) live_is_good) in
      let made = turned_file t.request t.file t.converted t.is_text source_is_good in
      let of_property =
      subst (λ (b : BadStates). MeansTheSame (turned b t.is_text.source) made.0) t.justice made.2 in
      let of_circuit = subst (λ (s : Circuit). MeansTheSame (live property s) made.0) source_is of_property in
      subst (MeansTheSame (live property c)) (one_circuit t.converted LARGEST made.0 d made.1 t.result) of_circuit

  as_many : length (live property c).bad ≡ length d.bad
  as_many = sym (same_bad (live property c) d live_is_good same)

  there : (claim : Claim) (verdict : Verdict) → IsVerdict (live property c) claim verdict → IsVerdict d claim verdict
  there = verdict_too d (live property c) (same_back (live property c) d same) as_many

  back : (claim : Claim) (verdict : Verdict) → IsVerdict d claim verdict → IsVerdict (live property c) claim verdict
  back = verdict_too (live property c) d same (sym as_many)

pub never_exactly_without_fair_run : NeverExactlyWithoutFairRun
never_exactly_without_fair_run property c d t =
    let safe = liveness_is_safety c property (good property c d t) (fits property c d t) in (
      λ never. safe.0 (λ claim step is. never claim step (there property c d t claim _ is)),
      λ none claim step is. safe.1 none claim step (back property c d t claim _ is),
    )

pub confirmed_claims_are_lassos : ConfirmedClaimsAreLassos
confirmed_claims_are_lassos property c d t claim step is =
    confirmed_means_lasso c property claim step (back property c d t claim _ is)

-- ---- what is written of one

pub refutations_mean_no_lasso : RefutationsMeanNoLasso
refutations_mean_no_lasso request number c selected model text is_justice file of_model is =
    let p = of_model.has_clauses in
    let good = well_formed_file model request.max_var p.found p.read in
    subst (λ (k : Circuit). HasNoLassoWithin k number request.frames)
    (one_circuit model request.max_var p.found c p.read file)
    (subst (λ (property : Property). NoRunHasWithin p.found property request.frames) is_justice
    (is.none p.found good p.is_text.is_unrolled.has_property of_model.selected_is))

pub never_means_none_is_fair : NeverMeansNoneIsFair
never_means_none_is_fair request number c selected strengthened model invariant text is_justice file of_model shown is =
    let p = of_model.has_clauses in
    let good = well_formed_file model request.max_var p.found p.read in
    let never = is.never p.found invariant shown.cubes good p.is_text.is_unrolled.has_property
    (subst (λ (k : Circuit). HasCubes k invariant shown.cubes) of_model.selected_is shown.has_cubes)
    (shown.strengthened_is ∙ ap (λ (k : Circuit). with_invariant shown.cubes k) of_model.selected_is) in
    subst (λ (k : Circuit). NoRunHas k (Justice number)) (one_circuit model request.max_var p.found c p.read file)
    (subst (λ (property : Property). NoRunHas p.found property) is_justice never)

pub answers_are_lassos : AnswersAreLassos
answers_are_lassos request number c selected model answer text is_justice file of_model is =
    let p = of_model.has_clauses in
    let good = well_formed_file model request.max_var p.found p.read in
    let claimed : IsClaimedBy p.found (Justice number) request.frames answer is.claim =
    subst (λ (property : Property). IsClaimedBy p.found property request.frames answer is.claim) is_justice
    (is.claimed p.found good p.is_text.is_unrolled.has_property of_model.selected_is) in
    let step = claimed.1.hit.step in
    let lasso = confirmed_means_lasso p.found number claimed.0 step claimed.1.is_verdict in
    let front : List (List Val) = take step claimed.0.steps in
    let size : length is.claim.steps ≡ length (map (take (length p.found.inputs)) front) =
    ap (λ (k : Claim). length k.steps) claimed.2 in (
      is.claim,
      lasso.0,
      ap (λ (k : Claim). k.property) claimed.2,
      omega (
        arith,
        size,
        length-map front (take (length p.found.inputs)),
        length-take step claimed.0.steps,
        claimed.1.long,
        claimed.1.low,
      ),
      subst (λ (k : Circuit). IsLasso k is.claim lasso.0) (one_circuit model request.max_var p.found c p.read file)
          (subst (λ (k : Claim). IsLasso p.found k lasso.0) (sym claimed.2) lasso.1),
      is.written_as ∙ ap (λ (property : Property). claimed_text property is.claim) is_justice,
    )

-- ---- what is confirmed of one

-- a lasso that a file claims is confirmed, at a step that is no later
confirmed_by : (judging : Sim) (c : Circuit) (file witness : List ℕ) (claim : Claim) (start : ℕ) (verdict : LassoVerdict)
    → IsFileOf file judging.max_var c → SaysJustice c (uncommented witness) claim → IsLasso c claim start
    → IsLassoVerdict c claim verdict
    → (first : ℕ) × (first ≤ start) × IsWitnessAnswer judging file witness (verdicts.Justice (Confirmed first))
confirmed_by judging c file witness claim start (Confirmed first) read says lasso is = (
  first,
  elim (cases_lt start first) [
    | inl earlier ↦ absurd (is.1 start earlier lasso)
    | inr other ↦ omega (arith, other)
  ],
  record { found = c; claim = claim; read = read; says = says; is_verdict = is },
)
confirmed_by judging c file witness claim start NotConfirmed read says lasso is = absurd (is start lasso)

pub right_lassos_are_confirmed : RightLassosAreConfirmed
right_lassos_are_confirmed judging c file claim start read goals lasso =
    let good = well_formed_file file judging.max_var c read in
    let written = lassos_have_files c claim start good goals.0 lasso in
    let verdict = justice_claims_have_verdicts c written.0 claim good written.1 goals in
    let found = confirmed_by judging c file written.0 claim start verdict.0 read
    (justice_kept c written.0 claim written.1) lasso verdict.1 in
    (written.0, written.1, found.0, found.1, found.2)

-- the model has the property, of not too many goals
goals_there : (request : Reach) (number : ℕ) (c selected : Circuit) (model : List ℕ)
    → request.property ≡ Justice number → IsFileOf model request.max_var c → IsSelectedModel request model selected
    → HasGoals number c
goals_there request number c selected model is_justice file of_model =
    let p = of_model.has_clauses in
    let has : HasLive number p.found =
    subst (λ (property : Property). HasProperty property p.found) is_justice p.is_text.is_unrolled.has_property in
    let here = subst (HasLive number) (one_circuit model request.max_var p.found c p.read file) has in
    (here.0, omega (arith, here.1))

pub lasso_answers_are_confirmed : LassoAnswersAreConfirmed
lasso_answers_are_confirmed request number judging c selected model answer text is_justice limit file of_model is =
    let good = well_formed_file model request.max_var c file in
    let (claim, start, property_is, few, lasso, text_is_lasso) =
    answers_are_lassos request number c selected model answer text is_justice file of_model is in
    let has = goals_there request number c selected model is_justice file of_model in
    let goals : HasGoals claim.property c = subst (λ (n : ℕ). HasGoals n c) (sym property_is) has in
    let says : SaysJustice c text claim =
    subst (λ (bs : List ℕ). SaysJustice c bs claim) (text_is 106 claim ∙ sym text_is_lasso)
    (lasso_file_says c claim start good goals.0 lasso) in
    let verdict = justice_claims_have_verdicts c text claim good says goals in
    let found = confirmed_by judging c model text claim start verdict.0
    (subst (λ (n : ℕ). IsFileOf model n c) (sym limit) file) (justice_kept c text claim says) lasso verdict.1 in
    (found.0, found.2)

pub refutations_mean_none_is_confirmed : RefutationsMeanNoneIsConfirmed
refutations_mean_none_is_confirmed request number judging selected model text witness start is_justice limit of_model none
    confirmed few without_x of_property =
    let file : IsFileOf model request.max_var confirmed.found =
    subst (λ (n : ℕ). IsFileOf model n confirmed.found) limit confirmed.read in
    refutations_mean_no_lasso request number confirmed.found selected model text is_justice file of_model none
    confirmed.claim start few of_property without_x confirmed.is_verdict.0

pub never_means_none_is_confirmed : NeverMeansNoneIsConfirmed
never_means_none_is_confirmed request number judging selected strengthened model invariant text witness start is_justice
    limit of_model shown never confirmed of_property =
    let file : IsFileOf model request.max_var confirmed.found =
    subst (λ (n : ℕ). IsFileOf model n confirmed.found) limit confirmed.read in
    let run = lassos_are_fair_runs confirmed.found confirmed.claim start confirmed.is_verdict.0 in
    never_means_none_is_fair request number confirmed.found selected strengthened model invariant text is_justice file
    of_model shown never run.0
    (subst (λ (n : ℕ). IsFairRun (with_goals n confirmed.found) run.0) of_property run.1)
