-- What stands for a property of a circuit, and what is known of the circuit by it.
use Rattle.std.proofs.Common.{◌≡◌, ◌≤◌, ◌∙◌, ℕ, Bool, List, Option, None, Some, Result, Ok, Err, IfErr, ap, ap₂, arith, length, refl, subst}
use Rattle.std.proofs.Common.{sym}
use Rattle.aig_circuit.specs.declared.circuit.Circuit.{Circuit}
use Rattle.aig_circuit.specs.declared.circuit.TheConstants.{LARGEST}
use Rattle.aig_circuit.specs.Wellformed.{IsWellFormed}
use Rattle.aig_cnf.specs.Clauses.{Satisfies, bad_clauses}
use Rattle.aig_command.specs.declared.request.Property.{Property}
use Rattle.aig_command.specs.declared.request.Property.TheVariants.{AnyBad, Bad, Justice}
use Rattle.aig_fault.specs.declared.stopped.Stopped.{Stopped}
use Rattle.aig_fault.specs.declared.stopped.Stopped.TheVariants as stops
use Rattle.aig_invariant.specs.Invariant.{Cube, with_invariant}
use Rattle.aig_invariant.specs.Laws.{IsNever}
use Rattle.aig_invariant.specs.Outcome.{HasCubes}
use Rattle.aig_invariant.proofs.Never.{invariants_mean_never}
use Rattle.aig_live.specs.FoundLasso.{lasso_in}
use Rattle.aig_live.specs.Laws.{lasso_of, live}
use Rattle.aig_live.specs.Outcome.{MakesNone}
use Rattle.aig_live.proofs.Formed.{made_is_well_formed}
use Rattle.aig_live.proofs.Lassos.{lassos_are_in_witnesses}
use Rattle.aig_live.proofs.Never.{lassos_are_confirmed, never_means_no_fair_run}
use Rattle.aig_replay.specs.Alone.{HasSelected, NotSelected, selected_of}
use Rattle.aig_replay.specs.Laws.{IsOfSelected}
use Rattle.aig_replay.specs.Reached.{ReachedBy}
use Rattle.aig_replay.specs.WitnessLines.{witness_text}
use Rattle.aig_replay.proofs.BadAlone.{refuted_means_none, selected_is_well_formed}
use Rattle.aig_replay.proofs.ByAnswer.{answers_have_one_witness}
use Rattle.aig_unroll.specs.Unrolled.{IsUnrolled}
use Rattle.aig_witness.specs.declared.verdict.Verdict.TheVariants.{Confirmed}
use Rattle.aig_witness.specs.Witness.{Claim, IsVerdict}
use Rattle.aig_commands.specs.Property.{HasProperty, NotModelled, bad_property, property_model}
use Rattle.aig_commands.specs.Proving.{NoRunHas}
use Rattle.aig_commands.specs.Reaching.{IsClaimedBy, claimed_text}
use Rattle.aig_commands.specs.Refuting.{IsNoneWithin, NoRunHasWithin}

pub model_is_well_formed : (property : Property) (c : Circuit) → HasProperty property c → IsWellFormed c
    → IsWellFormed (property_model property c)
model_is_well_formed AnyBad c has good = good
model_is_well_formed (Bad number) c has good = selected_is_well_formed (Some number) c has good
model_is_well_formed (Justice number) c has good = made_is_well_formed c number good has.1

-- ---- what an error says

no_bad_state : (number : ℕ) (c : Circuit) (stopped : Stopped) → NotSelected (Some number) c stopped
    → NotModelled (Bad number) c stopped
no_bad_state number c stops.OutOfMemory why = why
no_bad_state number c (stops.Refused fault) why = why
no_bad_state number c stopped why = why

no_justice : (number : ℕ) (c : Circuit) (stopped : Stopped) → MakesNone number c stopped
    → NotModelled (Justice number) c stopped
no_justice number c stops.OutOfMemory why = why
no_justice number c (stops.Refused fault) why = why
no_justice number c stopped why = why

pub bad_state_err : (number : ℕ) (c : Circuit) (r : Result Circuit Stopped) → IfErr r (NotSelected (Some number) c)
    → IfErr r (NotModelled (Bad number) c)
bad_state_err number c (Ok made) why = tt
bad_state_err number c (Err stopped) why = no_bad_state number c stopped why

pub justice_err : (number : ℕ) (c : Circuit) (r : Result Circuit Stopped) → IfErr r (MakesNone number c)
    → IfErr r (NotModelled (Justice number) c)
justice_err number c (Ok made) why = tt
justice_err number c (Err stopped) why = no_justice number c stopped why

-- ---- bad states

pub any_claim : (claim : Claim) → IsOfSelected None claim
any_claim claim number some = cc

pub model_of_bad : (bad : Option ℕ) (c : Circuit) → property_model (bad_property bad) c ≡ selected_of bad c
model_of_bad None c = refl
model_of_bad (Some number) c = refl

pub bad_had : (bad : Option ℕ) (c : Circuit) → HasProperty (bad_property bad) c → HasSelected bad c
bad_had None c has = has
bad_had (Some number) c has = has

pub bad_is_claimed : (bad : Option ℕ) (c : Circuit) (frames : ℕ) (answer : List ℕ) (claim : Claim)
    → ReachedBy c bad frames answer claim → IsClaimedBy c (bad_property bad) frames answer claim
bad_is_claimed None c frames answer claim is = is
bad_is_claimed (Some number) c frames answer claim is = is

pub claimed_of_bad : (bad : Option ℕ) (c : Circuit) (frames : ℕ) (answer : List ℕ) (claim : Claim)
    → IsClaimedBy c (bad_property bad) frames answer claim → ReachedBy c bad frames answer claim
claimed_of_bad None c frames answer claim is = is
claimed_of_bad (Some number) c frames answer claim is = is

pub text_of_bad : (bad : Option ℕ) (claim : Claim) → claimed_text (bad_property bad) claim ≡ witness_text claim
text_of_bad None claim = refl
text_of_bad (Some number) claim = refl

pub none_of_bad : (bad : Option ℕ) (c : Circuit) (frames : ℕ) → NoRunHasWithin c (bad_property bad) frames
    → IsNoneWithin c bad frames
none_of_bad None c frames none = none
none_of_bad (Some number) c frames none = none

pub never_of_bad : (bad : Option ℕ) (c : Circuit) → NoRunHas c (bad_property bad) → IsNever c bad
never_of_bad None c never = never
never_of_bad (Some number) c never = never

-- ---- a witness for a justice property is a lasso

pub lasso_is_claimed : (number frames : ℕ) (selected : Circuit) (answer : List ℕ) (reaching : Claim)
    → ((c : Circuit) → IsWellFormed c → HasSelected None c → selected ≡ selected_of None c
    → ReachedBy c None frames answer reaching)
    → (c : Circuit) → IsWellFormed c → HasProperty (Justice number) c → selected ≡ property_model (Justice number) c
    → IsClaimedBy c (Justice number) frames answer (lasso_in number selected reaching)
lasso_is_claimed number frames selected answer reaching reached c good has same =
    let there = reached (live number c) (made_is_well_formed c number good has.1) tt same in (
      reaching,
      there,
      ap (λ (made : Circuit). lasso_in number made reaching) same
          ∙ lassos_are_in_witnesses c number reaching there.hit.step good there.long,
    )

pub one_claim : (property : Property) (c : Circuit) (frames : ℕ) (answer : List ℕ) (claim other : Claim)
    → IsWellFormed c → HasProperty property c → IsClaimedBy c property frames answer claim
    → IsClaimedBy c property frames answer other → claim ≡ other
one_claim AnyBad c frames answer claim other good has is is_too =
    answers_have_one_witness c None frames answer claim other good has is is_too
one_claim (Bad number) c frames answer claim other good has is is_too =
    answers_have_one_witness c (Some number) frames answer claim other good has is is_too
one_claim (Justice number) c frames answer claim other good has is is_too =
    let same : is.0 ≡ is_too.0 =
    answers_have_one_witness (live number c) None frames answer is.0 is_too.0
    (made_is_well_formed c number good has.1) tt is.1 is_too.1 in
    let steps : is.1.hit.step ≡ is_too.1.hit.step =
    omega (arith, is.1.long, is_too.1.long, ap (λ (k : Claim). length k.steps) same) in
    is.2 ∙ ap₂ (λ (k : Claim) (step : ℕ). lasso_of c number k step) same steps ∙ sym is_too.2

-- ---- where clauses are refuted, no run has the property

module _ (d : Circuit) (formed : IsWellFormed d) (none : (a : ℕ → Bool) → ¬ Satisfies a (bad_clauses d)) where
  pub none_within : (property : Property) (c : Circuit) (frames : ℕ) → IsWellFormed c → HasProperty property c
      → IsUnrolled (property_model property c) frames d → NoRunHasWithin c property frames
  none_within AnyBad c frames good has is = refuted_means_none c d None frames good has formed is none
  none_within (Bad number) c frames good has is = refuted_means_none c d (Some number) frames good has formed is none
  none_within (Justice number) c frames good has is =
      λ claim start short is_number without_x lasso.
      let room : (live claim.property c).max_var ≤ LARGEST =
      subst (λ (k : ℕ). (live k c).max_var ≤ LARGEST) (sym is_number) has.1 in
      let confirmed = lassos_are_confirmed c claim start good room lasso without_x in
      refuted_means_none (live number c) d None frames (made_is_well_formed c number good has.1) tt formed is none
      confirmed.0 confirmed.1 (omega (arith, short, confirmed.2)) (any_claim confirmed.0)
      (subst (λ (k : ℕ). IsVerdict (live k c) confirmed.0 (Confirmed confirmed.1)) is_number confirmed.3)

  pub none_ever : (property : Property) (c : Circuit) (invariant : List ℕ) (cubes : List Cube) → IsWellFormed c
      → HasProperty property c → HasCubes (property_model property c) invariant cubes
      → IsWellFormed (with_invariant cubes (property_model property c))
      → IsUnrolled (with_invariant cubes (property_model property c)) 1 d → NoRunHas c property
  none_ever AnyBad c invariant cubes good has has_cubes made is =
      invariants_mean_never c d None invariant cubes good has has_cubes made formed is none
  none_ever (Bad number) c invariant cubes good has has_cubes made is =
      invariants_mean_never c d (Some number) invariant cubes good has has_cubes made formed is none
  none_ever (Justice number) c invariant cubes good has has_cubes made is =
      never_means_no_fair_run c number good has.1
      (λ claim step.
      invariants_mean_never (live number c) d None invariant cubes (made_is_well_formed c number good has.1) tt
      has_cubes made formed is none claim step (any_claim claim))
