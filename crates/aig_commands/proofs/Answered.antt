-- What is made of a solver's answer; and one that is refused stays so, whatever comes after it.
use Rattle.std.proofs.Common.{◌≡◌, ◌++◌, ◌∙◌, ℕ, List, [], ◌∷◌, Option, None, Ok, Err, ap, refl, subst, sym}
use Rattle.std.specs.List.{fold}
use Rattle.std.proofs.lemmas.List.Sums.{fold-append}
use Rattle.aig_answer.specs.Answer.{SoFar, after, answer_of, closed, next}
use Rattle.aig_answer.specs.declared.reader.Reader.{Reader}
use Rattle.aig_answer.specs.declared.reader.Spot.TheVariants.{Wrong}
use Rattle.aig_answer.specs.declared.reader.Status.TheVariants.{Satisfiable}
use Rattle.aig_circuit.specs.declared.circuit.Circuit.{Circuit}
use Rattle.aig_fault.specs.declared.stopped.Stopped.{Stopped}
use Rattle.aig_fault.specs.declared.stopped.Stopped.TheVariants as stops
use Rattle.aig_io.specs.Devices.{History}
use Rattle.aig_io.specs.Runs.{AtEnd, Broken, Ending, Open, Read}
use Rattle.aig_io.proofs.Runs.{read_weaker}
use Rattle.aig_replay.specs.Alone.{HasSelected, selected_of}
use Rattle.aig_replay.specs.Reached.{NotFoundBy, ReachedBy, WitnessSays, fault_said, read_over, said_in}
use Rattle.aig_replay.specs.WitnessLines.{lasso_text, witness_text}
use Rattle.aig_replay.proofs.Reading.{wrong_says}
use Rattle.aig_circuit.specs.Wellformed.{IsWellFormed}
use Rattle.aig_live.specs.FoundLasso.{lasso_in}
use Rattle.aig_witness.specs.Witness.{Claim}
use Rattle.aig_command.specs.declared.request.Property.{Property}
use Rattle.aig_command.specs.declared.request.Property.TheVariants.{Justice}
use Rattle.aig_command.specs.declared.request.Reach.{Reach}
use Rattle.aig_commands.specs.Property.{HasProperty, bad_property, property_model}
use Rattle.aig_commands.specs.Reaching.{IsClaimedBy, IsReachRefused, IsReachText, claimed_text}
use Rattle.aig_commands.specs.Reading.{AtAnyTime, NotRead}
use Rattle.aig_commands.proofs.Properties.{bad_had, bad_is_claimed, lasso_is_claimed, model_of_bad, text_of_bad}
use Rattle.aig_commands.proofs.Readings.{CameWhole}

-- a reader that met a wrong byte stays where it is
stays : (r : Reader) (byte : ℕ) → r.spot ≡ Wrong → (next r byte).reader ≡ r
stays r byte wrong = rw wrong refl

stays_over : (s : SoFar) (more : List ℕ) → s.reader.spot ≡ Wrong → (fold after s more).reader ≡ s.reader
stays_over s [] wrong = refl
stays_over s (byte ∷ bytes) wrong =
    let same : (after s byte).reader ≡ s.reader = stays s.reader byte wrong in
    stays_over (after s byte) bytes (ap (λ (r : Reader). r.spot) same ∙ wrong) ∙ same

-- so nothing after it is read
said_still : (d : Circuit) (frames : ℕ) (bytes more : List ℕ) → (read_over d frames bytes).reader.spot ≡ Wrong
    → said_in d frames (bytes ++ more) ≡ said_in d frames bytes
said_still d frames bytes more wrong =
    ap (λ (s : SoFar). answer_of (closed s.reader)) (fold-append after _ bytes more)
    ∙ ap (λ (r : Reader). answer_of (closed r)) (stays_over (read_over d frames bytes) more wrong)

not_answered : (request : Reach) (selected : Circuit) (stopped : Stopped) (bytes : List ℕ) (ending : Ending)
    → NotFoundBy selected request.frames stopped bytes ending
    → NotRead (AtAnyTime (IsReachRefused request selected)) stopped bytes ending
not_answered request selected stops.OutOfMemory bytes ending why = rw why.1 tt
not_answered request selected stops.ReadFailed bytes ending why = why.0
not_answered request selected stops.WriteFailed bytes ending why = why
not_answered request selected (stops.Refused fault) bytes AtEnd why = why
not_answered request selected (stops.Refused fault) bytes Open why =
    λ more.
    let same = said_still selected request.frames bytes more (why.1 refl) in
    let wrong = wrong_says (read_over selected request.frames bytes).reader (why.1 refl) in (
      tt,
      λ (is : AtEnd ≡ Open). cc,
      why.2 ∙ ap fault_said (sym same),
      λ (taken : said_in selected request.frames (bytes ++ more) ≡ Ok Satisfiable). cc,
    )
not_answered request selected (stops.Refused fault) bytes Broken why = absurd why.0

-- the answer was read, and it gives no witness
pub answer_refused : (request : Reach) (bad : Option ℕ) (selected : Circuit) (stopped : Stopped) (before after : History)
    → Read (WitnessSays selected bad request.frames (Err stopped)) before after
    → Read (NotRead (AtAnyTime (IsReachRefused request selected)) stopped) before after
answer_refused request bad selected stopped before after =
    read_weaker _ _ before after (not_answered request selected stopped)

-- it gives one, of a bad state
witness_is : (request : Reach) (bad : Option ℕ) (selected : Circuit) (claim : Claim) (bytes : List ℕ)
    → request.property ≡ bad_property bad
    → ((c : Circuit) → IsWellFormed c → HasSelected bad c → selected ≡ selected_of bad c
    → ReachedBy c bad request.frames bytes claim)
    → IsReachText request selected bytes (witness_text claim)
witness_is request bad selected claim bytes is_bad reached = record {
  claim = claim;
  claimed = λ c good has same.
      let has_bad = bad_had bad c (subst (λ (p : Property). HasProperty p c) is_bad has) in
      let same_bad : selected ≡ selected_of bad c =
      subst (λ (p : Property). selected ≡ property_model p c) is_bad same ∙ model_of_bad bad c in
      subst (λ (p : Property). IsClaimedBy c p request.frames bytes claim) (sym is_bad)
      (bad_is_claimed bad c request.frames bytes claim (reached c good has_bad same_bad));
  written_as = sym (ap (λ (p : Property). claimed_text p claim) is_bad ∙ text_of_bad bad claim);
}

pub witness_read : (request : Reach) (bad : Option ℕ) (selected : Circuit) (claim : Claim) (before after : History)
    → request.property ≡ bad_property bad → Read (WitnessSays selected bad request.frames (Ok claim)) before after
    → Read (CameWhole (λ bytes. IsReachText request selected bytes (witness_text claim))) before after
witness_read request bad selected claim before after is_bad =
    read_weaker _ _ before after
    (λ bytes ending says. (says.0, witness_is request bad selected claim bytes is_bad says.1))

-- or of a justice property
lasso_is : (request : Reach) (number : ℕ) (selected : Circuit) (reaching : Claim) (bytes : List ℕ)
    → request.property ≡ Justice number
    → ((c : Circuit) → IsWellFormed c → HasSelected None c → selected ≡ selected_of None c
    → ReachedBy c None request.frames bytes reaching)
    → IsReachText request selected bytes (lasso_text (lasso_in number selected reaching))
lasso_is request number selected reaching bytes is_justice reached = record {
  claim = lasso_in number selected reaching;
  claimed = λ c good has same.
      subst (λ (p : Property). IsClaimedBy c p request.frames bytes (lasso_in number selected reaching)) (sym is_justice)
      (lasso_is_claimed number request.frames selected bytes reaching reached c good
      (subst (λ (p : Property). HasProperty p c) is_justice has)
      (subst (λ (p : Property). selected ≡ property_model p c) is_justice same));
  written_as = sym (ap (λ (p : Property). claimed_text p (lasso_in number selected reaching)) is_justice);
}

pub lasso_read : (request : Reach) (number : ℕ) (selected : Circuit) (reaching lasso : Claim) (before after : History)
    → request.property ≡ Justice number → lasso ≡ lasso_in number selected reaching
    → Read (WitnessSays selected None request.frames (Ok reaching)) before after
    → Read (CameWhole (λ bytes. IsReachText request selected bytes (lasso_text lasso))) before after
lasso_read request number selected reaching lasso before after is_justice same =
    read_weaker _ _ before after
    (λ bytes ending says. (
      says.0,
      subst (λ (claim : Claim). IsReachText request selected bytes (lasso_text claim)) (sym same)
          (lasso_is request number selected reaching bytes is_justice says.1),
    ))
