-- What it says of a file that one of its justice properties became a bad state (AIGER 1.9; the reduction is that of
-- Biere, Artho and Schuppan, 2002), and what is written of one.
use Rattle.std.specs.Prelude.{◌≡◌, ◌↔◌, ◌<◌, ◌≤◌, ℕ, List, false, length}
use Rattle.aig_circuit.specs.declared.circuit.Circuit.{Circuit}
use Rattle.aig_circuit.specs.declared.circuit.TheConstants.{LARGEST}
use Rattle.aig_command.specs.declared.request.BadStates.TheVariants.{Justice}
use Rattle.aig_command.specs.declared.request.Invariant.{Invariant}
use Rattle.aig_command.specs.declared.request.Property.TheVariants as properties
use Rattle.aig_command.specs.declared.request.Reach.{Reach}
use Rattle.aig_command.specs.declared.request.ToAig.{ToAig}
use Rattle.aig_lasso.specs.Endless.{IsFairRun}
use Rattle.aig_lasso.specs.Goals.{with_goals}
use Rattle.aig_lasso.specs.Lasso.{IsLasso}
use Rattle.aig_live.specs.Laws.{lasso_of}
use Rattle.aig_meaning.specs.Meaning.{Row}
use Rattle.aig_witness.specs.declared.verdict.Verdict.TheVariants.{Confirmed}
use Rattle.aig_witness.specs.Witness.{Claim, IsVerdict}
use Rattle.aig_command.specs.declared.request.Sim.{Sim}
use Rattle.aig_lasso.specs.Goaled.{HasGoals}
use Rattle.aig_lasso.specs.declared.verdict.LassoVerdict.TheVariants as lassos
use Rattle.aig_live.specs.Laws.{IsWithoutX}
use Rattle.aig_verdicts.specs.Kinds.{SaysJustice}
use Rattle.aig_verdicts.specs.declared.verdict.WitnessVerdict.TheVariants as verdicts
use Rattle.aig_commands.specs.WitnessOutcome.{IsWitnessAnswer}
use Rattle.aig_commands.specs.Conversion.{IsConversionText}
use Rattle.aig_commands.specs.File.{IsFileOf}
use Rattle.aig_commands.specs.Proving.{IsInvariantModel, IsNeverText, IsStrengthened}
use Rattle.aig_commands.specs.Reaching.{IsReachText, IsSelectedModel}
use Rattle.aig_commands.specs.Refuting.{HasNoLassoWithin, IsNoneText}
use Rattle.aig_replay.specs.WitnessLines.{lasso_text}

-- a conversion of the file of a circuit, at the default limit, makes the file of another one, whose bad state stands for
-- this justice property
pub record TurnsJustice (property : ℕ) (c d : Circuit) : Type 0 where
  pub request : ToAig
  pub file : List ℕ
  pub converted : List ℕ
  pub justice : request.bad_states ≡ Justice property
  pub undo_map : request.undo_map ≡ false
  pub limit : request.max_var ≡ LARGEST
  pub is_text : IsConversionText request file converted
  pub source : IsFileOf file LARGEST c
  pub result : IsFileOf converted LARGEST d

-- No claim of what was written is ever confirmed exactly where the circuit that was read has no fair run: no run without
-- end in which all constraints always hold, and each literal of the property and each fairness constraint is 1 again
-- and again.
abbrev pub NeverExactlyWithoutFairRun : Type 0
NeverExactlyWithoutFairRun = (property : ℕ) (c d : Circuit) → TurnsJustice property c d
    → ((claim : Claim) (step : ℕ) → ¬ IsVerdict d claim (Confirmed step))
    ↔ ((rows : ℕ → Row) → ¬ IsFairRun (with_goals property c) rows)

-- What is confirmed of it is, turned back, a lasso of the circuit that was read.
abbrev pub ConfirmedClaimsAreLassos : Type 0
ConfirmedClaimsAreLassos = (property : ℕ) (c d : Circuit) → TurnsJustice property c d
    → (claim : Claim) (step : ℕ) → IsVerdict d claim (Confirmed step)
    → (start : ℕ) × IsLasso c (lasso_of c property claim step) start

-- Where it is written for a model and one of its justice properties that there is none, no lasso of the model, without
-- x, has fewer steps than there are frames.
abbrev pub RefutationsMeanNoLasso : Type 0
RefutationsMeanNoLasso = (request : Reach) (number : ℕ) (c selected : Circuit) (model text : List ℕ)
    → request.property ≡ properties.Justice number → IsFileOf model request.max_var c
    → IsSelectedModel request model selected → IsNoneText request selected text
    → HasNoLassoWithin c number request.frames

-- Where it is written that there never is one, the model has no fair run.
abbrev pub NeverMeansNoneIsFair : Type 0
NeverMeansNoneIsFair = (request : Invariant) (number : ℕ) (c selected strengthened : Circuit)
    (model invariant text : List ℕ) → request.property ≡ properties.Justice number → IsFileOf model request.max_var c
    → IsInvariantModel request model selected → IsStrengthened selected invariant strengthened
    → IsNeverText request strengthened text → (rows : ℕ → Row) → ¬ IsFairRun (with_goals number c) rows

-- What is written for a solver's answer is the witness file of a lasso of the model, of fewer steps than there are
-- frames.
abbrev pub AnswersAreLassos : Type 0
AnswersAreLassos = (request : Reach) (number : ℕ) (c selected : Circuit) (model answer text : List ℕ)
    → request.property ≡ properties.Justice number → IsFileOf model request.max_var c
    → IsSelectedModel request model selected → IsReachText request selected answer text
    → (claim : Claim) × (start : ℕ) × (claim.property ≡ number) × (length claim.steps < request.frames)
    × IsLasso c claim start × (text ≡ lasso_text claim)

-- Each lasso of a justice property, of not too many goals, is claimed by some witness file. On that, every file of the
-- circuit gets the verdict that it is confirmed, with the first step at which its loop begins.
abbrev pub RightLassosAreConfirmed : Type 0
RightLassosAreConfirmed = (judging : Sim) (c : Circuit) (file : List ℕ) (claim : Claim) (start : ℕ)
    → IsFileOf file judging.max_var c → HasGoals claim.property c → IsLasso c claim start
    → (witness : List ℕ) × SaysJustice c witness claim × (first : ℕ) × (first ≤ start)
    × IsWitnessAnswer judging file witness (verdicts.Justice (lassos.Confirmed first))

-- What is written for a model, one of its justice properties and a solver's answer is a witness file: of the model it is
-- confirmed.
abbrev pub LassoAnswersAreConfirmed : Type 0
LassoAnswersAreConfirmed = (request : Reach) (number : ℕ) (judging : Sim) (c selected : Circuit)
    (model answer text : List ℕ) → request.property ≡ properties.Justice number → judging.max_var ≡ request.max_var
    → IsFileOf model request.max_var c → IsSelectedModel request model selected
    → IsReachText request selected answer text
    → (start : ℕ) × IsWitnessAnswer judging model text (verdicts.Justice (lassos.Confirmed start))

-- Where it is written that there is none within so many frames, no witness file of the property, without x and of fewer
-- steps, is confirmed of the model.
abbrev pub RefutationsMeanNoneIsConfirmed : Type 0
RefutationsMeanNoneIsConfirmed = (request : Reach) (number : ℕ) (judging : Sim) (selected : Circuit)
    (model text witness : List ℕ) (start : ℕ) → request.property ≡ properties.Justice number
    → judging.max_var ≡ request.max_var → IsSelectedModel request model selected → IsNoneText request selected text
    → (confirmed : IsWitnessAnswer judging model witness (verdicts.Justice (lassos.Confirmed start)))
    → length confirmed.claim.steps < request.frames → IsWithoutX confirmed.claim
    → ¬ (confirmed.claim.property ≡ number)

-- Where it is written that there never is one, no witness file of the property is confirmed of the model.
abbrev pub NeverMeansNoneIsConfirmed : Type 0
NeverMeansNoneIsConfirmed = (request : Invariant) (number : ℕ) (judging : Sim) (selected strengthened : Circuit)
    (model invariant text witness : List ℕ) (start : ℕ) → request.property ≡ properties.Justice number
    → judging.max_var ≡ request.max_var → IsInvariantModel request model selected
    → IsStrengthened selected invariant strengthened → IsNeverText request strengthened text
    → (confirmed : IsWitnessAnswer judging model witness (verdicts.Justice (lassos.Confirmed start)))
    → ¬ (confirmed.claim.property ≡ number)
