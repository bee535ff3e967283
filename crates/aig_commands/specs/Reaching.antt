-- Which witness is written for a solver's answer (this project's profile): a model is read, what stands for the property
-- is run by the values of the answer, and where a bad state is reached, that is claimed.
use Rattle.std.specs.Prelude.{◌≡◌, ℕ, List, None, Some, false}
use Rattle.aig_circuit.specs.declared.circuit.Circuit.{Circuit}
use Rattle.aig_circuit.specs.Wellformed.{IsWellFormed}
use Rattle.aig_io.specs.Runs.{AtEnd}
use Rattle.aig_witness.specs.Witness.{Claim}
use Rattle.aig_live.specs.Laws.{lasso_of, live}
use Rattle.aig_replay.specs.Reached.{NotFoundBy, ReachedBy}
use Rattle.aig_replay.specs.WitnessLines.{lasso_text, witness_text}
use Rattle.aig_command.specs.declared.request.Property.{Property}
use Rattle.aig_command.specs.declared.request.Property.TheVariants.{AnyBad, Bad, Justice}
use Rattle.aig_command.specs.declared.request.Reach.{Reach}
use Rattle.aig_command.specs.declared.request.Unroll.{Unroll}
use Rattle.aig_command.specs.declared.request.UnrolledForm.TheVariants.{Clauses}
use Rattle.aig_fault.specs.declared.fault.Fault.{Fault}
use Rattle.aig_fault.specs.declared.stopped.Stopped.TheVariants.{Refused}
use Rattle.aig_commands.specs.Property.{HasProperty, property_model}
use Rattle.aig_commands.specs.Unrolling.{IsUnrollingRefused, IsUnrollingText}

-- the request for the clauses of the model, before they are simplified
abbrev pub clauses_selected : Reach → Unroll
clauses_selected request = record {
  frames = request.frames;
  form = Clauses request.property;
  simplify = false;
  max_var = request.max_var;
}

-- The model is the file of a circuit that has these clauses, and this circuit stands for the property of that.
pub record IsSelectedModel (request : Reach) (model : List ℕ) (selected : Circuit) : Type 0 where
  pub clauses : List ℕ
  pub has_clauses : IsUnrollingText (clauses_selected request) model clauses
  pub selected_is : selected ≡ property_model request.property has_clauses.found

-- The model has no such clauses, for this reason.
abbrev pub IsModelRefused : Reach → Fault → List ℕ → Type 0
IsModelRefused request = IsUnrollingRefused (clauses_selected request)

-- By the answer this is claimed of the circuit: that a bad state is reached; or a lasso, by which the bad state of the
-- circuit is reached that stands for a justice property.
abbrev pub IsClaimedBy : Circuit → Property → ℕ → List ℕ → Claim → Type 0
IsClaimedBy c AnyBad frames answer claim = ReachedBy c None frames answer claim
IsClaimedBy c (Bad number) frames answer claim = ReachedBy c (Some number) frames answer claim
IsClaimedBy c (Justice number) frames answer claim =
    (reaching : Claim) × (reached : ReachedBy (live number c) None frames answer reaching)
    × (claim ≡ lasso_of c number reaching reached.hit.step)

-- the witness file of a claim
abbrev pub claimed_text : Property → Claim → List ℕ
claimed_text (Justice number) claim = lasso_text claim
claimed_text property claim = witness_text claim

-- The text that is written for these bytes of an answer on the clauses of this circuit: the witness of a claim of each
-- circuit for whose property this one stands.
pub record IsReachText (request : Reach) (selected : Circuit) (answer text : List ℕ) : Type 0 where
  pub claim : Claim
  pub claimed : (c : Circuit) → IsWellFormed c → HasProperty request.property c
      → selected ≡ property_model request.property c → IsClaimedBy c request.property request.frames answer claim
  pub written_as : text ≡ claimed_text request.property claim

-- The answer gives no witness, for this reason.
abbrev pub IsReachRefused : Reach → Circuit → Fault → List ℕ → Type 0
IsReachRefused request selected fault answer = NotFoundBy selected request.frames (Refused fault) answer AtEnd
