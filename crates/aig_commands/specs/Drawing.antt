-- Which text `aigtodot` writes (this project's profile): a circuit is read, and a picture of it is written.
use Rattle.std.specs.Prelude.{◌≡◌, ◌≤◌, ℕ, List, Bool, Option, None, Some, if◌then◌else◌, nat_le, option_and_then}
use Rattle.std.specs.Option.{option_map_or}
use Rattle.aig_circuit.specs.declared.circuit.Circuit.{Circuit}
use Rattle.aig_circuit.specs.Wellformed.{count_of}
use Rattle.aig_command.specs.declared.request.ToDot.{ToDot}
use Rattle.aig_cone.specs.Counts.{gates_in}
use Rattle.aig_cone.specs.declared.search.Reach.{Reach}
use Rattle.aig_cone.specs.declared.search.Reach.TheVariants.{AllSteps, OneStep}
use Rattle.aig_dot.specs.Dot.{dot_text}
use Rattle.aig_dot.specs.Subject.{IsPictureOf, IsTooLarge}
use Rattle.aig_dot.specs.declared.picture.Picture.{Picture}
use Rattle.aig_dot.specs.declared.subject.Subject.{Subject}
use Rattle.aig_dot.specs.declared.subject.Subject.TheVariants.{Cone, Whole}
use Rattle.aig_commands.specs.File.{IsFileOf}
use Rattle.aig_commands.specs.declared.refusal.Refusal.{Refusal}
use Rattle.aig_commands.specs.declared.refusal.Refusal.TheVariants as refusals

abbrev pub reach_for : Bool → Reach
reach_for all_steps = if all_steps then AllSteps else OneStep

-- what is drawn
abbrev pub subject_of : ToDot → Subject
subject_of request =
    option_map_or
    (λ place. Cone (record { kind = place.kind; position = place.position; reach = reach_for request.all_steps }))
    request.cone Whole

-- the place of which a cone is asked for, where the circuit has it not
abbrev pub missing_place : ToDot → Circuit → Option Refusal
missing_place request c =
    option_and_then (λ place. if nat_le (count_of c place.kind) place.position
    then Some (refusals.NotThere place.kind place.position) else None) request.cone

-- the text that is written for these bytes: that of the picture, which has not too many gates
pub record IsDotText (request : ToDot) (bytes text : List ℕ) : Type 0 where
  pub found : Circuit
  pub picture : Picture
  pub read : IsFileOf bytes request.max_var found
  pub is_there : missing_place request found ≡ None
  pub is_picture : IsPictureOf (subject_of request) found picture
  pub is_small : gates_in picture.variables found.gates ≤ request.gates
  pub is_text : text ≡ dot_text picture found

-- there is no such text: the place is not there, or the picture has so many gates
pub data IsNotDrawn (request : ToDot) (bytes : List ℕ) : Refusal → Type 0 where
  is_missing : (found : Circuit) (refusal : Refusal) → IsFileOf bytes request.max_var found
      → missing_place request found ≡ Some refusal → IsNotDrawn request bytes refusal
  is_large : (found : Circuit) (gates : ℕ) → IsFileOf bytes request.max_var found
      → IsTooLarge (subject_of request) found request.gates gates
      → IsNotDrawn request bytes (refusals.TooManyGates gates)
