use Rattle.std.proofs.Common.{◌≡◌, ◌≤◌, ◌∙◌, None, Some, inl, inr, refl, rules}
use Rattle.aig_cone.specs.Counts.{gates_in}
use Rattle.aig_dot.specs.Dot.{dot_text}
use Rattle.aig_dot.specs.Subject.{IsPictureOf, IsTooLarge}
use Rattle.aig_commands.specs.Drawing.{IsDotText, IsNotDrawn, is_large, is_missing, missing_place, subject_of}
use Rattle.aig_commands.specs.File.{IsFileOf}
use Rattle.aig_commands.specs.Jobs.{MakesPicture}
use Rattle.aig_commands.specs.declared.answer.Answer.TheVariants as answers
use Rattle.aig_commands.specs.declared.job.Job.TheVariants as jobs
use Rattle.aig_commands.specs.declared.refusal.Refusal.TheVariants as refusals
use Rattle.aig_commands.proofs.Readings.{made_after}
use Rattle.aig_commands.proofs.Texts.{picture_begins}
use Rattle.aig_commands.proofs.drawing.read_drawing.Goals as goal

pub returns-in-Some-clause-read : goal.returns-in-Some-clause-read
returns-in-Some-clause-read g c =
    let request = c.args.request.now in
    let found = c.in_ok-found.found in
    let refusal = c.in-Some.refusal in
    let missing : missing_place request found ≡ Some refusal = search rules in
    made_after (λ bytes. IsFileOf bytes request.max_var found) _ _
    (λ bytes. MakesPicture request bytes (jobs.Refuse refusal))
    (λ bytes file. inr (refusal, is_missing found refusal file missing, refl)) c.in_ok-found.ensures

pub returns-in-Ok-clause-read : goal.returns-in-Ok-clause-read
returns-in-Ok-clause-read g c =
    let request = c.args.request.now in
    let found = c.in_ok-found.found in
    let picture = c.in-Ok.picture in
    let is_there : missing_place request found ≡ None = search rules in
    let is_picture : IsPictureOf (subject_of request) found picture = search rules in
    let is_small : gates_in picture.variables found.gates ≤ request.gates = search rules in
    made_after (λ bytes. IsFileOf bytes request.max_var found) _ _
    (λ bytes. MakesPicture request bytes (jobs.Write (answers.Picture picture found)))
    (λ bytes file. inl (
      answers.Picture picture found,
      record {
        found = found;
        picture = picture;
        read = file;
        is_there = is_there;
        is_picture = is_picture;
        is_small = is_small;
        is_text = refl;
      },
      refl,
    ))
    c.in_ok-found.ensures

pub returns-in-Ok-clause-can_do : goal.returns-in-Ok-clause-can_do
returns-in-Ok-clause-can_do g c = picture_begins c.in-Ok.picture c.in_ok-found.found

pub returns-in-Err-TooLarge-clause-read : goal.returns-in-Err-TooLarge-clause-read
returns-in-Err-TooLarge-clause-read g c =
    let request = c.args.request.now in
    let found = c.in_ok-found.found in
    let gates = c.in-Err-TooLarge.gates in
    let large : IsTooLarge (subject_of request) found request.gates gates =
    rw (← c.circuit-2.ensures.value, ← c.subject_of.ensures) (c.in-Err-TooLarge.ensures.large gates c.in-Err-TooLarge.field-0-is) in
    made_after (λ bytes. IsFileOf bytes request.max_var found) _ _
    (λ bytes. MakesPicture request bytes (jobs.Refuse (refusals.TooManyGates gates)))
    (λ bytes file. inr (refusals.TooManyGates gates, is_large found gates file large, refl)) c.in_ok-found.ensures
