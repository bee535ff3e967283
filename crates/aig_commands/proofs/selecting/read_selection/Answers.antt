use Rattle.std.proofs.Common.{◌≡◌, None, Some, inl, inr, refl, rules}
use Rattle.aig_commands.specs.File.{IsFileOf}
use Rattle.aig_commands.specs.Jobs.{MakesSelection}
use Rattle.aig_commands.specs.Selecting.{first_missing}
use Rattle.aig_commands.specs.declared.job.Job.TheVariants as jobs
use Rattle.aig_commands.proofs.Readings.{made_after}
use Rattle.aig_commands.proofs.selecting.read_selection.Goals as goal

pub returns-in-Some-clause-read : goal.returns-in-Some-clause-read
returns-in-Some-clause-read g c =
    let request = c.args.request.now in
    let found = c.in_ok-found.found in
    let refusal = c.in-Some.refusal in
    let missing : first_missing request found ≡ Some refusal = search rules in
    made_after (λ bytes. IsFileOf bytes request.max_var found) _ _
    (λ bytes. MakesSelection request bytes (jobs.Refuse refusal))
    (λ bytes file. inr (refusal, record { found = found; read = file; missing = missing }, refl)) c.in_ok-found.ensures

pub returns-clause-read : goal.returns-clause-read
returns-clause-read g c =
    let request = c.args.request.now in
    let found = c.in_ok-found.found in
    let answer = c.in_ok-answer.answer in
    let all_there : first_missing request found ≡ None = search rules in
    made_after (λ bytes. IsFileOf bytes request.max_var found) _ _
    (λ bytes. MakesSelection request bytes (jobs.Write answer))
    (λ bytes file. inl (
      answer,
      record {
        found = found;
        selection = c.in_ok-selection.selection;
        read = file;
        all_there = all_there;
        is_selection = c.in_ok-selection.ensures;
        written_as = c.in_ok-answer.ensures.text;
      },
      refl,
    ))
    c.in_ok-found.ensures
