use Rattle.std.proofs.Common.{◌≡◌, ◌++◌, ap, inr, rules, string_bytes}
use Rattle.std.proofs.lemmas.Result.{err_from_is_err_and}
use Rattle.aig_claims.specs.RunDump.{IsUndumped, comment_line}
use Rattle.aig_library.specs.Answers.{IsDumpRefused}
use Rattle.aig_library.specs.Asked.{simulation}
use Rattle.aig_library.proofs.Answered.{stops_as, stops_within}
use Rattle.aig_library.proofs.witness_dump.verdict_and_dump.Goals as goal

pub returns-in-Ok-clause-ok : goal.returns-in-Ok-clause-ok
returns-in-Ok-clause-ok c =
    let (judged, is_run) = c.in_ok-verdict.ensures.ok in
    let run = c.in_ok-verdict.run'.items in
    let comment : string_bytes c.in-Ok.comment ≡ comment_line c.in_ok-verdict.verdict = search rules in
    record {
      answer = record {
        found = c.in_ok-found.found;
        claim = judged.claim;
        read = c.in_ok-found.ensures.ok;
        says = judged.says;
        is_verdict = judged.is_verdict;
      };
      is_dump = record { run = run; is_run = is_run; is_text = ap (λ text. text ++ run) comment };
    }

pub returns-in_err-verdict-clause-err : goal.returns-in_err-verdict-clause-err
returns-in_err-verdict-clause-err c =
    let h = err_from_is_err_and c.from_residual-in_err-verdict.result c.from_residual-in_err-verdict.ensures.1 in
    let found = c.in_ok-found.found in
    let witness = c.args.witness.now in
    let stopped = c.in_err-verdict.field-0.0 in
    rw (h.1, h.2) (stops_as (IsUndumped found witness)
    (IsDumpRefused (simulation 0 c.args.max_var) c.args.model.now witness) stopped
    (λ fault bad. inr (found, c.in_ok-found.ensures.ok, bad))
    (stops_within (IsUndumped found witness) stopped c.in_err-verdict.ensures.err))
