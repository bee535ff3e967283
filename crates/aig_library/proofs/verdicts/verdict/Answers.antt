use Rattle.std.proofs.Common.{inr}
use Rattle.std.proofs.lemmas.Result.{err_from_is_err_and}
use Rattle.aig_verdicts.specs.Judged.{IsUnjudged}
use Rattle.aig_library.specs.Answers.{IsWitnessRefused}
use Rattle.aig_library.specs.Asked.{simulation}
use Rattle.aig_library.proofs.Answered.{stops_as}
use Rattle.aig_library.proofs.verdicts.verdict.Goals as goal

pub returns-in_err-judged-clause-err : goal.returns-in_err-judged-clause-err
returns-in_err-judged-clause-err c =
    let h = err_from_is_err_and c.from_residual-in_err-judged.result c.from_residual-in_err-judged.ensures.1 in
    let found = c.in_ok-found.found in
    let witness = c.args.witness.now in
    rw (h.1, h.2) (stops_as (IsUnjudged found witness)
    (IsWitnessRefused (simulation 0 c.args.max_var) c.args.model.now witness) c.in_err-judged.field-0.0
    (λ fault bad. inr (found, c.in_ok-found.ensures.ok, bad)) c.in_err-judged.ensures.err)

pub returns-clause-ok : goal.returns-clause-ok
returns-clause-ok c =
    let judged = c.in_ok-judged.ensures.ok in
    record {
      found = c.in_ok-found.found;
      claim = judged.claim;
      read = c.in_ok-found.ensures.ok;
      says = judged.says;
      is_verdict = judged.is_verdict;
    }
