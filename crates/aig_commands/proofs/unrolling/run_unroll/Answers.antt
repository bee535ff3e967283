use Rattle.std.proofs.lemmas.Result.{err_from_is_err_and}
use Rattle.aig_commands.specs.Unrolling.{IsUnrollingRefused, IsUnrollingText}
use Rattle.aig_commands.proofs.Outcomes.{not_run, run_so}
use Rattle.aig_commands.proofs.unrolling.run_unroll.Goals as goal

pub returns-in_err-read_unrolling : goal.returns-in_err-read_unrolling
returns-in_err-read_unrolling g c =
    let h = err_from_is_err_and c.from_residual.result c.from_residual.ensures.1 in
    record {
      transferred = rw (h.1, h.2) (not_run (IsUnrollingText c.args.request.now) (IsUnrollingRefused c.args.request.now)
          _ _ _
          c.in_err-read_unrolling.field-0.0 c.in_err-read_unrolling.ensures.read);
    }

pub returns : goal.returns
returns g c = record {
  transferred = run_so (IsUnrollingText c.args.request.now) (IsUnrollingRefused c.args.request.now) _ _ _ c.write.result
      _ _
      c.in_ok-read_unrolling.ensures.read c.write.ensures.ok c.write.ensures.err c.write.ensures.stopped;
}
