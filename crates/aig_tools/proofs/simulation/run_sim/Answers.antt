use Rattle.std.proofs.Common.{inl, inr, refl}
use Rattle.std.proofs.lemmas.Result.{err_from_is_err_and}
use Rattle.aig_io.proofs.Runs.{transferred_weaker}
use Rattle.aig_tools.proofs.Tasks.{unjudged}
use Rattle.aig_tools.proofs.simulation.run_sim.Goals as goal

pub returns-in_err-found : goal.returns-in_err-found
returns-in_err-found g c =
    let h = err_from_is_err_and c.from_residual.result c.from_residual.ensures.1 in
    record {
      transferred = rw (h.1, h.2) (inl (
        c.in_err-found.field-0.0,
        refl,
        c.in_err-found.ensures,
        refl,
        refl,
      ));
    }

pub returns-in_err-perform : goal.returns-in_err-perform
returns-in_err-perform g c =
    let h = err_from_is_err_and c.from_residual-in_err-perform.result c.from_residual-in_err-perform.ensures.1 in
    record {
      transferred = rw (h.1, h.2) (inr (
        c.in_ok-found.found,
        c.in_ok-found.ensures,
        rw c.task_of.ensures at c.in_err-perform.ensures.transferred,
      ));
    }

pub returns : goal.returns
returns g c = record {
  transferred = inr (
    c.in_ok-found.found,
    c.in_ok-found.ensures,
    transferred_weaker _ _ _ _ _ _
        (λ bytes ending text delivery. unjudged c.args.request.now c.in_ok-found.found _ bytes ending text delivery
        c.requires.traced)
        (rw c.task_of.ensures at c.in_ok-perform.ensures.transferred),
  );
}
