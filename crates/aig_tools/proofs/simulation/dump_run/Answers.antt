use Rattle.std.proofs.Common.{[], refl}
use Rattle.std.proofs.lemmas.Result.{err_from_is_err_and}
use Rattle.aig_io.specs.Runs.{NotSent}
use Rattle.aig_io.proofs.Runs.{read_weaker}
use Rattle.aig_commands.proofs.Outcomes.{transferred_in_part}
use Rattle.aig_tools.proofs.Tasks.{judged_with, no_dump, transferred_whole}
use Rattle.aig_tools.proofs.simulation.dump_run.Goals as goal

pub returns-in_err-verdict : goal.returns-in_err-verdict
returns-in_err-verdict g c =
    let h = err_from_is_err_and c.from_residual.result c.from_residual.ensures.1 in
    record {
      transferred = rw (h.1, h.2) (read_weaker _ _ _ _
          (λ bytes ending says. record {
            text = [];
            delivery = NotSent;
            says = no_dump _ c.in_err-verdict.field-0.0 bytes [] ending NotSent says refl;
            sent = refl;
          })
          c.in_err-verdict.ensures.read);
    }

pub returns-in_err-sent : goal.returns-in_err-sent
returns-in_err-sent g c =
    let h = err_from_is_err_and c.from_residual-in_err-sent.result c.from_residual-in_err-sent.ensures.1 in
    record {
      transferred = rw (h.1, h.2) (transferred_in_part _ _ _ _ _ _ _
          (λ bytes _ _ says. (says.0, (c.in_ok-verdict.verdict, judged_with _ _ bytes _ says.1), tt))
          c.in_ok-verdict.ensures.read (rw c.as_slice.ensures.value at c.in_err-sent.ensures.err));
    }

pub returns : goal.returns
returns g c =
    record {
      transferred = transferred_whole _ _ _ _ _ _ _ (λ bytes _ says. (says.0, judged_with _ _ bytes _ says.1, refl))
          c.in_ok-verdict.ensures.read (rw c.as_slice.ensures.value at c.in_ok-sent.ensures.ok);
    }
