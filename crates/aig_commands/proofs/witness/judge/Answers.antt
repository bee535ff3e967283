use Rattle.std.proofs.Common.{[], refl}
use Rattle.std.proofs.lemmas.Result.{err_from_is_err_and}
use Rattle.aig_io.specs.Runs.{NotSent}
use Rattle.aig_io.proofs.Runs.{read_weaker}
use Rattle.aig_commands.proofs.Outcomes.{not_judged, transferred_in_part}
use Rattle.aig_commands.proofs.witness.judge.Goals as goal

pub returns-in_err-verdict : goal.returns-in_err-verdict
returns-in_err-verdict g c =
    let h = err_from_is_err_and c.from_residual.result c.from_residual.ensures.1 in
    record {
      transferred = rw (h.1, h.2) (read_weaker _ _ _ _
          (λ bytes ending says. record {
            text = [];
            delivery = NotSent;
            says = not_judged _ c.in_err-verdict.field-0.0 bytes [] ending NotSent says refl;
            sent = refl;
          })
          c.in_err-verdict.ensures.read);
    }

pub returns-in_err-send_answer : goal.returns-in_err-send_answer
returns-in_err-send_answer g c =
    let h =
    err_from_is_err_and c.from_residual-in_err-send_answer.result c.from_residual-in_err-send_answer.ensures.1 in
    record {
      transferred = rw (h.1, h.2) (transferred_in_part _ _ _ _ _ _ _
          (λ _ _ _ says. (c.in_ok-verdict.verdict, says, refl, tt))
          c.in_ok-verdict.ensures.read c.in_err-send_answer.ensures.err);
    }
