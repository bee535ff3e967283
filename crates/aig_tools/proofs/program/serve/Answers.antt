use Rattle.std.proofs.Common.{Err, refl}
use Rattle.aig_tools.proofs.program.serve.Goals as goal

pub returns-in-Err-clause-ends : goal.returns-in-Err-clause-ends
returns-in-Err-clause-ends g c =
    rw (← c.world-in-Err.view_is) (
      Err c.in-Err.usage,
      c.in-Err.ensures.err,
      (
        c.refuse-status-in-Err.ensures.status,
        record { alone = refl; reported = c.refuse-status-in-Err.ensures.reported },
      ),
    )
