use Rattle.aig_dump.proofs.Runs.{run_dumped}
use Rattle.aig_dump.proofs.run_dump.dump_from.Goals as goal

pub returns-in-Ok : goal.returns-in-Ok
returns-in-Ok c = λ claim text.
    run_dumped c.args.found claim c.args.first.now c.args.steps.now _ text
    (rw c.started_by-started.ensures at c.in-Ok.ensures.text)
