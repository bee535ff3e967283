use Rattle.std.proofs.Common.{subst, sym}
use Rattle.aig_io.specs.Runs.{Ending}
use Rattle.aig_verdicts.proofs.Ends.{stopped_too}
use Rattle.aig_verdicts.proofs.witness.judge_if_read.Goals as goal
use Rattle.aig_verdicts.specs.Judged.{WitnessSays}

pub returns-in-Ok : goal.returns-in-Ok
returns-in-Ok c = λ circuit bytes ending like says.
    let told = rw c.in-Ok.is at says in
    subst (λ (e : Ending). WitnessSays c.args.checked.now c.judge_read.result bytes e) (sym told.0)
    (c.judge_read.ensures bytes (record { circuit = circuit; like = like; read = told.1 }))

pub returns-in-Err : goal.returns-in-Err
returns-in-Err c = λ circuit bytes ending like says.
    let told = rw c.in-Err.is at says in
    stopped_too c.args.checked.now circuit like c.in-Err.stopped c.args.reader.now bytes ending told
