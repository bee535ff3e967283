use Rattle.std.proofs.Common.{ℕ, List}
use Rattle.aig_io.specs.Runs.{AtEnd}
use Rattle.aig_commands.specs.Jobs.{Makes, Refuses}
use Rattle.aig_commands.specs.declared.job.Job.{Job}
use Rattle.aig_library.proofs.Lents.{refused, stopped, whole}
use Rattle.aig_library.proofs.memory.read_bytes.Goals as goal

pub returns-clause-made : goal.returns-clause-made
returns-clause-made c =
    whole c.args.bytes.now _ c.gives_its_bytes.ensures
    (λ (next : Job) (bytes : List ℕ). Makes c.args.reading bytes next) (Refuses c.args.reading) c.read-read.result
    (rw c.in_ok-source.ensures at c.read-read.ensures.read)

pub returns-clause-err : goal.returns-clause-err
returns-clause-err c =
    stopped c.args.bytes.now _ c.gives_its_bytes.ensures
    (λ (next : Job) (bytes : List ℕ). Makes c.args.reading bytes next) (Refuses c.args.reading)
    (λ fault. Refuses c.args.reading fault c.args.bytes.now AtEnd) c.read-read.result
    (refused c.args.bytes.now _ c.gives_its_bytes.ensures c.args.reading)
    (rw c.in_ok-source.ensures at c.read-read.ensures.read)
