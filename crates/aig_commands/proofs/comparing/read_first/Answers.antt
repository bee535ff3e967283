use Rattle.std.proofs.Common.{rules}
use Rattle.aig_fault.specs.Stopping.{StopsFor}
use Rattle.aig_commands.specs.Comparing.{IsAccepted, IsFirst, NotAccepted, NotFirst}
use Rattle.aig_commands.specs.File.{IsFileOf}
use Rattle.aig_commands.proofs.Comparings.{not_first}
use Rattle.aig_commands.proofs.Readings.{made_after, stopped_after}
use Rattle.aig_commands.proofs.comparing.read_first.Goals as goal

pub returns-in-Ok-clause-read : goal.returns-in-Ok-clause-read
returns-in-Ok-clause-read g c =
    let request = c.args.request.now in
    let first = c.in_ok-first.first in
    let accepted : IsAccepted request first = search rules in
    made_after (λ bytes. IsFileOf bytes request.max_var first) _ _ (λ bytes. IsFirst request bytes first)
    (λ bytes file. record { read = file; accepted = accepted }) c.in_ok-first.ensures

pub returns-in-Err-clause-read : goal.returns-in-Err-clause-read
returns-in-Err-clause-read g c =
    let request = c.args.request.now in
    let first = c.in_ok-first.first in
    let why : StopsFor (NotAccepted request first) c.in-Err.stopped = search rules in
    stopped_after (λ bytes. IsFileOf bytes request.max_var first) _ _ (NotFirst request) c.in-Err.stopped
    (λ bytes. not_first request bytes first c.in-Err.stopped why) c.in_ok-first.ensures
