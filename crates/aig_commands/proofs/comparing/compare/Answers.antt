use Rattle.std.proofs.Common.{rules}
use Rattle.aig_commands.specs.Comparing.{IsPaired}
use Rattle.aig_commands.proofs.Comparings.{not_made}
use Rattle.aig_commands.proofs.comparing.compare.Goals as goal

pub returns-in-Ok-clause-err : goal.returns-in-Ok-clause-err
returns-in-Ok-clause-err c =
    let request = c.args.request.now in
    let is_paired : IsPaired request.by_name c.args.first c.args.second c.in-Ok.paired = search rules in
    not_made request c.args.first c.args.second c.in-Ok.paired c.miter.result is_paired c.miter.ensures.answer
