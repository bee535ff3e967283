use Rattle.std.proofs.Common.{Some}
use Rattle.aig_binary.proofs.Deltas.Reading.{answers}
use Rattle.aig_binary.proofs.delta.get_delta.Goals as goal

pub returns-clause-spelled : goal.returns-clause-spelled
returns-clause-spelled c =
    answers c.args.bytes.now c.get_groups.result c.get_groups.ensures.delta c.get_groups.ensures.within

pub returns-in-Some-clause-spelled : goal.returns-in-Some-clause-spelled
returns-in-Some-clause-spelled c =
    answers c.args.bytes.now (Some c.in-Some.short) c.in-Some.ensures.delta c.in-Some.ensures.within
