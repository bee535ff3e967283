use Rattle.std.proofs.Common.{◌+◌}
use Rattle.aig_lines.proofs.Cutting.{ended_front, no_feed_behind, none_ended}
use Rattle.aig_lines.proofs.line.ended_lines.Goals as goal

pub returns-in-Some-clause-ended : goal.returns-in-Some-clause-ended
returns-in-Some-clause-ended c =
    rw c.split_at.ensures.front (ended_front c.args.bytes.now c.in-Some.at c.in-Some.ensures.0.high c.in-Some.ensures.1)

pub returns-in-None-clause-ended : goal.returns-in-None-clause-ended
returns-in-None-clause-ended c = none_ended

pub returns-in-Some-clause-all : goal.returns-in-Some-clause-all
returns-in-Some-clause-all c =
    rw c.split_at.ensures.back (no_feed_behind c.args.bytes.now (c.in-Some.at + 1) c.in-Some.ensures.0.after)

pub returns-in-None-clause-all : goal.returns-in-None-clause-all
returns-in-None-clause-all c = no_feed_behind c.args.bytes.now 0 c.in-None.ensures
