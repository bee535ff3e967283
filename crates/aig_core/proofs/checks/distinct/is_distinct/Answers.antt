use Rattle.aig_core.proofs.Checking.Faultless.{part_once, part_twice}
use Rattle.aig_core.proofs.checks.distinct.is_distinct.Goals as goal

pub returns-in-Ok : goal.returns-in-Ok
returns-in-Ok c = part_once c.in_ok-seen.seen c.args.part.now c.in_ok-seen.ensures c.in-Ok.ensures.ok

pub returns-in-Err-Refused : goal.returns-in-Err-Refused
returns-in-Err-Refused c =
    part_twice c.in_ok-seen.seen _ c.args.part.now c.in_ok-seen.ensures
    (rw c.in-Err-Refused.field-0-is at c.in-Err-Refused.ensures.err)
