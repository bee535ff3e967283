use Rattle.std.proofs.Common.{inl}
use Rattle.aig_dump.proofs.run_dump.reason_for_no_dump.Goals as goal

pub returns-in-Refused : goal.returns-in-Refused
returns-in-Refused c = λ circuit witness holds. inl (rw c.in-Refused.is at holds)
