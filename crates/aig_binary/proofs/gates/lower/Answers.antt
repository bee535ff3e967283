use Rattle.aig_binary.proofs.gates.lower.Goals as goal

pub split_at-requires : goal.split_at-requires
split_at-requires c = ((c.get_delta.ensures.spelled c.in-Some.delta c.in-Some.count).0 c.in-Some.is).0
