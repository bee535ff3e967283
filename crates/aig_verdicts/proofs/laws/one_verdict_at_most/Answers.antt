use Rattle.aig_verdicts.proofs.Verdicts.{one_verdict_at_most}
use Rattle.aig_verdicts.proofs.laws.one_verdict_at_most.Goals as goal

pub returns : goal.returns
returns c = one_verdict_at_most
