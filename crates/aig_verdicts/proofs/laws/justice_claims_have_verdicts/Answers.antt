use Rattle.aig_verdicts.proofs.Verdicts.{justice_claims_have_verdicts}
use Rattle.aig_verdicts.proofs.laws.justice_claims_have_verdicts.Goals as goal

pub returns : goal.returns
returns c = justice_claims_have_verdicts
