use Rattle.aig_equal.proofs.Whole.{alike_exactly_where_unreached}
use Rattle.aig_equal.proofs.laws.alike_exactly_where_unreached.Goals as goal

pub returns : goal.returns
returns c = alike_exactly_where_unreached
