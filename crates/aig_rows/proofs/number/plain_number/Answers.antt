use Rattle.std.proofs.Common.{rules, zero-add}
use Rattle.aig_rows.proofs.Canonical.{plain_number_is}
use Rattle.aig_rows.proofs.number.plain_number.Goals as goal

pub returns : goal.returns
returns c = search (rules, zero-add, plain_number_is)
