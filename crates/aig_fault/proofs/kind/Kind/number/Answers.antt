use Rattle.aig_fault.proofs.Numbers.{tag_is_number}
use Rattle.aig_fault.proofs.kind.Kind.number.Goals as goal

pub returns : goal.returns
returns c = tag_is_number c.args.self
