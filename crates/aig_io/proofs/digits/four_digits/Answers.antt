use Rattle.aig_io.proofs.FourDigits.{digits_at}
use Rattle.aig_io.proofs.digits.four_digits.Goals as goal

pub returns : goal.returns
returns c = digits_at c.args.number c.requires
