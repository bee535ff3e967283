use Rattle.aig_commands.proofs.TripsExist.{mapped_text_has_no_fault}
use Rattle.aig_commands.proofs.laws.mapped_texts_have_no_fault.Goals as goal

pub returns : goal.returns
returns c = mapped_text_has_no_fault
