use Rattle.aig_commands.proofs.Compared.{one_miter_text}
use Rattle.aig_commands.proofs.comparing_laws.miter_texts_are_unambiguous.Goals as goal

pub returns : goal.returns
returns c = one_miter_text
