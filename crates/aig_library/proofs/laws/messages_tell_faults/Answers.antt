use Rattle.aig_library.proofs.Messages as messages
use Rattle.aig_library.proofs.laws.messages_tell_faults.Goals as goal

pub returns : goal.returns
returns c = messages.messages_tell_faults
