use Rattle.std.proofs.Common.{ap}
use Rattle.aig_command.specs.Answer.{name_of}
use Rattle.aig_tools.proofs.NamedFiles.{transferred_of_stream}
use Rattle.aig_tools.proofs.world.World.answer_steps.Goals as goal

pub returns-in-Some-clause-transferred : goal.returns-in-Some-clause-transferred
returns-in-Some-clause-transferred g c =
    rw (← c.self.view_is, ap name_of c.in-Some.is) (rw c.as_str.ensures.value at c.answer_named.ensures.transferred _ _)

pub returns-in-None-clause-transferred : goal.returns-in-None-clause-transferred
returns-in-None-clause-transferred g c =
    rw (← c.self.view_is) (transferred_of_stream _ _ _ _ _ _ _ _ _ (ap name_of c.in-None.is)
    c.perform.ensures.transferred)
