use Rattle.std.proofs.Common.{ap, rules}
use Rattle.aig_command.specs.Answer.{name_of}
use Rattle.aig_tools.proofs.NamedFiles.{of_file}
use Rattle.aig_tools.proofs.world.World.read.Goals as goal

pub returns-in-Some-clause-read : goal.returns-in-Some-clause-read
returns-in-Some-clause-read g c =
    rw (← c.self.view_is) (of_file _ _ _ _ _ _ _ _ _ _ _ c.new-file.result c.read-next.new.source
    (ap name_of c.in-Some.is)
    (rw c.as_str.ensures.value at c.new-file.ensures) (rw (← c.self.view_is) at c.requires.ready) (search rules)
    c.read-next.ensures.read)
