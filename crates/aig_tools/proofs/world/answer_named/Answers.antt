use Rattle.std.proofs.Common.{refl, rules}
use Rattle.aig_tools.proofs.NamedFiles.{transferred_of_file}
use Rattle.aig_tools.proofs.world.answer_named.Goals as goal

pub returns-clause-transferred : goal.returns-clause-transferred
returns-clause-transferred g c = λ input errors.
    transferred_of_file _ _ _ _ input _ _ errors _ _ _ _ _ _ refl c.new-file.ensures c.requires.idle (search rules)
    c.perform-done.ensures.transferred
