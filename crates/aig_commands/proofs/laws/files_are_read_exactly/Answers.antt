use Rattle.aig_binary.proofs.Files.{file_is_read, read_is_file}
use Rattle.aig_commands.proofs.laws.files_are_read_exactly.Goals as goal

pub returns : goal.returns
returns c = λ text limit d. (read_is_file limit text d, file_is_read limit text d)
