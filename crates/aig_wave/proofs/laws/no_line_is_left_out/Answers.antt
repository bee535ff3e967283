use Rattle.aig_wave.proofs.Counting.{no_line_is_left_out}
use Rattle.aig_wave.proofs.laws.no_line_is_left_out.Goals as goal

pub returns : goal.returns
returns c = no_line_is_left_out
