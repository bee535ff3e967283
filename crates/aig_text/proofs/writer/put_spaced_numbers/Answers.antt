use Rattle.std.proofs.Common.{arith, refl}
use Rattle.aig_io.proofs.Puts.{put_more}
use Rattle.aig_text.specs.AsciiText.{spaced_number}
use Rattle.aig_text.proofs.writer.put_spaced_numbers.Goals as goal

pub loop-number-preserved : goal.loop-number-preserved
loop-number-preserved g c =
    put_more spaced_number _ _ 0 _ _ _ _ refl c.loop-number.invariant c.put_spaced_number.ensures (omega arith)
