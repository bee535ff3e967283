use Rattle.std.proofs.Common.{take, flat_map}
use Rattle.aig_io.specs.Output.{Appended}
use Rattle.aig_text.specs.AsciiText.{spaced_number}
use Rattle.aig_text.proofs.writer.put_spaced_numbers.Given as goal

abbrev pub invariant-loop-number : goal.invariant-loop-number
invariant-loop-number g l = Appended l.fn.output l.output (flat_map spaced_number (take l.number-index l.numbers))
