use Rattle.std.specs.List.{range_with_len}
use Rattle.aig_io.specs.Output.{Appended}
use Rattle.aig_unroll.specs.Parts.Writing.{input_lines}
use Rattle.aig_unroll.proofs.writing.put_inputs.Given as goal

abbrev pub invariant-loop-before : goal.invariant-loop-before
invariant-loop-before g l = Appended l.fn.output l.output (input_lines (range_with_len 1 l.before))
