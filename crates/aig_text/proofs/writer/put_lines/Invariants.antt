use Rattle.std.proofs.Common.{take, flat_map}
use Rattle.aig_io.specs.Output.{Appended}
use Rattle.aig_text.proofs.writer.put_lines.Given as goal

abbrev pub invariant-loop-item : goal.invariant-loop-item
invariant-loop-item g l =
    Appended l.fn.output l.output
    (flat_map g.T.NumberedLine.line (take l.item-index l.items))
