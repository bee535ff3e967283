use Rattle.std.proofs.Common.{take, flat_map}
use Rattle.aig_io.specs.Output.{Appended}
use Rattle.aig_circuit.specs.declared.circuit.Latch.{Latch}
use Rattle.aig_text.specs.AsciiText.{row_text}
use Rattle.aig_rows.specs.Rows.{next_row}
use Rattle.aig_binary.proofs.writer.put_next_lines.Given as goal

abbrev pub invariant-loop-latch : goal.invariant-loop-latch
invariant-loop-latch g l =
    Appended l.fn.output l.output
    (flat_map (λ (l : Latch). row_text 0 (next_row l)) (take l.latch-index l.latches))
