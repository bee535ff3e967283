use Rattle.std.proofs.Common.{take}
use Rattle.std.specs.List.{enumerate_from, flat_map}
use Rattle.std.specs.FinSet as set
use Rattle.aig_io.specs.Output.{Appended}
use Rattle.aig_dot.specs.Dot.{statements_text}
use Rattle.aig_dot.specs.Graph.{latch_part}
use Rattle.aig_dot.proofs.entries.put_latches.Given as goal

abbrev pub invariant-loop-at : goal.invariant-loop-at
invariant-loop-at g l =
    Appended l.fn.output l.output (statements_text (flat_map (latch_part (set.contains l.shown) l.reach
    l.circuit.symbols) (take l.at (enumerate_from 0 l.latches))))
