use Rattle.std.proofs.Common.{take}
use Rattle.std.specs.List.{flat_map}
use Rattle.std.specs.FinSet as set
use Rattle.aig_io.specs.Output.{Appended}
use Rattle.aig_dot.specs.Dot.{statements_text}
use Rattle.aig_dot.specs.Graph.{gate_part}
use Rattle.aig_dot.proofs.entries.put_gates.Given as goal

abbrev pub invariant-loop-gate : goal.invariant-loop-gate
invariant-loop-gate g l =
    Appended l.fn.output l.output (statements_text (flat_map (gate_part (set.contains l.shown))
    (take l.gate-index l.gates)))
