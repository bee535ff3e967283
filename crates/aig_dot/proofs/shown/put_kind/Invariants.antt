use Rattle.std.proofs.Common.{take}
use Rattle.std.specs.List.{flat_map, range_with_len}
use Rattle.aig_circuit.specs.Wellformed.{count_of}
use Rattle.aig_io.specs.Output.{Appended}
use Rattle.aig_dot.specs.Dot.{statements_text}
use Rattle.aig_dot.specs.Graph.{shown_part}
use Rattle.aig_dot.proofs.shown.put_kind.Given as goal

abbrev pub invariant-loop-position : goal.invariant-loop-position
invariant-loop-position g l =
    Appended l.fn.output l.output (statements_text (flat_map (shown_part l.circuit l.kind)
    (take l.position (range_with_len 0 (count_of l.circuit l.kind)))))
