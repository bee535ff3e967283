use Rattle.std.specs.Prelude.{take}
use Rattle.aig_trace.specs.Parts.Taking.{KeepsLanes}
use Rattle.aig_trace.specs.Parts.Tracing.{Did}
use Rattle.aig_trace.specs.Parts.Waits.{entries_of}
use Rattle.aig_trace.proofs.side_by_side.SideBySide.put_lines.Given as goal

abbrev pub invariant-loop-line : goal.invariant-loop-line
invariant-loop-line g l = record {
  did : Did g.T.RowTaker.took l.fn.self.tracer l.self.tracer
      (take l.line (entries_of l.fn.self.waiting)) l.fn.output l.output;
  lanes : KeepsLanes l.fn.self l.self;
}
