use Rattle.std.proofs.Common.{◌≡◌, ◌+◌, ◌^◌, ◌≤◌, [], false, length}
use Rattle.aig_lines.proofs.Tells.{Reached}
use Rattle.aig_trace.specs.Parts.Saying.{longest_entry, nothing_said, say_line}
use Rattle.aig_trace.specs.Parts.Tracing.{HasTraced, tracing_task}
use Rattle.aig_trace.proofs.stream.trace_all.Given as goal

abbrev pub invariant-loop-count : goal.invariant-loop-count
invariant-loop-count g l =
    let r = g.R.Source in
    let rows = g.T.RowTaker in
    let inputs = length l.fn.lines.tracing.circuit.inputs in
    record {
      reached : Reached say_line (HasTraced rows.took) (longest_entry inputs)
          (nothing_said (tracing_task l.fn.lines) inputs) (r.history l.fn.source) (r.history l.source) l.feeder l.lines;
      going : l.feeder.refused ≡ false;
      settled : l.lines.waiting ≡ [];
      sent : rows.is_settled l.lines.output;
      fine : rows.failed l.lines.output ≡ false;
      number : r.bound l.source ≤ 2 ^ 62 → l.feeder.number + r.bound l.source ≤ 2 ^ 62 + 1;
    }

abbrev pub decreases-loop-count : goal.decreases-loop-count
decreases-loop-count g l = g.R.Source.bound l.source
