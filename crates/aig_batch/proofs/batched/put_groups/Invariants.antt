use Rattle.std.proofs.Common.{◌≡◌, take, All}
use Rattle.aig_lanes.specs.Parts.Benches.{HasRoomFor}
use Rattle.aig_batch.specs.Parts.RunsRead.{AppendedRuns}
use Rattle.aig_batch.proofs.batched.put_groups.Given as goal

abbrev pub invariant-loop-group : goal.invariant-loop-group
invariant-loop-group g l = record {
  asks : l.bench.shown.columns ≡ l.fn.bench.shown.columns;
  room : All (HasRoomFor l.machine l.bench) l.groups;
  put : AppendedRuns g.T.RowTaker.took l.machine l.fn.bench.shown.columns (take l.group-index l.groups) l.fn.output
      l.output;
}
