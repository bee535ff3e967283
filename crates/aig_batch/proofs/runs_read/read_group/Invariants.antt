use Rattle.std.proofs.Common.{◌≡◌, ◌+◌, ◌-◌, ◌≤◌, List, length, All, flat_map}
use Rattle.aig_circuit.specs.declared.value.Val.{Val}
use Rattle.aig_lanes.specs.declared.run.Run.{Run}
use Rattle.aig_batch.specs.Parts.RunsRead.{HasNoBadLine, SaysEntries, entries_of_run}
use Rattle.aig_batch.proofs.runs_read.read_group.Given as goal

abbrev pub invariant-loop-rest : goal.invariant-loop-rest
invariant-loop-rest l = record {
  says : SaysEntries l.inputs l.bytes (flat_map entries_of_run l.runs.items) l.rest;
  fits : All (λ (run : Run). All (λ (vector : List Val). length vector ≡ l.inputs) run.steps) l.runs.items;
  good : HasNoBadLine l.inputs l.rest;
  few : length l.runs.items ≤ 256;
  shorter : length l.rest + length l.runs.items ≤ length l.bytes;
}

abbrev pub decreases-loop-rest : goal.decreases-loop-rest
decreases-loop-rest l = 256 - length l.runs.items
