use Rattle.std.proofs.Common.{◌≡◌, ◌≤◌, List, length, All}
use Rattle.aig_circuit.specs.declared.value.Val.{Val}
use Rattle.aig_lanes.specs.declared.run.Run.{Run}
use Rattle.aig_batch.specs.Parts.RunsRead.{HasNoBadLine, SaysEntries, entries_of_groups}
use Rattle.aig_batch.proofs.front.read_front_groups.Given as goal

abbrev pub invariant-loop-groups : goal.invariant-loop-groups
invariant-loop-groups l = record {
  says : SaysEntries l.inputs l.bytes (entries_of_groups l.groups.items) l.rest;
  good : HasNoBadLine l.inputs l.rest;
  few : All (λ (runs : List Run). length runs ≤ 256) l.groups.items;
  fits : All (λ (runs : List Run). All (λ (run : Run).
      All (λ (vector : List Val). length vector ≡ l.inputs) run.steps) runs) l.groups.items;
}

abbrev pub decreases-loop-groups : goal.decreases-loop-groups
decreases-loop-groups l = length l.rest
