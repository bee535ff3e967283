use Rattle.std.proofs.Common.{◌≡◌, List, length, All}
use Rattle.aig_lanes.specs.declared.run.Run.{Run}
use Rattle.aig_lanes.specs.Parts.InputBits.{HasLaneRoom}
use Rattle.aig_lanes.proofs.input_bits.new_bits.Given as goal

abbrev pub invariant-loop-block : goal.invariant-loop-block
invariant-loop-block l = record {
  size : length l.bits.items ≡ l.block;
  room : All (λ (runs : List Run). All (HasLaneRoom runs) l.bits.items) l.groups;
}
