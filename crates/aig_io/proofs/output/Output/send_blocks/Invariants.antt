use Rattle.std.proofs.Common.{◌≡◌, ◌-◌, ◌%◌, ◌<◌, ◌≤◌, [], length, take}
use Rattle.aig_io.specs.Output.{Appended}
use Rattle.aig_io.specs.declared.block.TheConstants.{ROOM}
use Rattle.aig_io.proofs.output.Output.send_blocks.Given as goal

abbrev pub invariant-loop-at : goal.invariant-loop-at
invariant-loop-at g l = record {
  within : l.at ≤ length l.bytes;
  left : 0 < length l.bytes → l.at < length l.bytes;
  whole : l.at % ROOM ≡ 0;
  put : Appended l.fn.self l.self (take l.at l.bytes);
  empty : l.self.held ≡ [];
}

abbrev pub decreases-loop-at : goal.decreases-loop-at
decreases-loop-at g l = length l.bytes - l.at
