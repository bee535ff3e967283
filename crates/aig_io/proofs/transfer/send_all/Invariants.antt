use Rattle.std.proofs.Common.{◌≡◌, ◌≤◌, ◌-◌, length, take}
use Rattle.aig_io.specs.Devices.{took}
use Rattle.aig_io.proofs.transfer.send_all.Given as goal

abbrev pub invariant-loop-at : goal.invariant-loop-at
invariant-loop-at g l =
    let d = g.W.Sink in
    record {
      within : l.at ≤ length l.bytes;
      history : d.history l.sink ≡ took (take l.at l.bytes) (d.history l.fn.sink);
    }

abbrev pub decreases-loop-at : goal.decreases-loop-at
decreases-loop-at g l = length l.bytes - l.at
