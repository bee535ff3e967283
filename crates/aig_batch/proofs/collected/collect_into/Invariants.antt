use Rattle.std.proofs.Common.{◌≡◌, ◌+◌, ◌^◌, ◌≤◌, false}
use Rattle.aig_io.specs.Devices.{took}
use Rattle.aig_batch.proofs.Collecting.{HasFolded}
use Rattle.aig_batch.proofs.collected.collect_into.Given as goal

abbrev pub invariant-loop-count : goal.invariant-loop-count
invariant-loop-count g l =
    let r = g.R.Source in
    record {
      history : r.history l.source ≡ took l.bytes.items (r.history l.fn.source);
      folded : HasFolded (λ judge s. judge.inputs ≡ s.inputs) l.checked l.feeder l.judge l.bytes.items false;
      going : l.feeder.refused ≡ false;
      number : r.bound l.source ≤ 2 ^ 62 → l.feeder.number + r.bound l.source ≤ 2 ^ 62 + 1;
    }

abbrev pub decreases-loop-count : goal.decreases-loop-count
decreases-loop-count g l = g.R.Source.bound l.source
