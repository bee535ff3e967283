use Rattle.std.proofs.Common.{◌≡◌, ◌+◌, drop}
use Rattle.aig_wave.specs.Signals.{followers}
use Rattle.aig_wave.proofs.signal.followers.Given as goal

abbrev pub invariant-loop-name : goal.invariant-loop-name
invariant-loop-name l = record {
  count : l.count ≡ l.name-index;
  left : l.count + followers l.before (drop l.name-index l.names) ≡ followers l.fn.first l.names;
}
