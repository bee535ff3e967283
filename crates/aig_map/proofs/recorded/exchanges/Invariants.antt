use Rattle.std.proofs.Common.{◌≡◌, length, take}
use Rattle.aig_map.specs.Undone.{exchanges_recorded}
use Rattle.aig_map.proofs.recorded.exchanges.Given as goal

abbrev pub invariant-loop-position : goal.invariant-loop-position
invariant-loop-position l = record {
  many : length l.found.items ≡ length l.gates;
  found : take l.position l.found.items ≡ exchanges_recorded (take l.position l.gates);
}
