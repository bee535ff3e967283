use Rattle.std.proofs.Common.{◌≡◌, ◌++◌, [], drop}
use Rattle.aig_wave.specs.Places.{place}
use Rattle.aig_wave.specs.Signals.{signals_behind}
use Rattle.aig_wave.proofs.signal.add_signals.Given as goal

abbrev pub invariant-loop-at : goal.invariant-loop-at
invariant-loop-at l = record {
  start : l.start ≡ place l.circuit l.kind;
  left : l.signals.items ++ signals_behind l.circuit l.kind l.at l.before (drop l.at l.names)
      ≡ l.fn.signals.items ++ signals_behind l.circuit l.kind 0 [] l.names;
}
