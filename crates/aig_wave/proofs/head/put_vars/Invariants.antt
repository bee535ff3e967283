use Rattle.std.proofs.Common.{◌≡◌, ◌++◌, take, flat_map}
use Rattle.aig_wave.specs.Head.{var_text}
use Rattle.aig_wave.proofs.head.put_vars.Given as goal

abbrev pub invariant-loop-signal : goal.invariant-loop-signal
invariant-loop-signal l =
    l.text.items ≡ l.fn.text.items ++ flat_map (var_text l.names) (take l.signal-index l.signals)
