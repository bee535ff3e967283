use Rattle.std.proofs.Common.{◌≡◌, ◌++◌, take}
use Rattle.aig_wave.specs.Names.{shown}
use Rattle.aig_wave.proofs.head.put_shown.Given as goal

abbrev pub invariant-loop-byte : goal.invariant-loop-byte
invariant-loop-byte l = l.text.items ≡ l.fn.text.items ++ shown (take l.byte-index l.name)
