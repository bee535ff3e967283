use Rattle.std.proofs.Common.{take}
use Rattle.std.specs.List.{flat_map}
use Rattle.aig_io.specs.Output.{Appended}
use Rattle.aig_dot.specs.Label.{label_byte}
use Rattle.aig_dot.proofs.label.put_label.Given as goal

abbrev pub invariant-loop-byte : goal.invariant-loop-byte
invariant-loop-byte g l = Appended l.fn.output l.output (flat_map label_byte (take l.byte-index l.name))
