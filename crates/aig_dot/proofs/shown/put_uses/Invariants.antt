use Rattle.std.proofs.Common.{take}
use Rattle.std.specs.List.{flat_map}
use Rattle.aig_io.specs.Output.{Appended}
use Rattle.aig_dot.specs.Dot.{statement_text}
use Rattle.aig_dot.specs.Graph.{use_of}
use Rattle.aig_dot.proofs.shown.put_uses.Given as goal

abbrev pub invariant-loop-literal : goal.invariant-loop-literal
invariant-loop-literal g l =
    Appended l.fn.output l.output (flat_map (λ literal. statement_text (use_of l.to literal))
    (take l.literal-index l.literals))
