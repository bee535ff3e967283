use Rattle.std.proofs.Common.{take}
use Rattle.std.specs.List.{flat_map, zip}
use Rattle.aig_io.specs.Output.{Appended}
use Rattle.aig_cuts.specs.Parts.Counted.{planned_text}
use Rattle.aig_cuts.proofs.clauses.put_plan.Given as goal

abbrev pub invariant-loop-at : goal.invariant-loop-at
invariant-loop-at g l = Appended l.fn.output l.output (flat_map planned_text (take l.at (zip l.gates l.plan)))
