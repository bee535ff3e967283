use Rattle.std.specs.Prelude.{◌≡◌, ◌++◌, length}
use Rattle.aig_lines.specs.Lines.{lines_of}
use Rattle.aig_dump.specs.Parts.Showing.{marked_lines}
use Rattle.aig_dump.proofs.marking.mark_steps.Given as goal

abbrev pub invariant-loop-line : goal.invariant-loop-line
invariant-loop-line l = l.marked.items ++ marked_lines l.before (lines_of l.rest) ≡ marked_lines l.start (lines_of l.steps)

abbrev pub decreases-loop-line : goal.decreases-loop-line
decreases-loop-line l = length l.rest
