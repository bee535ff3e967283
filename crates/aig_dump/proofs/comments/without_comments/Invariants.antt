use Rattle.std.specs.Prelude.{◌≡◌, ◌++◌, length}
use Rattle.aig_lines.specs.Lines.{bytes_of, lines_of}
use Rattle.aig_verdicts.specs.Comments.{lines_said}
use Rattle.aig_dump.proofs.comments.without_comments.Given as goal

abbrev pub invariant-loop-line : goal.invariant-loop-line
invariant-loop-line l =
    l.said.items ++ bytes_of (lines_said (lines_of l.rest)) ≡ bytes_of (lines_said (lines_of l.witness))

abbrev pub decreases-loop-line : goal.decreases-loop-line
decreases-loop-line l = length l.rest
