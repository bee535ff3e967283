use Rattle.std.proofs.Common.{◌≡◌, ◌-◌, List, length}
use Rattle.aig_lines.specs.Lines.{IsBehind, Line, with_lines}
use Rattle.aig_text.specs.Sections.{sections}
use Rattle.aig_text.specs.Begun.{IsWithinHeader, sections_from}
use Rattle.aig_text.proofs.pieces.Progress.read_lines.Given as goal

-- what is left tells what all of it told
abbrev pub invariant-loop-left : goal.invariant-loop-left
invariant-loop-left l = record {
  within : IsWithinHeader l.header l.self;
  on :
      (more : List Line)
      → sections_from l.header l.fn.self (with_lines l.fn.at more)
      ≡ sections_from l.header l.self (with_lines l.at more);
  behind : IsBehind l.fn.at l.at;
}

abbrev pub decreases-loop-left : goal.decreases-loop-left
decreases-loop-left l = length sections - l.self.section
