use Rattle.std.proofs.Common.{◌≡◌, ◌+◌, ◌^◌, ◌<◌, ◌++◌, List, ℕ, length}
use Rattle.aig_lines.specs.Lines.{bytes_of, lines_of}
use Rattle.aig_text.specs.Reading.{tail_at}
use Rattle.aig_text.proofs.tail_lines.read_tail_lines.Given as goal

-- what is left stands at the end, tells what all of it found, and its lines can be counted
abbrev pub invariant-loop-line : goal.invariant-loop-line
invariant-loop-line l = record {
  told :
      tail_at l.header l.names l.circuit l.number (lines_of l.rest)
      ≡ tail_at l.header l.fn.names l.fn.circuit l.fn.at.number l.fn.at.lines;
  counted : l.number + length l.rest < 2 ^ 64;
  taken : (text : List ℕ) × (bytes_of l.fn.at.lines ≡ text ++ l.rest);
}

abbrev pub decreases-loop-line : goal.decreases-loop-line
decreases-loop-line l = length l.rest
