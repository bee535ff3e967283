use Rattle.std.proofs.Common.{◌+◌, ◌≤◌, ◌^◌, length, if◌then◌else◌}
use Rattle.aig_text.specs.Sources.{ReadsFrom}
use Rattle.aig_text.proofs.piecewise.read_pieces.Given as goal

-- what was to be read is what is to be read
abbrev pub invariant-loop-more : goal.invariant-loop-more
invariant-loop-more g l =
    let d = g.R.Source in
    let p = g.P.Pieces in
    record {
      reads :
          ReadsFrom (p.rest l.fn.reader) (p.rest l.reader) l.fn.window l.window l.more
          (d.history l.fn.source) (d.history l.source);
      valid : p.is_valid l.reader;
      counted : p.next_line l.reader + length l.window + d.bound l.source ≤ 2 ^ 63;
    }

abbrev pub decreases-loop-more : goal.decreases-loop-more
decreases-loop-more g l = if l.more then g.R.Source.bound l.source + 1 else 0
