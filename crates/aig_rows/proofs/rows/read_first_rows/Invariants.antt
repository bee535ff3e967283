use Rattle.std.proofs.Common.{◌+◌, ◌*◌, ◌^◌, ◌<◌, ◌≤◌, length}
use Rattle.aig_lines.specs.Lines.{ahead, lines_of}
use Rattle.aig_rows.specs.Begun.{HaveRead}
use Rattle.aig_rows.proofs.rows.read_first_rows.Given as goal

-- the rows that were due are those that were read and those that are due, the lines that are left can be counted, and
-- what is carried is small
abbrev pub invariant-loop-count : goal.invariant-loop-count
invariant-loop-count g l = record {
  rows :
      HaveRead g.T.FromRow.meant_by g.T.FromRow.form l.bound l.fn.due (record { count = l.count; carried = l.carried })
      l.fn.found l.found l.fn.at (ahead l.number (lines_of l.rest));
  counted : l.number + length l.rest < 2 ^ 64;
  small : l.carried + 2 * l.count ≤ 2 ^ 34;
}

abbrev pub decreases-loop-count : goal.decreases-loop-count
decreases-loop-count g l = l.count
