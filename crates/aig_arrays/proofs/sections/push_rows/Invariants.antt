use Rattle.std.proofs.Common.{◌≡◌, ◌+◌, ◌*◌, ◌^◌, ◌≤◌}
use Rattle.aig_arrays.specs.Outcomes.{entries_meant}
use Rattle.aig_arrays.specs.Decoded.{rows_decoded}
use Rattle.aig_arrays.proofs.sections.push_rows.Given as goal

-- the entries that are left tell what all of them tell, and no sum of sizes can be too large to be carried
abbrev pub invariant-loop-left : goal.invariant-loop-left
invariant-loop-left g l = record {
  tells :
      entries_meant g.T.FromWords.meant_by l.found.items
      (rows_decoded g.T.FromWords.form l.bound l.carried l.left l.at)
      ≡ entries_meant g.T.FromWords.meant_by l.fn.found.items
      (rows_decoded g.T.FromWords.form l.bound l.start l.count l.fn.from);
  small : l.carried + 2 ^ 32 * l.left ≤ 2 ^ 64;
}

abbrev pub decreases-loop-left : goal.decreases-loop-left
decreases-loop-left g l = l.left
