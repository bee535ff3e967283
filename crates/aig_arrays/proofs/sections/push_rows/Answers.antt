use Rattle.std.proofs.Common.{arith, ap, inr, refl}
use Rattle.std.proofs.lemmas.Result.{err_from_is_err_and}
use Rattle.aig_arrays.specs.Outcomes.{entries_meant}
use Rattle.aig_arrays.specs.Decoded.{Ahead, rows_decoded}
use Rattle.aig_arrays.proofs.Loops.{all_found, more_found, wrong_found}
use Rattle.aig_arrays.proofs.sections.push_rows.Goals as goal

pub read_entry-requires-clause-carried : goal.read_entry-requires-clause-carried
read_entry-requires-clause-carried g c = omega (arith, c.loop-left.invariant.small, c.loop-left-test.true)

pub loop-left-init : goal.loop-left-init
loop-left-init g c = record {
  tells =
      ap (λ (a : Ahead). entries_meant g.T.FromWords.meant_by c.args.found.now.items
      (rows_decoded g.T.FromWords.form c.args.bound c.args.start c.args.count a)) c.from.view_is;
  small = omega (arith, c.requires.start, c.ranges.count.fits);
}

pub loop-left-preserved : goal.loop-left-preserved
loop-left-preserved g c = record {
  tells =
      more_found g.T.FromWords.meant_by g.T.FromWords.form c.args.bound c.loop-left.carried c.loop-left.left
      c.loop-left.at c.loop-left.found.items _ c.loop-left.invariant.tells c.carry-carried.result _
      c.read_entry.new.from c.in_ok-entry.entry _ c.loop-left-test.true refl c.in_ok-entry.ensures
      c.carry-carried.ensures.carried c.in_ok-push.ensures.items;
  small =
      omega (arith, c.carry-carried.ensures.small, c.loop-left.invariant.small, c.loop-left-test.true);
}

pub returns-in_err-entry : goal.returns-in_err-entry
returns-in_err-entry g c =
    let h = err_from_is_err_and c.from_residual.result c.from_residual.ensures.1 in
    rw (h.1, h.2) (inr (
    wrong_found g.T.FromWords.meant_by g.T.FromWords.form c.args.bound c.loop-left.carried c.loop-left.left
    c.loop-left.at c.loop-left.found.items _ c.loop-left.invariant.tells c.in_err-entry.field-0.0
    c.loop-left-test.true c.in_err-entry.ensures
    ))

pub returns : goal.returns
returns g c =
    rw c.at.view_is
    (all_found g.T.FromWords.meant_by g.T.FromWords.form c.args.bound c.loop-left.carried c.loop-left.left
    c.loop-left.at c.loop-left.found.items _ c.loop-left.invariant.tells (omega (arith, c.loop-left-test.false)))
