use Rattle.std.proofs.Common.{◌∙◌, arith, sym}
use Rattle.aig_select.proofs.Keeping.{moved_all, moved_more, moved_no}
use Rattle.aig_select.proofs.staying.keep_marked.Goals as goal
use Rattle.aig_select.proofs.staying.keep_marked.Goals.{then-is_marked, else-is_marked}

pub loop-at-preserved : goal.loop-at-preserved
loop-at-preserved g c =
    elim c.if-is_marked.branch [
      | then-is_marked w ↦
          rw (w.items-is, w.kept-is)
          (moved_more c.args.marks.now c.args.items.now c.loop-at.items c.loop-at.kept c.loop-at.at c.index-items-at.result
          c.loop-at.invariant (omega arith) c.index-items-at.is (sym c.is_marked.ensures ∙ w.if-is_marked.true))
      | else-is_marked w ↦
          rw (w.items-is, w.kept-is)
          (moved_no c.args.marks.now c.args.items.now c.loop-at.items c.loop-at.kept c.loop-at.at c.index-items-at.result
          c.loop-at.invariant (omega arith) c.index-items-at.is (sym c.is_marked.ensures ∙ w.if-is_marked.false))
    ]

pub returns : goal.returns
returns g c =
    moved_all c.args.marks.now c.args.items.now c.loop-at.items c.loop-at.kept c.loop-at.at c.loop-at.invariant
    (omega arith)
