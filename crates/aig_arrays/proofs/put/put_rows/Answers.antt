use Rattle.aig_arrays.proofs.Placing.{rows_long, rows_on}
use Rattle.aig_arrays.proofs.put.put_rows.Goals as goal

pub loop-item-preserved : goal.loop-item-preserved
loop-item-preserved g c =
    let items = c.args.items.now in
    let i = c.loop-item.item-index in
    record {
      words =
          rows_on g.T.Entry.numbers items i c.item-item.result c.loop-item-test.true c.item-item.is c.loop-item.end
          c.loop-item.words _ c.loop-item.invariant.words c.put-end.result c.put-end.new.words c.put-end.ensures.end
          c.put-end.ensures.words;
      end =
          rw c.put-end.ensures.end
          (rows_long g.T.Entry.numbers items i c.item-item.result c.loop-item-test.true c.item-item.is c.loop-item.end _
          c.loop-item.invariant.end);
    }
