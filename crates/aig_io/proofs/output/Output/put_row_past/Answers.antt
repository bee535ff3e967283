use Rattle.std.proofs.Common.{◌++◌, codes, decimal, arith, append_assoc, take_all}
use Rattle.std.proofs.lemmas.Fmt.{decimal_nonempty}
use Rattle.aig_io.proofs.Puts.{left_twice, put_twice, row_of_more, some_first}
use Rattle.aig_io.proofs.output.Output.put_row_past.Goals as goal

pub loop-number-preserved : goal.loop-number-preserved
loop-number-preserved g c =
    let some = decimal_nonempty c.args.first c.ranges.first.fits in
    rw (← row_of_more (decimal c.args.first) (λ n. codes " " ++ decimal n) c.args.others.now c.loop-number.number-index
    (omega arith))
    (record {
      put = put_twice _ _ _ _ _ c.loop-number.invariant.put c.put_spaced_number.ensures.put;
      left = left_twice _ _ _ _ _ (some_first _ _ some) (omega arith) c.loop-number.invariant.left
          c.put_spaced_number.ensures.left;
    })

pub returns-clause-put : goal.returns-clause-put
returns-clause-put g c =
    let all = take_all c.loop-number.number-index c.args.others.now (omega arith) in
    rw (← append_assoc) (put_twice _ _ _ _ _ (rw all at c.loop-number.invariant.put) c.put.ensures.put)

pub returns-clause-left : goal.returns-clause-left
returns-clause-left g c =
    let some = decimal_nonempty c.args.first c.ranges.first.fits in
    let all = take_all c.loop-number.number-index c.args.others.now (omega arith) in
    rw (← append_assoc)
    (left_twice _ _ _ _ _ (some_first _ _ some) (omega arith) (rw all at c.loop-number.invariant.left)
    (c.put.ensures.left (omega arith)))
