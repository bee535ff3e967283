use Rattle.std.proofs.Common.{ap, arith, length, length-drop}
use Rattle.std.proofs.lemmas.Result.{err_from_is_err_and}
use Rattle.aig_io.proofs.Took.{some_later}
use Rattle.aig_text.proofs.Sources.{reads_more}
use Rattle.aig_text.proofs.piecewise.read_pieces.Goals as goal

pub returns-in_err-more-clause-err : goal.returns-in_err-more-clause-err
returns-in_err-more-clause-err g c =
    let h = err_from_is_err_and c.from_residual.result c.from_residual.ensures.1 in
    let reads = rw c.loop-more-test.true at c.loop-more.invariant.reads in
    rw (h.1, h.2) (some_later c.in_err-more.field-0.0 reads.given _ _ _ reads.gave c.in_err-more.ensures.err)

pub loop-more-preserved : goal.loop-more-preserved
loop-more-preserved g c =
    let p = g.P.Pieces in
    let reads = rw c.loop-more-test.true at c.loop-more.invariant.reads in
    let came = rw c.pass.ensures at c.in_ok-more.ensures.ok in
    record {
      reads =
          reads_more (p.rest c.args.reader.now) (p.rest c.loop-more.reader) (p.rest c.advance-used.new.self)
          c.args.window.now c.loop-more.window
          c.fetch_piece.new.window c.advance-used.result c.in_ok-more.more _ _ _ reads
          (rw c.as_slice.ensures at c.advance-used.ensures.on) came;
      valid = c.advance-used.ensures.valid;
      counted =
          omega (
            arith,
            c.advance-used.ensures.number,
            c.advance-used.ensures.within,
            ap length c.as_slice.ensures,
            ap length c.pass.ensures,
            length-drop c.advance-used.result c.loop-more.window,
            c.in_ok-more.ensures.bound,
            c.loop-more.invariant.counted,
          );
    }
