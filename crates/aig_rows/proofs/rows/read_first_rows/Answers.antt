use Rattle.std.proofs.Common.{◌≡◌, ◌≢◌, ◌+◌, ◌-◌, ◌*◌, ◌^◌, ◌<◌, ◌≤◌, ◌∙◌, Ok, inr, length, arith, sym, refl}
use Rattle.std.proofs.lemmas.Bool.{eqb-true, eqb-false}
use Rattle.std.proofs.lemmas.Result.{err_from_is_err_and}
use Rattle.aig_lines.specs.Lines.{ahead, lines_of}
use Rattle.aig_rows.specs.Outcomes.{row_meant}
use Rattle.aig_rows.specs.Reading.{row_at}
use Rattle.aig_rows.proofs.rows.read_first_rows.Goals.{in-Some, in-None+in_ok-row-in-None}
use Rattle.aig_rows.proofs.rows.read_first_rows.Goals.{then-loop-count-test+else-not-is_empty, else-loop-count-test}
use Rattle.aig_lines.proofs.Cutting.{no_lines}
use Rattle.aig_rows.proofs.Loops.Rows.{carried_small}
use Rattle.aig_rows.proofs.Loops.FirstRows.{have_none, have_more, wrong_first}
use Rattle.aig_rows.proofs.rows.read_first_rows.Goals as goal

pub loop-count-init : goal.loop-count-init
loop-count-init g c = record {
  rows =
      rw c.at.view_is
      (have_none g.T.FromRow.meant_by g.T.FromRow.form c.args.bound c.args.due c.args.found.now c.args.at.now);
  counted = c.at.invariant;
  small = c.requires.small;
}

pub loop-count-preserved : goal.loop-count-preserved
loop-count-preserved g c =
    let next = c.match-read_short in
    let at = ahead c.loop-count.number (lines_of c.loop-count.rest.now) in
    let after = ahead next.number (lines_of next.rest.now) in
    let found : row_meant g.T.FromRow.meant_by (row_at g.T.FromRow.form c.args.bound c.loop-count.carried at)
    ≡ Ok (next.row, after) =
    elim c.match-read_short.branch [
      | in-Some w ↦ rw (w.row-is, w.rest-is, w.number-is) (w.in-Some.ensures.row c.loop-count.number)
      | in-None+in_ok-row-in-None w ↦ rw (w.row-is, w.rest-is, w.number-is)
          (rw (← w.from.view_is) at w.in_ok-row-in-None.ensures)
    ] in
    let counted : next.number + length next.rest.now < 2 ^ 64 =
    elim c.match-read_short.branch [
      | in-Some w ↦ rw (w.rest-is, w.number-is)
          (omega (arith, w.in-Some.ensures.shorter, c.loop-count.invariant.counted))
      | in-None+in_ok-row-in-None w ↦ rw (w.rest-is, w.number-is) w.from.invariant
    ] in
    let limit = 2 ^ 34 - 2 * c.loop-count.count in
    record {
      rows =
          have_more g.T.FromRow.meant_by g.T.FromRow.form c.args.bound c.args.due
          (record { count = c.loop-count.count; carried = c.loop-count.carried })
          (record { count = c.loop-count.count - 1; carried = c.carry-carried.result }) c.args.found.now
          c.loop-count.found _ c.args.at.now at after next.row c.loop-count.invariant.rows c.loop-count-test.true found
          c.carry-carried.ensures refl c.in_ok-push.ensures.ok;
      counted = counted;
      small =
          let low : c.carry-carried.result ≤ limit + 2 =
          carried_small g.T.FromRow.meant_by g.T.FromRow.form c.args.bound c.loop-count.carried c.carry-carried.result
          limit at after next.row found c.carry-carried.ensures (omega (arith, c.loop-count.invariant.small))
          (omega (arith, c.requires.bound, c.loop-count.invariant.small)) in
          omega (arith, low, c.loop-count.invariant.small, c.loop-count-test.true);
    }

pub returns-in_err-row-in-None-clause-err : goal.returns-in_err-row-in-None-clause-err
returns-in_err-row-in-None-clause-err g c =
    let h = err_from_is_err_and c.from_residual.result c.from_residual.ensures.1 in
    let none : length c.loop-count.rest.now ≢ 0 =
    eqb-false _ _ (sym c.is_empty.ensures ∙ c.if-not-is_empty.true) in
    rw (h.1, h.2) (inr (λ more.
    wrong_first g.T.FromRow.meant_by g.T.FromRow.form c.args.bound c.args.due
    (record { count = c.loop-count.count; carried = c.loop-count.carried }) c.args.found.now c.loop-count.found
    c.args.at.now c.loop-count.number c.loop-count.rest.now more _ c.loop-count.invariant.rows c.loop-count-test.true
    (omega (arith, none)) c.in_err-row-in-None.ensures))

pub returns-clause-all : goal.returns-clause-all
returns-clause-all g c = λ more.
    elim c.loop-count-test.branch [
      | then-loop-count-test+else-not-is_empty w ↦
          no_lines _ (eqb-true _ _ (sym w.is_empty.ensures ∙ w.if-not-is_empty.false))
      | else-loop-count-test w ↦ absurd (omega (arith, more, w.loop-count-test.false))
    ]
