use Rattle.std.proofs.Common.{◌≡◌, ◌-◌, ◌&&◌, ◌∙◌, rules, eqb, sym, ap}
use Rattle.aig_rows.specs.Scanning.{is_line_end}
use Rattle.aig_rows.proofs.Kept.Numbers.{stored_more, stored_all}
use Rattle.aig_rows.proofs.number.more_numbers.Goals as goal

pub returns-then-may_end : goal.returns-then-may_end
returns-then-may_end g c = search (rules, stored_all)

pub loop-at-preserved : goal.loop-at-preserved
loop-at-preserved g c =
    let due : c.saturating_sub.result ≡ c.args.least - c.loop-at.at = c.saturating_sub.ensures in
    stored_more c.args.ended c.args.least g.row.N c.loop-at.at c.loop-at.numbers c.loop-at.rest.now
    c.in_ok-digits.digits.now c.in_ok-value.after.now c.in_ok-value.value _
    c.loop-at-test.true c.loop-at.invariant
    (ap (λ k. eqb k 0 && is_line_end c.args.ended c.loop-at.rest.now) (sym due) ∙ sym c.may_end.ensures
    ∙ c.if-may_end.false)
    c.in_ok-digits.ensures c.in_ok-value.ensures
