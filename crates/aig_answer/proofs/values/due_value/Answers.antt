use Rattle.std.proofs.Common.{◌∙◌, ap, arith, drop, sym, ℕ}
use Rattle.aig_answer.specs.declared.reader.Signed.{Signed}
use Rattle.aig_answer.proofs.AtOnce.{begins_with_value, behind_value_is, number_shortens}
use Rattle.aig_answer.proofs.values.due_value.Goals as goal

pub returns-clause-read : goal.returns-clause-read
returns-clause-read c =
    let value : Signed =
    record { number = c.in_ok-number.number; is_negative = c.begins_with_minus-is_negative.result } in
    let text = c.in_ok-text.text.now in
    let rest = c.in_ok-number.rest.now in
    let stop = c.likely_stop-stop.result in
    let begins =
    begins_with_value text c.split_at.result.1.now rest value stop (sym c.begins_with_minus-is_negative.ensures)
    (c.split_at.ensures.back ∙ ap (λ (n : ℕ). drop n text) c.from.ensures) c.in_ok-number.ensures
    (omega arith, omega arith) in
    λ bits.
    c.in_ok-text.ensures.due bits
    ∙ behind_value_is c.args.reader.line bits text rest value stop c.likely_stop-stop.ensures begins c.args.reader
    c.in_ok-text.ensures.awaiting

pub returns-clause-shorter : goal.returns-clause-shorter
returns-clause-shorter c =
    let less =
    number_shortens c.split_at.result.1.now c.in_ok-number.rest.now c.in_ok-number.number c.likely_stop-stop.result
    (omega arith) c.in_ok-number.ensures in
    omega (arith, less, c.split_at.ensures.back_len, c.in_ok-text.ensures.within)
