use Rattle.std.proofs.Common.{◌≡◌, ◌<◌, ◌+◌, ◌∙◌, length, get_or, refl, arith}
use Rattle.std.proofs.lemmas.List.{length-set}
use Rattle.aig_image.proofs.Numbering.Places.{all_below, at_place, put_more, same_place, somewhere}
use Rattle.aig_image.proofs.placed.gate_numbers.Goals as goal

pub loop-at-preserved : goal.loop-at-preserved
loop-at-preserved c =
    let order = c.args.order.now in
    let at = c.loop-at.at in
    let numbers = c.loop-at.numbers.items in
    let low : get_or order at 0 < length order =
    at_place (λ at. at < length order) 0 order c.requires.there at c.loop-at-test.true in
    record {
      many = length-set numbers (get_or order at 0) (c.args.before + (at + 1)) ∙ c.loop-at.invariant.many;
      numbers = put_more (λ k. get_or order k 0) (λ k. c.args.before + (k + 1)) 0 numbers at
          (omega (arith, low, c.loop-at.invariant.many))
          (λ i below e.
          let same : i ≡ at =
          same_place order c.requires.once i at (omega (arith, below, c.loop-at-test.true)) c.loop-at-test.true e in
          omega (arith, same, below)) c.loop-at.invariant.numbers;
    }

pub returns : goal.returns
returns c =
    let order = c.args.order.now in
    record {
      many = c.loop-at.invariant.many;
      there = at_place (λ at. at < length order) 0 order c.requires.there;
      numbers = λ k below. c.loop-at.invariant.numbers k (omega (arith, below, c.loop-at-test.false));
      all = λ at low. somewhere at order (all_below (length order) order c.requires.once c.requires.there refl at low);
    }
