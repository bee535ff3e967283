use Rattle.std.proofs.Common.{◌++◌, ◌∷◌, ◌∙◌, rules, [], ap, arith, subst, take, map, get_or, ◌+◌}
use Rattle.aig_image.specs.Parts.Numbers.{HaveNumbers}
use Rattle.aig_image.proofs.Numbering.Kept.{one_more, variables_more, among_items, not_before, none_more}
use Rattle.aig_image.proofs.numbers.Numbers.note_all.Goals as goal

pub note_new-requires-clause-none : goal.note_new-requires-clause-none
note_new-requires-clause-none g c =
    let f = g.T.Defines.variable in
    let items = c.args.items.now in
    let i = c.loop-item.item-index in
    let x = c.item-item.result in
    let there = c.loop-item-test.true in
    let is = c.variable.ensures ∙ ap f c.item-item.is in
    rw is (c.loop-item.invariant.none (f (get_or items i x)) (not_before f items i x there c.requires.once)
    (c.requires.none (f (get_or items i x)) (among_items f items i x there)))

pub loop-item-preserved : goal.loop-item-preserved
loop-item-preserved g c = record {
  count = omega (arith, c.in_ok-note_new.ensures.count, c.loop-item.invariant.count);
  numbers = λ variables numbered.
      let before = variables ++ map g.T.Defines.variable (take c.loop-item.item-index c.args.items.now) in
      let numbers = HaveNumbers c.note_new.new.self in
      subst numbers
      (search (rules, variables_more))
      (subst (λ x. numbers (before ++ x ∷ [])) (c.variable.ensures ∙ ap g.T.Defines.variable c.item-item.is)
      (one_more c.loop-item.self c.note_new.new.self c.variable.result
      c.in_ok-note_new.ensures.count c.in_ok-note_new.ensures.numbers before
      (c.loop-item.invariant.numbers variables numbered)));
  none = λ v out had.
      let items = c.args.items.now in
      none_more g.T.Defines.variable items c.loop-item.item-index c.item-item.result c.loop-item-test.true
      c.loop-item.self c.note_new.new.self c.variable.result (c.loop-item.self.noted + 1)
      (c.variable.ensures ∙ ap g.T.Defines.variable c.item-item.is) c.in_ok-note_new.ensures.numbers v
      (λ before. c.loop-item.invariant.none v before had) out;
}
