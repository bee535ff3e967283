use Rattle.std.proofs.Common.{◌≡◌, ◌++◌, [], append-nil, rules, sym}
use Rattle.std.specs.List.{cons_option}
use Rattle.aig_pairing.specs.ByNames.{value_named}
use Rattle.aig_pairing.proofs.Indexing.{ordered_grows}
use Rattle.aig_pairing.proofs.index.Index.in_order_of.Goals as goal
use Rattle.aig_pairing.proofs.index.Index.in_order_of.Goals.{in-Some+in_ok-push, in_default}

pub loop-name-preserved : goal.loop-name-preserved
loop-name-preserved g c =
    let before = c.loop-name.ordered.items in
    let n = c.name-item.result in
    let value = value_named c.args.self.now c.args.values.now n in
    ordered_grows c.args.wanted.now c.loop-name.name-index n (search rules) c.name-item.is c.args.self.now
    c.args.values.now before c.match-value.ordered.items c.loop-name.invariant
    (elim c.match-value.branch as (λ _. c.match-value.ordered.items ≡ before ++ cons_option value []) [
      | in-Some+in_ok-push w ↦ rw (w.ordered-is, ← c.value.ensures, w.in-Some.is) w.in_ok-push.ensures.items
      | in_default w ↦ rw (w.ordered-is, ← c.value.ensures, w.in_default.is) (sym (append-nil before))
    ])
