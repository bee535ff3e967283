use Rattle.std.proofs.Common.{◌≡◌, Bool, IfOk, not, is_some, cond, sym, ap, subst, rules}
use Rattle.std.proofs.lemmas.Result.{on_ok_weaker}
use Rattle.std.specs.FinMap as map
use Rattle.aig_tables.proofs.Tables.Maps.{grown}
use Rattle.aig_tables.proofs.Tables.Slots.{in_tree, in_slot, nowhere, no_room, more_in_others, spread_in_others}
use Rattle.aig_tables.proofs.Tables.Slots.{more_put, spread_put}
use Rattle.aig_tables.proofs.var_map.spread.Spread.insert.Goals as goal

pub invariant_of-self : goal.invariant_of-self
invariant_of-self g c =
    spread_in_others _ _ _ _ c.var.inside.0
    (no_room c.var.inside.0 c.self.invariant c.window_of-window.ensures c.deref.ensures.value c.first_end-place.ensures
    c.if-place-window.true)
    (rw c.var.view_is c.insert_new.ensures.others) c.self.invariant

pub returns-then-place-window-clause-added : goal.returns-then-place-window-clause-added
returns-then-place-window-clause-added g c =
    let has =
    in_tree c.var.inside.0 c.self.invariant c.window_of-window.ensures c.deref.ensures.value c.first_end-place.ensures
    c.self.view_is c.var.view_is (search rules) c.if-place-window.true in
    subst (λ o. IfOk c.insert_new.result (λ (added : Bool). added ≡ not (is_some o))) (sym has)
    c.insert_new.ensures.added

pub returns-then-place-window-clause-ok : goal.returns-then-place-window-clause-ok
returns-then-place-window-clause-ok g c = rw (← c.self.view_is) (on_ok_weaker c.insert_new.result (λ more.
    grown _ _ c.args.var c.args.value (search rules)
    (more_in_others c.self.inside.starts c.self.inside.slots.items c.self.inside.others c.insert_new.new.tree
    c.args.var c.args.value more))
    c.insert_new.ensures.ok)

pub returns-then-slot-var : goal.returns-then-slot-var
returns-then-slot-var g c =
    let has =
    in_slot c.var.inside.0 c.self.invariant c.window_of-window.ensures c.deref.ensures.value c.first_end-place.ensures
    c.self.view_is c.var.view_is (search rules) c.if-place-window.false c.index-window-place.is c.if-slot-var.true in
    record {
      added = ap (λ o. not (is_some o)) (sym has);
      ok = ap (λ o. cond (is_some o) c.args.self.now (map.insert c.args.self.now c.args.var c.args.value)) (sym has);
      err = search rules;
    }

pub invariant_of-self-2 : goal.invariant_of-self-2
invariant_of-self-2 g c =
    spread_put c.var.inside.0 c.self.invariant c.window_of-window.ensures c.deref.ensures.value
    c.first_end-place.ensures c.if-place-window.false c.index-window-place.is c.if-slot-var.false
    c.start_of.ensures.value c.args.value

pub returns-clause-added : goal.returns-clause-added
returns-clause-added g c =
    let none =
    nowhere c.var.inside.0 c.self.invariant c.window_of-window.ensures c.deref.ensures.value c.first_end-place.ensures
    c.self.view_is c.var.view_is (search rules) c.if-place-window.false c.index-window-place.is c.if-slot-var.false in
    ap (λ o. not (is_some o)) (sym none)

pub returns-clause-ok : goal.returns-clause-ok
returns-clause-ok g c = rw (← c.self.view_is, ← c.var.view_is) (grown _ _ c.var.inside.0 c.args.value (search rules)
    (more_put c.var.inside.0 c.self.invariant c.window_of-window.ensures c.deref.ensures.value c.first_end-place.ensures
    c.if-place-window.false c.index-window-place.is c.if-slot-var.false c.start_of.ensures.value c.args.value))
