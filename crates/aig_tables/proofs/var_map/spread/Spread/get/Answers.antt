use Rattle.std.proofs.Common.{◌∙◌, sym, rules}
use Rattle.aig_tables.proofs.Tables.Slots.{in_tree, in_slot, nowhere}
use Rattle.aig_tables.proofs.var_map.spread.Spread.get.Goals as goal

pub returns-then-place-window : goal.returns-then-place-window
returns-then-place-window g c = c.copied.ensures ∙ c.get.ensures.value
    ∙ sym
    (in_tree c.var.inside.0 c.self.invariant c.window_of-window.ensures c.deref.ensures.value c.first_end-place.ensures
    c.self.view_is c.var.view_is (search rules) c.if-place-window.true)

pub returns-then-slot-var : goal.returns-then-slot-var
returns-then-slot-var g c = sym
    (in_slot c.var.inside.0 c.self.invariant c.window_of-window.ensures c.deref.ensures.value c.first_end-place.ensures
    c.self.view_is c.var.view_is (search rules) c.if-place-window.false c.index-window-place.is c.if-slot-var.true)

pub returns-else-slot-var : goal.returns-else-slot-var
returns-else-slot-var g c = sym
    (nowhere c.var.inside.0 c.self.invariant c.window_of-window.ensures c.deref.ensures.value c.first_end-place.ensures
    c.self.view_is c.var.view_is (search rules) c.if-place-window.false c.index-window-place.is c.if-slot-var.false)
