use Rattle.std.proofs.Common.{◌∙◌, sym, nat_cmp}
use Rattle.std.specs.BTreeMap.{get as tree_get}
use Rattle.aig_tables.proofs.Tables.Slots.{none_of, tree_has_new, others_stay}
use Rattle.aig_tables.proofs.var_map.spread.insert_new.Goals as goal

pub returns-clause-ok : goal.returns-clause-ok
returns-clause-ok g c =
    tree_has_new c.args.tree.now c.insert.new.self c.args.var c.args.value c.in_ok-insert.ensures.updates
    (none_of (tree_get nat_cmp c.args.tree.now c.args.var) (sym c.contains_key.ensures ∙ c.if-contains_key.false))

pub returns-clause-others : goal.returns-clause-others
returns-clause-others g c =
    others_stay c.args.tree.now c.insert.new.self c.args.var c.args.value c.in_ok-insert.ensures.updates
