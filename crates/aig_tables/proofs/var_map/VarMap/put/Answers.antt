use Rattle.std.proofs.Common.{◌∙◌, sym, rules}
use Rattle.aig_tables.specs.Parts.Places.{kept_at}
use Rattle.aig_tables.proofs.Tables.Maps.{grown, more_in_place, more_elsewhere}
use Rattle.aig_tables.proofs.var_map.VarMap.put.Goals as goal

pub returns-then-covers-clause-ok : goal.returns-then-covers-clause-ok
returns-then-covers-clause-ok g c =
    let covered = g.T.Table.Places.covered c.self.inside.places in
    let still = g.T.Table.Places.covered c.put.new.self in
    let held = g.T.Table.Places.held c.self.inside.places in
    let more = g.T.Table.Places.held c.put.new.self in
    let others = c.self.inside.spread in
    rw (← c.self.view_is, ← c.var.view_is) (
    grown (kept_at covered held others) (kept_at still more others) c.var.inside.0 c.args.value (search rules)
    (more_in_place covered held others c.var.inside.0 c.args.value still more (sym c.covers.ensures ∙ c.if-covers.true)
    c.put.ensures.same_places c.put.ensures.held))

pub returns-in_ok-insert-clause-ok : goal.returns-in_ok-insert-clause-ok
returns-in_ok-insert-clause-ok g c =
    let covered = g.T.Table.Places.covered c.self.inside.places in
    let held = g.T.Table.Places.held c.self.inside.places in
    let others = c.self.inside.spread in
    let more = c.insert.new.self in
    rw (← c.self.view_is) (
    grown (kept_at covered held others) (kept_at covered held more) c.args.var c.args.value (search rules)
    (more_elsewhere covered held others c.args.var c.args.value more
    (rw (← c.var.view_is) (sym c.covers.ensures ∙ c.if-covers.false)) c.in_ok-insert.ensures.ok))
