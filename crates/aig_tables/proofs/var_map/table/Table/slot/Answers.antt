use Rattle.std.proofs.Common.{sym, ◌∙◌, arith}
use Rattle.std.proofs.lemmas.Grind.{common_steps}
use Rattle.aig_tables.proofs.Tables.Ranks.{place_below}
use Rattle.aig_tables.proofs.var_map.table.Table.slot.Goals as goal

pub returns-else-is_empty-clause-below : goal.returns-else-is_empty-clause-below
returns-else-is_empty-clause-below c =
    let table = c.args.self.now in
    let ranks = table.ranks in
    let below = place_below ranks.words.items ranks.count ranks.ranking table.places.items table.room c.args.index
    c.requires in
    let some = sym c.is_empty.ensures ∙ c.if-is_empty.false in
    let is = c.rank.ensures in
    grind (arith, common_steps, below, some, is)
