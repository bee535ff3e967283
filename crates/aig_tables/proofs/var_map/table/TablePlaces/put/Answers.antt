use Rattle.std.proofs.Common.{arith}
use Rattle.std.proofs.lemmas.Grind.{common_steps}
use Rattle.aig_tables.proofs.Tables.Ranks.{more_numbers}
use Rattle.aig_tables.proofs.var_map.table.TablePlaces.put.Goals as goal

pub returns-clause-held : goal.returns-clause-held
returns-clause-held c =
    let table = c.args.self.now in
    let ranks = table.ranks in
    let place = c.slot-place in
    let has = c.requires.has_place in
    let none = c.requires.none in
    rw place.ensures.place
    (more_numbers ranks.words.items ranks.count ranks.ranking table.places.items table.room c.args.index c.args.value
    has (grind (arith, common_steps, has, none)))
