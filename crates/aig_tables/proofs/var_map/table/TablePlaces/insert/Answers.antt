use Rattle.std.proofs.Common.{◌≡◌, get_or, sym, subst, ◌∙◌}
use Rattle.std.proofs.lemmas.List.{get_or_read}
use Rattle.aig_tables.proofs.Tables.Ranks.{more_numbers}
use Rattle.aig_tables.proofs.var_map.table.TablePlaces.insert.Goals as goal

pub returns-then-is_new-clause-held : goal.returns-then-is_new-clause-held
returns-then-is_new-clause-held c =
    let table = c.args.self.now in
    let ranks = table.ranks in
    let places = table.places.items in
    let place = c.slot-place in
    let none = sym (get_or_read places place.result c.index.result.now place.ensures.below c.index.ensures 0)
    ∙ c.if-is_new.true in
    rw place.ensures.place
    (more_numbers ranks.words.items ranks.count ranks.ranking places table.room c.args.index c.args.value
    c.requires.has_place (subst (λ p. get_or places p 0 ≡ 0) place.ensures.place none))
