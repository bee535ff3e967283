use Rattle.std.proofs.Common.{◌/◌, ◌<◌, length, arith, ltb-true}
use Rattle.aig_tables.proofs.Tables.Maps.{more_marks}
use Rattle.aig_tables.proofs.var_map.bits.BitsPlaces.put.Goals as goal

pub returns-clause-held : goal.returns-clause-held
returns-clause-held c =
    let below : c.args.index / 64 < length c.args.self.now.words.items =
    omega (arith, ltb-true _ _ c.requires.has_place) in
    more_marks c.args.self.now.words.items c.args.index c.index_mut.result.now below c.index_mut.ensures.value
