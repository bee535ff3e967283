use Rattle.std.proofs.lemmas.Map.Text.{btree_map_updates_str}
use Rattle.aig_pairing.proofs.Indexing.{put_there}
use Rattle.aig_pairing.proofs.index.put_place.Goals as goal

pub returns-in-Some-2-clause-put : goal.returns-in-Some-2-clause-put
returns-in-Some-2-clause-put c =
    put_there c.args.name.now _ c.as_slice.result.now c.args.places.now c.insert.new.self c.args.at c.in-Some.is
    c.as_slice.ensures (btree_map_updates_str c.as_slice.result.now c.args.places.now c.insert.new.self _
    c.in_ok-insert.ensures.updates)

pub returns-in-None-clause-put : goal.returns-in-None-clause-put
returns-in-None-clause-put c =
    put_there c.args.name.now _ c.as_slice.result.now c.args.places.now c.insert.new.self c.args.at c.in-Some.is
    c.as_slice.ensures (btree_map_updates_str c.as_slice.result.now c.args.places.now c.insert.new.self _
    c.in_ok-insert.ensures.updates)
