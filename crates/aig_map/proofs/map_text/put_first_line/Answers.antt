use Rattle.std.proofs.Common.{rules}
use Rattle.aig_io.proofs.Puts.{put_twice}
use Rattle.aig_map.proofs.NewPlaces.{as_many_recorded}
use Rattle.aig_map.proofs.map_text.put_first_line.Goals as goal

pub returns : goal.returns
returns g c =
    let m = c.block.inside in
    let many = as_many_recorded m.variables.gates.items m.new_places.items c.block.invariant in
    let put = put_twice _ _ _ _ _ c.put.ensures.put c.put_numbers.ensures in
    rw (← c.block.view_is, many) (search rules)
