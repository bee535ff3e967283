use Rattle.std.proofs.Common.{◌∙◌}
use Rattle.aig_places.proofs.lanes.put_in_all_lanes.Goals as goal

pub returns : goal.returns
returns c l values below is =
    c.put_pair.ensures l values c.args.value is (record {
      one_plane = c.plane_of.ensures.plane;
      zero_plane = c.plane_of-2.ensures.plane;
      one_bit = c.plane_of.ensures.bits l below ∙ c.bits_of-one.ensures.one;
      zero_bit = c.plane_of-2.ensures.bits l below ∙ c.bits_of-one.ensures.zero;
    })
