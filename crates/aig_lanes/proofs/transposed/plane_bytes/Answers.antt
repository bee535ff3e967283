use Rattle.std.proofs.Common.{refl, w64}
use Rattle.std.proofs.lemmas.Simd.{below_from_Fits}
use Rattle.aig_lanes.proofs.Side.Eights.{plane_byte}
use Rattle.aig_lanes.proofs.transposed.plane_bytes.Goals as goal

pub returns : goal.returns
returns c = λ octet j in_plane in_byte.
    plane_byte c.args.plane octet j (below_from_Fits w64 c.args.plane c.fits-plane.1) in_plane in_byte _ refl
