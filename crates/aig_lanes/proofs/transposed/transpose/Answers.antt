use Rattle.std.proofs.Common.{◌+◌, ◌*◌, ◌<◌, ◌∙◌, ap, arith, ℕ}
use Rattle.std.specs.Int.{bit_at}
use Rattle.aig_lanes.specs.Parts.Sheets.{byte_at}
use Rattle.aig_lanes.proofs.Side.Eights.{byte_in_row, woven_from, woven_thrice, woven_within}
use Rattle.aig_lanes.proofs.transposed.transpose.Goals as goal

pub returns : goal.returns
returns c = λ octet r j in_plane in_planes in_byte.
    let m = 8 * octet + r in
    let below : m < 256 = omega (arith, in_plane, in_planes) in
    let below_too = woven_within m below in
    let rows = c.rows_of.result in
    ap (λ (n : ℕ). bit_at n j)
    (c.flat.ensures m below
    ∙ c.weave-3.ensures m below
    ∙ c.weave-2.ensures (woven_from m) below_too
    ∙ c.weave.ensures (woven_from (woven_from m)) (woven_within (woven_from m) below_too)
    ∙ ap (λ (n : ℕ). byte_at n rows) (woven_thrice octet r in_plane in_planes)
    ∙ byte_in_row octet r rows in_plane)
    ∙ c.rows_of.ensures r octet j in_planes in_plane in_byte
