use Rattle.std.proofs.Common.{◌<◌, ◌^◌, ℕ, refl}
use Rattle.std.proofs.lemmas.Simd.{Each1-from_get_or}
use Rattle.aig_lanes.proofs.Side.InputBits.{column_at}
use Rattle.aig_lanes.proofs.input_planes.bytes_by_columns.Goals as goal

pub returns : goal.returns
returns c r k in_row in_column =
    let rows = c.args.rows.now in
    column_at rows r k c.told-rows (Each1-from_get_or (λ (x : ℕ). x < 2 ^ 64) rows 0 (λ i. c.requires i 0)) in_row
    in_column _ refl
