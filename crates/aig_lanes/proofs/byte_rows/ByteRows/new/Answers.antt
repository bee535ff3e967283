use Rattle.std.proofs.Common.{◌∙◌, arith}
use Rattle.aig_lanes.proofs.Side.Sheets.{rows_with, text_long}
use Rattle.aig_lanes.proofs.byte_rows.ByteRows.new.Goals as goal

pub returns : goal.returns
returns c = λ place.
    text_long place (rows_with c.in_ok-vec.field-0.items c.in_ok-vec-2.field-0.items)
    (omega (arith, c.in_ok-vec.ensures.len, c.in_ok-vec-2.ensures.len))
    ∙ omega (arith, c.in_ok-vec.ensures.len)
