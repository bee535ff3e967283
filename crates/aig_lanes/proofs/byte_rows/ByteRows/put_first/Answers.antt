use Rattle.std.proofs.Common.{◌-◌, rules, arith, sym}
use Rattle.std.proofs.lemmas.List.{length-take-le}
use Rattle.aig_lanes.proofs.Side.Eights.{overwritten_part, overwritten_past, put_rows, text_size}
use Rattle.aig_lanes.proofs.Side.Sheets.{rows_with, text_long, zip_take}
use Rattle.aig_lanes.proofs.byte_rows.ByteRows.put_first.Goals as goal

pub slice_bounds-overwrite-length : goal.slice_bounds-overwrite-length
slice_bounds-overwrite-length c =
    sym (length-take-le (c.len-count.result - c.args.at) c.args.ones.now
    (omega (
      arith,
      c.requires.few 0,
      c.len-count.ensures,
      text_size 0 (rows_with c.self.inside.ones.items c.self.inside.zeros.items) c.args.self.now c.self.view_is
          c.self.invariant,
    )))

pub slice_bounds-overwrite-length-then-at-count : goal.slice_bounds-overwrite-length-then-at-count
slice_bounds-overwrite-length-then-at-count c =
    sym (length-take-le (c.len-count.result - c.args.at) c.args.zeros.now
    (omega (
      arith,
      c.requires.few 0,
      c.requires.same,
      c.len-count.ensures,
      text_size 0 (rows_with c.self.inside.ones.items c.self.inside.zeros.items) c.args.self.now c.self.view_is
          c.self.invariant,
    )))

pub returns-then-at-count : goal.returns-then-at-count
returns-then-at-count c =
    search (rules, put_rows, length-take-le, zip_take, overwritten_part, text_long)

pub returns-else-at-count : goal.returns-else-at-count
returns-else-at-count c = search (rules, overwritten_past, rows_with, text_size)
