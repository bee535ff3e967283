use Rattle.std.proofs.Common.{◌≡◌, ◌+◌, ◌≤◌, ◌++◌, length, take}
use Rattle.aig_lanes.specs.Parts.Sheets.{bytes_text}
use Rattle.aig_lanes.proofs.byte_rows.write_bits.Given as goal

abbrev pub invariant-loop-i : goal.invariant-loop-i
invariant-loop-i l = record {
  text : take (l.at + l.i) l.line
      ≡ take l.at l.fn.line ++ take l.i (bytes_text l.place (record { ones = l.ones; zeros = l.zeros }));
  within : l.i ≤ length l.ones;
}
