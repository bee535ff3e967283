use Rattle.std.proofs.Common.{◌≡◌, ◌+◌, drop, flat_map, length}
use Rattle.aig_arrays.specs.Parts.Placed.{placed}
use Rattle.aig_arrays.proofs.put.put_rows.Given as goal

abbrev pub invariant-loop-item : goal.invariant-loop-item
invariant-loop-item g l = record {
  words : placed l.end (flat_map g.T.Entry.numbers (drop l.item-index l.items)) l.words
      ≡ placed l.at (flat_map g.T.Entry.numbers l.items) l.fn.words;
  end : l.end + length (flat_map g.T.Entry.numbers (drop l.item-index l.items))
      ≡ l.at + length (flat_map g.T.Entry.numbers l.items);
}
