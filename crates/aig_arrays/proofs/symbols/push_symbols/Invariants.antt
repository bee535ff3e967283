use Rattle.std.proofs.Common.{◌≡◌, ◌≤◌, length}
use Rattle.aig_arrays.specs.Decoded.{header_of, symbols_decoded}
use Rattle.aig_arrays.proofs.symbols.push_symbols.Given as goal

-- the symbols that are left tell what all of them tell
abbrev pub invariant-loop-left : goal.invariant-loop-left
invariant-loop-left l = record {
  tells :
      symbols_decoded (header_of l.counts) l.names l.named l.start l.left l.from l.circuit
      ≡ symbols_decoded (header_of l.counts) l.names l.fn.named 0 l.counts.symbols l.fn.from l.fn.circuit;
  within : l.start ≤ length l.names;
}

abbrev pub decreases-loop-left : goal.decreases-loop-left
decreases-loop-left l = l.left
