use Rattle.std.proofs.Common.{◌≡◌, ◌+◌, ◌≤◌, take, true, vec_len}
use Rattle.aig_io.specs.Windows.{Filled}
use Rattle.aig_io.proofs.transfer.read_to_end.Given as goal

-- what came is held after what was held, and room after that
abbrev pub invariant-loop-source : goal.invariant-loop-source
invariant-loop-source g l =
    let d = g.R.Source in
    record {
      came : Filled l.fn.bytes.items (take l.len l.bytes.items) true (d.history l.fn.source) (d.history l.source);
      within : l.len ≤ vec_len l.bytes;
      bound : d.bound l.source + l.len ≡ d.bound l.fn.source + vec_len l.fn.bytes;
    }

abbrev pub decreases-loop-source : goal.decreases-loop-source
decreases-loop-source g l = g.R.Source.bound l.source
