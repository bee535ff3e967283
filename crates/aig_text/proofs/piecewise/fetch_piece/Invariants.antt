use Rattle.std.proofs.Common.{◌≡◌, ◌+◌, ◌≤◌, length, true}
use Rattle.aig_io.specs.Windows.{Filled}
use Rattle.aig_text.proofs.piecewise.fetch_piece.Given as goal

-- what came is held after what was held
abbrev pub invariant-loop-window : goal.invariant-loop-window
invariant-loop-window g l =
    let d = g.R.Source in
    record {
      came : Filled l.fn.window l.window true (d.history l.fn.source) (d.history l.source);
      bound : d.bound l.source + length l.window ≡ d.bound l.fn.source + length l.fn.window;
      less : d.bound l.source ≤ d.bound l.fn.source;
    }

abbrev pub decreases-loop-window : goal.decreases-loop-window
decreases-loop-window g l = g.R.Source.bound l.source
