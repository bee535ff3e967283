-- What a wave taker came to: it took a trace text, and put the dump of it.
use Rattle.std.specs.Prelude.{◌≡◌, ℕ, List, [], false, fold}
use Rattle.aig_io.specs.Output.{Appended}
use Rattle.aig_wave.specs.declared.wave.WaveTaker.{WaveTaker}
use Rattle.aig_wave.specs.Frames.{frames_of}
use Rattle.aig_wave.specs.Wave.{dump}
use Rattle.aig_wave.specs.Parts.Cuts.{cut}
use Rattle.aig_wave.specs.Parts.Points.{begin_of, behind_line}

-- Since it stood before the first frame, it took this text, whose last line has ended, and put the dump of it.
pub record Dumps {W : Type 0} (from now : WaveTaker W) (text : List ℕ) : Type 0 where
  pub dump_state : let w = from.dump_state.layout in
      now.dump_state ≡ record { layout = w; point = fold (behind_line w) (begin_of w) (cut text).lines }
  pub whole : (cut text).begun ≡ []
  pub put : let w = from.dump_state.layout in Appended from.output now.output (dump w (frames_of w text) false)
