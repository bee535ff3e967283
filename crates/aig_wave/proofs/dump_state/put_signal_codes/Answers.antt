use Rattle.std.proofs.Common.{refl}
use Rattle.aig_io.proofs.Puts.{put_more}
use Rattle.aig_wave.specs.declared.signal_code.SignalCode.{SignalCode}
use Rattle.aig_wave.specs.Frames.{frame}
use Rattle.aig_wave.specs.Wave.{change_text}
use Rattle.aig_wave.specs.Parts.SignalCodes.{signal_in}
use Rattle.aig_wave.proofs.dump_state.put_signal_codes.Goals as goal

pub loop-signal_code-preserved : goal.loop-signal_code-preserved
loop-signal_code-preserved g c =
    put_more (λ (t : SignalCode). change_text c.args.time (frame 0 c.args.before.now)
    (frame 0 c.args.line.now) (signal_in t))
    c.args.signal_codes.now c.loop-signal_code.signal_code-index _ _ _ _ _ refl c.loop-signal_code.invariant
    c.put_change.ensures c.loop-signal_code-test.true
