use Rattle.std.proofs.Common.{◌∙◌, ap, flat_map}
use Rattle.aig_io.proofs.Puts.{put_twice}
use Rattle.aig_wave.specs.Frames.{frame}
use Rattle.aig_wave.specs.Wave.{change_text}
use Rattle.aig_wave.proofs.Grouped.{changes_of}
use Rattle.aig_wave.proofs.dump_state.put_frame.Goals as goal

pub returns : goal.returns
returns g c =
    let f = change_text c.args.time (frame 0 c.args.before.line.now) (frame 0 c.args.shown.line.now) in
    put_twice _ _ _ _ _ c.put_head.ensures
    (put_twice _ _ _ _ _ c.put_time.ensures
    (put_twice _ _ _ _ _ c.put_run_number.ensures
    (rw (changes_of f c.signal_codes.result.0.now ∙ ap (flat_map f) c.signal_codes.ensures.signals)
    at c.put_changes.ensures)))
