use Rattle.aig_io.proofs.Puts.{put_nothing}
use Rattle.aig_wave.proofs.Grouped.{no_changes}
use Rattle.aig_wave.proofs.dump_state.put_new_group.Goals as goal

pub returns-else-is_new : goal.returns-else-is_new
returns-else-is_new g c =
    rw (no_changes c.args.time c.args.group.now c.args.before.now c.args.line.now c.args.signal_codes.now _ _
    c.stretch.ensures c.stretch-else-signal_codes-le-FEW.ensures c.if-is_new.ensures c.requires.group.covers)
    (put_nothing _)
