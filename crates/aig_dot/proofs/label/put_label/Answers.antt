use Rattle.std.proofs.Common.{refl}
use Rattle.aig_io.proofs.Puts.{put_more}
use Rattle.aig_dot.specs.Label.{label_byte}
use Rattle.aig_dot.proofs.label.put_label.Goals as goal

pub loop-byte-preserved : goal.loop-byte-preserved
loop-byte-preserved g c =
    put_more label_byte c.args.name.now c.loop-byte.byte-index 0 _ _ _ _ refl c.loop-byte.invariant c.put_byte.ensures
    c.loop-byte-test.true
