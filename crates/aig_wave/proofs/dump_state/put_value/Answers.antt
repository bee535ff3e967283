use Rattle.aig_io.proofs.Puts.{put_twice}
use Rattle.std.proofs.lemmas.Bool.{ne_eqb}
use Rattle.aig_wave.proofs.dump_state.put_value.Goals as goal

pub returns : goal.returns
returns g c =
    rw (ne_eqb c.args.signal.now.size 1 c.if-signal-eq1.false)
    (put_twice _ _ _ _ _ c.put-2.ensures.put (put_twice _ _ _ _ _ c.put_reversed.ensures c.put-3.ensures.put))
