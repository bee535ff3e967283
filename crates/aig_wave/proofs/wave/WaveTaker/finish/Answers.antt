use Rattle.aig_wave.proofs.Waved.{dumps_end}
use Rattle.aig_wave.proofs.wave.WaveTaker.finish.Goals as goal

pub returns-clause-put : goal.returns-clause-put
returns-clause-put g c = λ from text d.
    dumps_end from _ _ _ text c.args.done d c.put_end.ensures c.finish.ensures.put
