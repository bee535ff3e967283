use Rattle.aig_replay.proofs.WitnessPut.{witness_put}
use Rattle.aig_replay.proofs.writer.put_witness.Goals as goal

pub returns : goal.returns
returns g c = λ claim number first are.
    witness_put _ _ _ _ _ _ _ claim c.args.property c.args.first.now number first c.put.ensures.put
    c.put_number.ensures.put c.put-2.ensures.put c.put_line.ensures (c.put_steps.ensures claim.steps are)
    c.put-3.ensures.put
