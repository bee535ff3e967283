use Rattle.aig_binary.proofs.Deltas.Shortest.{short_stored}
use Rattle.aig_binary.proofs.delta.write_short_delta.Goals as goal

pub returns-clause-text : goal.returns-clause-text
returns-clause-text c =
    rw c.min-more.ensures (short_stored c.args.bytes.now c.args.at c.args.value c.requires.low c.requires.room)
