use Rattle.std.proofs.Common.{rules}
use Rattle.aig_binary.proofs.Deltas.Shortest.{all_stored, group_stored, none_stored}
use Rattle.aig_binary.proofs.delta.write_long_delta.Goals as goal

pub loop-left-init : goal.loop-left-init
loop-left-init c = none_stored c.args.bytes.now c.args.at c.args.value c.ranges.value.fits

pub loop-left-preserved : goal.loop-left-preserved
loop-left-preserved c = search (rules, group_stored)

pub returns-clause-text : goal.returns-clause-text
returns-clause-text c = search (rules, all_stored)
