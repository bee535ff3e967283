use Rattle.std.proofs.Common.{length-append, rules, length-drop, length-take}
use Rattle.aig_unroll.proofs.Ordering.Frames.{two_put}
use Rattle.aig_unroll.proofs.frames.put_behind.Goals as goal

pub returns : goal.returns
returns c = search (rules, length-take, length-drop, length-append, two_put)
