use Rattle.aig_refute.proofs.Rearranged.{rearranged_both}
use Rattle.aig_refute.proofs.moving.move_watch.Goals as goal

pub returns-then-k-at-gt-MANY : goal.returns-then-k-at-gt-MANY
returns-then-k-at-gt-MANY c = rearranged_both _ _ _ c.swap.ensures c.put_behind.ensures
