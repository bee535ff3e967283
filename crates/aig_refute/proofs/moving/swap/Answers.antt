use Rattle.aig_refute.proofs.moving.swap.Goals as goal

pub returns : goal.returns
returns c = record {
  len = c.swap_literals.ensures.len;
  live = c.swap_literals.ensures.live;
  holds = c.swap_literals.ensures.holds;
  spanned = c.swap_literals.ensures.spanned;
  stands = c.swap_literals.ensures.stands;
}
