use Rattle.aig_info.proofs.info.used_of.Goals as goal

pub returns : goal.returns
returns c = (c.in_ok-cone.cone, c.in_ok-cone.ensures, c.counts_in.ensures)
