use Rattle.aig_topo.proofs.least_ready.ready.+tell.Given as goal

abbrev pub decreases-tell : goal.decreases-tell
decreases-tell l = l.bit
