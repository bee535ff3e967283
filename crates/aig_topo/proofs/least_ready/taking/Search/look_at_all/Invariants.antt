use Rattle.std.proofs.Common.{◌≡◌, ◌-◌, ℕ, None, false, length}
use Rattle.aig_topo.specs.Ready.{has}
use Rattle.aig_topo.specs.Waiting.{Stands}
use Rattle.aig_topo.proofs.least_ready.taking.Search.look_at_all.Given as goal

abbrev pub ghost-look_at_next : goal.ghost-look_at_next
ghost-look_at_next g a = g.all

abbrev pub ghost-count_rests : goal.ghost-count_rests
ghost-count_rests g a = g.all

abbrev pub invariant-loop-self : goal.invariant-loop-self
invariant-loop-self g l = record {
  none : (h : ℕ) → has l.self.ready h ≡ false;
  stands : Stands g.all None l.self;
}

abbrev pub decreases-loop-self : goal.decreases-loop-self
decreases-loop-self g l = length g.all - l.self.seen
