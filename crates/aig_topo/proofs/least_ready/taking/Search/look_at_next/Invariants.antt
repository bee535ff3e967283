use Rattle.std.proofs.Common.{◌≡◌, ◌+◌, ◌-◌, None, length}
use Rattle.aig_topo.specs.Waiting.{Stands}
use Rattle.aig_topo.proofs.least_ready.taking.Search.look_at_next.Given as goal

abbrev pub ghost-enter : goal.ghost-enter
ghost-enter g a = g.all

abbrev pub ghost-release_waiting : goal.ghost-release_waiting
ghost-release_waiting g a = g.all

abbrev pub invariant-loop-next : goal.invariant-loop-next
invariant-loop-next g l = record {
  stands : Stands g.all None l.self;
  seen : l.self.seen ≡ l.fn.self.seen + 1;
}

abbrev pub decreases-loop-next : goal.decreases-loop-next
decreases-loop-next g l = length g.all - length l.self.order.list
