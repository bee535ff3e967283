use Rattle.std.proofs.Common.{◌≡◌, ℕ, List, ◌∷◌, Some, length}
use Rattle.aig_topo.specs.Lists.{list_in}
use Rattle.aig_topo.specs.Needs.{linked}
use Rattle.aig_topo.specs.Waiting.{rest_by, Stands}
use Rattle.aig_topo.proofs.least_ready.taking.Search.release_waiting.Given as goal

abbrev pub ghost-enter : goal.ghost-enter
ghost-enter g a = g.all

abbrev pub invariant-loop-user : goal.invariant-loop-user
invariant-loop-user g l = record {
  stands : Stands g.all (Some l.gate) l.self;
  list : l.self.order.list ≡ l.fn.self.order.list;
  seen : l.self.seen ≡ l.fn.self.seen;
  ahead : (u : ℕ) → (us : List ℕ) → list_in l.self.lists.rows.items l.gate ≡ u ∷ us
      → linked l.ahead ≡ rest_by l.self.lists.rows.items u;
}

abbrev pub decreases-loop-user : goal.decreases-loop-user
decreases-loop-user g l = length (list_in l.self.lists.rows.items l.gate)
