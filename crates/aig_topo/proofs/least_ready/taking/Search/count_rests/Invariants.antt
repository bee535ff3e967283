use Rattle.std.proofs.Common.{◌≡◌, ◌<◌, ◌≤◌, ℕ, suc, get_or}
use Rattle.aig_topo.specs.Order.{left_over}
use Rattle.aig_topo.specs.Progress.{CountsDown}
use Rattle.aig_topo.specs.Waiting.{rest_by}
use Rattle.aig_topo.proofs.least_ready.taking.Search.count_rests.Given as goal

abbrev pub invariant-loop-gate : goal.invariant-loop-gate
invariant-loop-gate g l = record {
  lists : l.self.lists ≡ l.fn.self.lists;
  down : CountsDown l.fn.self.order l.self.order;
  idle : (u : ℕ) → get_or l.fn.self.order.waiting u 0 ≡ 0 → get_or l.self.order.waiting u 0 ≡ 0;
  counted : (u : ℕ) → u < l.gate → 0 < get_or l.fn.self.order.waiting u 0
      → get_or l.self.order.waiting u 0 ≡ suc (left_over l.fn.self.order.list (rest_by l.self.lists.rows.items u));
  ahead : (u : ℕ) → l.gate ≤ u → get_or l.self.order.waiting u 0 ≡ get_or l.fn.self.order.waiting u 0;
}
