use Rattle.std.proofs.Common.{◌≡◌, ◌<◌, ◌∙◌, suc, sym, ap, subst, get_or, length, arith}
use Rattle.aig_topo.specs.declared.lists.Lists.{Lists}
use Rattle.aig_topo.specs.declared.least_ready.taking.Search.{Search}
use Rattle.aig_topo.specs.Order.{left_over}
use Rattle.aig_topo.specs.Needs.{needs_at}
use Rattle.aig_topo.specs.Waiting.{rest_by}
use Rattle.aig_topo.proofs.Ordering.LeastReady.{has_each}
use Rattle.aig_topo.proofs.Ordering.Waiting.{left_is_counted}
use Rattle.aig_topo.proofs.least_ready.taking.Search.count_rests.Goals as goal

pub returns-then-list-len-clause-waiting : goal.returns-then-list-len-clause-waiting
returns-then-list-len-clause-waiting g c = λ u there.
    let s : Search = c.args.self.now in
    let wait = c.requires.1.1.waits in
    let full : length s.order.list ≡ length g.all =
    omega (arith, c.if-list-len.true, ap length c.list.ensures, c.len.ensures, wait.room.many) in
    let served = wait.listed u (has_each (length g.all) (needs_at g.all) s.order.list wait.in_turn full u there) in
    served.counted ∙ sym served.none

pub returns-clause-waiting : goal.returns-clause-waiting
returns-clause-waiting g c = λ u there.
    let s : Search = c.args.self.now in
    let inv = c.loop-gate.invariant in
    let stands = c.requires.1.1 in
    let looked : u < s.seen = omega (arith, there, c.requires.0) in
    let passed : u < c.loop-gate.gate =
    omega (
      arith,
      there,
      c.loop-gate-test.false,
      c.len-gate-end.ensures,
      stands.waits.room.many,
      stands.waits.room.few,
    ) in
    left_is_counted g.all s.lists s.ready s.seen s.order stands c.requires.1.0 u _ looked (inv.idle u)
    (λ some. subst (λ (ls : Lists). get_or c.loop-gate.self.order.waiting u 0
    ≡ suc (left_over s.order.list (rest_by ls.rows.items u))) inv.lists (inv.counted u passed some))
