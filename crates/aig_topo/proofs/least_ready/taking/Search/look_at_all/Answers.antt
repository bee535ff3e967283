use Rattle.std.proofs.Common.{◌∙◌, ◌+◌, [], List, ℕ, sym, ap, subst, length, map, arith, sum}
use Rattle.aig_topo.specs.declared.least_ready.taking.Search.{Search}
use Rattle.aig_topo.specs.Order.{left_over, IsFull, TakesLeast}
use Rattle.aig_topo.specs.Needs.{how_many, needs_at}
use Rattle.aig_topo.proofs.Ordering.Waiting.{nothing_left}
use Rattle.aig_topo.proofs.least_ready.taking.Search.look_at_all.Goals as goal

pub returns : goal.returns
returns g c =
    let s : Search = c.loop-self.self in
    let inv = c.loop-self.invariant in
    let wait = inv.stands.waits in
    let down = c.count_rests.ensures.down in record {
      in_turn = subst (TakesLeast (length g.all) (needs_at g.all) []) (sym down.list) wait.in_turn;
      full = subst (IsFull (length g.all) (needs_at g.all)) (sym down.list)
          (nothing_left g.all s.lists s.ready s.seen s.order inv.stands inv.none
          (omega (arith, c.loop-self-test.false, c.len.ensures, wait.room.many, wait.within)));
      as_many = down.as_many ∙ wait.room.counted;
      waiting = λ u there. c.count_rests.ensures.waiting u there
          ∙ ap (λ l. left_over l (needs_at g.all u)) (sym down.list);
      paid = down.paid ∙ wait.paid ∙ ap (λ (l : List ℕ). length l + sum (map how_many g.all)) (sym down.list);
    }
