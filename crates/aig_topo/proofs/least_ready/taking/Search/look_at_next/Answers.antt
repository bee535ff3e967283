use Rattle.std.proofs.Common.{◌<◌, ◌∙◌, ◌∷◌, [], ℕ, List, None, Some, sym, ap, subst, refl, inl, arith, length}
use Rattle.std.specs.List.{AllByRecursion}
use Rattle.std.proofs.lemmas.List.{length-append}
use Rattle.aig_circuit.specs.Wellformed.{IsAmong}
use Rattle.aig_topo.specs.declared.lists.GateNode.{GateNode}
use Rattle.aig_topo.specs.declared.least_ready.taking.Search.{Search}
use Rattle.aig_topo.specs.Order.{left_over}
use Rattle.aig_topo.specs.Needs.{needs_at}
use Rattle.aig_topo.specs.Progress.{Progress}
use Rattle.aig_topo.specs.Waiting.{needs_by, Stands}
use Rattle.aig_topo.proofs.Ordering.Cyclic.{among_last}
use Rattle.aig_topo.proofs.Ordering.Rows.{as_many_needs}
use Rattle.aig_topo.proofs.Ordering.LeastReady.{no_longer}
use Rattle.aig_topo.proofs.Ordering.Waiting.{search_of, rows_looked_at, rows_taken, still_lacks}
use Rattle.aig_topo.proofs.least_ready.taking.Search.look_at_next.Goals as goal

pub enter-requires : goal.enter-requires
enter-requires g c =
    let s : Search = c.args.self.now in
    let rows : List GateNode = s.lists.rows.items in
    let left = c.requires.0 in
    let stands = c.requires.1.1 in
    let r = stands.waits.room in
    let unasked = stands.waits.unasked s.seen (omega arith) in
    let is = c.needs-asked.ensures in (
      rows_looked_at g.all s.lists s.ready s.seen s.order stands left,
      (
        rw is (subst (λ n. AllByRecursion (λ h. h < n) (needs_by rows s.seen)) (as_many_needs rows ∙ r.many)
            (r.there s.seen)),
        (
          unasked.1 ∙ ap length (sym (is ∙ unasked.0)),
          λ more has_all. ap (left_over more) (sym (is ∙ unasked.0)),
        ),
      ),
    )

pub loop-next-init : goal.loop-next-init
loop-next-init g c =
    let s : Search = c.args.self.now in
    let e = c.enter.ensures in record {
      stands = record {
        waits = e.waits;
        lacks = still_lacks s.lists.rows.items c.enter.new.self.lists.rows.items s.order.list
            c.enter.new.self.order.list
            None e.list e.of_taken c.requires.1.1.lacks;
      };
      seen = e.seen;
    }

pub release_waiting-requires : goal.release_waiting-requires
release_waiting-requires g c =
    let s : Search = c.loop-next.self in
    let next : ℕ = c.in-Some.next in
    let e = c.in-Some.ensures in (
      subst (λ (p : Progress). IsAmong next p.list) (sym c.take.ensures)
          (among_last s.order.list (next ∷ []) next (inl refl)),
      subst (λ (p : Progress). Stands g.all (Some next) (search_of p s.lists c.pop_first.new.self s.seen))
          (sym c.take.ensures)
          (rows_taken g.all s.lists s.ready s.seen s.order c.loop-next.invariant.stands next e.first e.least
          c.pop_first.new.self e.rest e.room),
    )

pub loop-next-smaller : goal.loop-next-smaller
loop-next-smaller g c =
    let list : List ℕ = c.loop-next.self.order.list in
    let longer = c.release_waiting.ensures.list ∙ ap (λ (p : Progress). p.list) c.take.ensures in
    omega (
      arith,
      ap length longer,
      length-append list (c.in-Some.next ∷ []),
      no_longer (length g.all) (needs_at g.all) c.release_waiting.new.self.order.list
          c.release_waiting.ensures.stands.waits.in_turn,
    )
