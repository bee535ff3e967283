use Rattle.std.proofs.Common.{◌≡◌, ◌≢◌, ◌∙◌, ◌∷◌, ℕ, Some, None, sym, inl, subst, refl, arith}
use Rattle.aig_circuit.specs.Wellformed.{IsAmong}
use Rattle.aig_topo.specs.declared.lists.Lists.{Lists}
use Rattle.aig_topo.specs.declared.least_ready.taking.Search.{Search}
use Rattle.aig_topo.specs.Lists.{list_in}
use Rattle.aig_topo.specs.Progress.{Progress}
use Rattle.aig_topo.specs.Waiting.{Stands}
use Rattle.aig_topo.proofs.Ordering.Waiting.{back, gone, still_lacks, search_of, rows_served, entered_again}
use Rattle.aig_topo.proofs.least_ready.taking.Search.release_waiting.Goals as goal

pub first_rest-ahead-requires-clause-there : goal.first_rest-ahead-requires-clause-there
first_rest-ahead-requires-clause-there g c =
    let wait = c.requires.1.waits in
    omega (arith, (wait.listed c.args.gate c.requires.0).below, wait.within, wait.room.many)

pub pop-requires-clause-list : goal.pop-requires-clause-list
pop-requires-clause-list g c =
    let wait = c.loop-user.invariant.stands.waits in
    let taken = subst (IsAmong c.args.gate) (sym c.loop-user.invariant.list) c.requires.0 in
    omega (arith, (wait.listed c.args.gate taken).below, wait.within, wait.room.many)

pub enter-requires : goal.enter-requires
enter-requires g c =
    let s : Search = c.loop-user.self in
    let inv = c.loop-user.invariant in
    let new : Lists = c.pop.new.self in
    let less : Progress = c.count_down.new.self in
    let gate : ℕ = c.args.gate in
    let user : ℕ = c.in-Some.user in
    let e = c.in-Some.ensures in
    let d = c.count_down.ensures in
    entered_again g.all s.lists s.ready s.seen s.order (Some gate) inv.stands new gate user e.lists e.needs e.first
    e.others less c.loop-user.ahead c.count.result (inv.ahead user (list_in new.rows.items gate) e.first)
    c.count.ensures d.waiting d.steps d.list
    (subst (IsAmong gate) (sym inv.list) c.requires.0)

pub loop-user-preserved : goal.loop-user-preserved
loop-user-preserved g c =
    let s : Search = c.loop-user.self in
    let inv = c.loop-user.invariant in
    let new : Lists = c.pop.new.self in
    let gate : ℕ = c.args.gate in
    let user : ℕ = c.in-Some.user in
    let p = c.in-Some.ensures in
    let d = c.count_down.ensures in
    let e = c.enter.ensures in
    let room = inv.stands.waits.room in
    let taken = subst (IsAmong gate) (sym (d.list ∙ inv.list)) c.requires.0 in record {
      stands = record {
        waits = e.waits;
        lacks = still_lacks new.rows.items c.enter.new.self.lists.rows.items c.count_down.new.self.list
            c.enter.new.self.order.list (Some gate) e.list e.of_taken
            (λ m u other a b. inv.stands.lacks m u other
            (back s.lists.rows.items new.rows.items gate user p.first p.others m u a) (subst (IsAmong m) d.list b));
      };
      list = e.list ∙ d.list ∙ inv.list;
      seen = e.seen ∙ inv.seen;
      ahead = λ u us are.
          let before : list_in new.rows.items gate ≡ u ∷ us = sym (e.of_taken gate taken) ∙ are in
          let other : u ≢ user = λ is. gone s.lists.rows.items new.rows.items gate user p.first p.others room.lists
          room.apart gate (subst (IsAmong user) (sym before) (inl (sym is))) in
          c.first_rest-ahead-in-Some.ensures.rest u us before ∙ sym (e.rests u other);
    }

pub returns-clause-stands : goal.returns-clause-stands
returns-clause-stands g c =
    let s : Search = c.loop-user.self in
    let e = c.in_default.ensures in
    subst (λ (l : Lists). Stands g.all None (search_of s.order l s.ready s.seen)) (sym e.same)
    (rows_served g.all s.lists s.ready s.seen s.order (Some c.args.gate) c.loop-user.invariant.stands c.args.gate refl
    e.none)
