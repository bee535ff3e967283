use Rattle.std.proofs.Common.{◌+◌, ◌-◌, ◌*◌, ◌<◌, rules, ap, sym, subst, arith, length, true, List, ℕ, Some}
use Rattle.aig_topo.specs.Ready.{Tree, IsReady, has, room}
use Rattle.aig_topo.proofs.Ordering.Trees.{still_tree}
use Rattle.aig_topo.proofs.Ordering.Counted.{written_back, same_ready, same_gates, gate_put, there_already, is_added}
use Rattle.aig_topo.proofs.Ordering.Counted.{stays_ready}
use Rattle.aig_topo.proofs.least_ready.ready.Ready.insert.Goals as goal

pub returns-in_default-clause-ready : goal.returns-in_default-clause-ready
unfolding has
returns-in_default-clause-ready c = search rules

pub returns-then-gate-least-clause-ready : goal.returns-then-gate-least-clause-ready
unfolding has
returns-then-gate-least-clause-ready c = search (rules, there_already)

pub invariant_of-self-2 : goal.invariant_of-self-2
invariant_of-self-2 c =
    let words : List ℕ = c.deref_mut.result.now in
    let new : List ℕ = c.tell.new.words in
    let ready : IsReady (Some c.in-Some.least) words c.self.inside.first c.self.inside.levels =
    same_ready c.in-Some.least _ words _ _ _ c.in-Some.is c.deref_mut.ensures.value c.self.invariant in
    let fits : c.args.gate < 64 * length c.self.inside.words.items - c.self.inside.first =
    subst (λ (t : Tree). c.args.gate < room t) (sym c.self.view_is) c.requires in
    rw (written_back new c.self.inside.words.items c.self.inside.words.len
    (omega (arith, c.deref_mut.ensures.len, c.tell.auto.words)))
    (stays_ready words new c.self.inside.first c.self.inside.levels c.in-Some.least c.args.gate c.min.result
    c.max.result
    ready c.if-gate-least.false c.min.ensures c.max.ensures
    (gate_put words new c.self.inside.first c.max.result ready.tree.within c.tell.ensures.lowest)
    (still_tree words new c.self.inside.first c.self.inside.levels (c.self.inside.first + c.max.result) true ready.tree
    (omega arith) c.tell.auto.words c.tell.ensures.told c.tell.ensures.lowest) c.tell.auto.words
    (omega (arith, fits, ap length c.deref_mut.ensures.value)))

pub returns-clause-ready : goal.returns-clause-ready
unfolding has
returns-clause-ready c = search (rules, same_ready, same_gates, written_back, is_added, gate_put)
