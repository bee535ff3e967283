use Rattle.std.proofs.lemmas.Bool.{eqb-true, or_cases, eq-eqb}
use Rattle.std.proofs.Common.{rules, arith, ℕ, List}
use Rattle.aig_topo.specs.Ready.{has}
use Rattle.aig_topo.proofs.Ordering.Counted.{written_back, same_ready, same_gates, others_stay, next_ready}
use Rattle.aig_topo.proofs.least_ready.ready.Ready.pop_first.Goals as goal

pub returns-in_err-least-clause-none : goal.returns-in_err-least-clause-none
unfolding has
returns-in_err-least-clause-none c = search rules

pub returns-clause-first : goal.returns-clause-first
unfolding has
returns-clause-first c = search (rules, eq-eqb)

pub returns-clause-least : goal.returns-clause-least
unfolding has
returns-clause-least c = search (rules, eqb-true, or_cases)

pub returns-clause-rest : goal.returns-clause-rest
unfolding has
returns-clause-rest c = search (rules, same_ready, same_gates, written_back, others_stay)

pub invariant_of-self : goal.invariant_of-self
invariant_of-self c =
    let words : List ℕ = c.deref_mut.result.now in
    let new : List ℕ = c.pop_least-self-inside.new.words in
    let ready = same_ready c.in_ok-least.least _ words _ _ _ c.in_ok-least.was c.deref_mut.ensures.value
    c.self.invariant in
    rw (written_back new c.self.inside.words.items c.self.inside.words.len
    (omega (arith, c.deref_mut.ensures.len, c.pop_least-self-inside.auto.words)))
    (next_ready words new c.self.inside.first c.self.inside.levels c.in_ok-least.least ready
    c.pop_least-self-inside.result c.pop_least-self-inside.ensures.none c.pop_least-self-inside.ensures.same
    c.pop_least-self-inside.ensures.first c.pop_least-self-inside.ensures.least c.pop_least-self-inside.ensures.rest
    c.pop_least-self-inside.ensures.as_many c.pop_least-self-inside.ensures.tree)
