use Rattle.std.proofs.Common.{◌≡◌, ◌<◌, ◌≤◌, ℕ, subst, arith}
use Rattle.std.specs.List.{AllByRecursion}
use Rattle.aig_circuit.specs.declared.circuit.TheConstants.{LARGEST}
use Rattle.aig_topo.specs.Needs.{linked}
use Rattle.aig_topo.proofs.Ordering.LeastReady.{link_is}
use Rattle.aig_topo.proofs.least_ready.taking.make_ready.Goals as goal

-- no gate is at so high a position
too_high : (link gates : ℕ) → link ≡ 4294967295 → gates ≤ LARGEST → AllByRecursion (λ h. h < gates) (linked link) → ⊥
too_high link gates is few fits =
    let there = subst (AllByRecursion (λ h. h < gates)) (link_is link (omega (arith, is))) fits in
    omega (arith, is, few, there.0)

pub returns-then-first_rest-clause-ready : goal.returns-then-first_rest-clause-ready
returns-then-first_rest-clause-ready c =
    absurd (too_high c.first_rest.result _ c.if-first_rest.true c.requires.few c.first_rest.ensures.there)
