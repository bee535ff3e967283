use Rattle.std.proofs.Common.{◌≡◌, ◌<◌, ◌≤◌, ◌+◌, ◌++◌, ◌∷◌, [], List, ℕ, take, arith, ap, sym, subst, length}
use Rattle.std.proofs.Common.{◌∙◌, get_or}
use Rattle.std.specs.List.{zip}
use Rattle.std.proofs.lemmas.Grind.{common_steps}
use Rattle.std.proofs.lemmas.Slice.Zip.{length-zip}
use Rattle.aig_cuts.specs.Cuts.{Planned, clauses_as, planned_clauses}
use Rattle.aig_cuts.proofs.Looking.{pair_there}
use Rattle.aig_refute.specs.Refuted.{GainsAll}
use Rattle.aig_refute.proofs.Gained.{gains_both, gains_none}
use Rattle.aig_refute_cuts.proofs.clauses.add_planned.Goals as goal

-- one more of a list
planned_more : (planned : List Planned) (k : ℕ) (p : Planned) → k < length planned → p ≡ get_or planned k p
    → planned_clauses (take (k + 1) planned) ≡ planned_clauses (take k planned) ++ clauses_as p.0 p.1
planned_more planned k p below is =
    let more : take (k + 1) planned ≡ take k planned ++ p ∷ [] = grind (arith, common_steps) in
    ap planned_clauses more ∙ grind (arith, common_steps)

pub loop-k-init : goal.loop-k-init
loop-k-init c = gains_none c.args.checker.now

pub loop-k-preserved : goal.loop-k-preserved
loop-k-preserved c =
    let gates = c.args.gates.now in
    let plan = c.args.plan.now in
    let k = c.loop-k.k in
    let gate_below : k < length gates = omega (arith, c.min-k-end.ensures) in
    let cut_below : k < length plan = omega (arith, c.min-k-end.ensures) in
    let pair = pair_there gates plan k c.index-gates-k.result c.index-plan-k.result gate_below cut_below
    c.index-gates-k.is c.index-plan-k.is in
    let below : k < length (zip gates plan) = omega (arith, length-zip gates plan) in
    subst (λ (cs : List (List ℕ)). GainsAll cs c.args.checker.now c.add_as.new.checker)
    (sym (planned_more (zip gates plan) k (c.index-gates-k.result, c.index-plan-k.result) below pair))
    (gains_both (planned_clauses (take k (zip gates plan))) (clauses_as c.index-gates-k.result c.index-plan-k.result)
    _ _ _ c.loop-k.invariant c.in_ok-add_as.ensures)

pub returns : goal.returns
returns c =
    let planned : List Planned = zip c.args.gates.now c.args.plan.now in
    let long : length planned ≤ c.loop-k.k =
    omega (arith, length-zip c.args.gates.now c.args.plan.now, c.min-k-end.ensures, c.loop-k-test.false) in
    let all : take c.loop-k.k planned ≡ planned = grind (arith, common_steps) in
    subst (λ (ps : List Planned). GainsAll (planned_clauses ps) c.args.checker.now c.loop-k.checker) all
    c.loop-k.invariant
