use Rattle.std.proofs.Common.{rules, ◌≡◌, ◌++◌, [], ◌∷◌, ℕ, List, subst}
use Rattle.std.specs.List.{zip}
use Rattle.aig_circuit.specs.declared.circuit.Gate.{Gate}
use Rattle.aig_cuts.specs.declared.cut.Cut.{Cut}
use Rattle.aig_cuts.specs.Cuts.{planned_clauses}
use Rattle.aig_refute.specs.Refuted.{Gains, GainsAll}
use Rattle.aig_refute.specs.declared.checker.Checker.{Checker}
use Rattle.aig_refute.proofs.Gained.{gains_both, gains_first, gains_none}
use Rattle.aig_refute_cuts.proofs.reading.checker_of.Goals as goal

-- the clause of the constant, those of the gates as planned, and that of the bad states
gains_circuit : (plan : List Cut) (gates gates_now : List Gate) (bad bad_now : List ℕ)
    → (first second third fourth : Checker) → gates_now ≡ gates → bad_now ≡ bad → Gains (1 ∷ []) first second
    → GainsAll (planned_clauses (zip gates_now plan)) second third → Gains bad_now third fourth
    → GainsAll (((1 ∷ []) ∷ planned_clauses (zip gates plan)) ++ bad ∷ []) first fourth
gains_circuit plan gates gates_now bad bad_now first second third fourth same_gates same_bad one two three =
    gains_both ((1 ∷ []) ∷ planned_clauses (zip gates plan)) (bad ∷ []) first third fourth
    (gains_first (1 ∷ []) (planned_clauses (zip gates plan)) first second third one
    (subst (λ (gs : List Gate). GainsAll (planned_clauses (zip gs plan)) second third) same_gates two))
    (gains_first bad [] third fourth fourth (subst (λ (b : List ℕ). Gains b third fourth) same_bad three)
    (gains_none fourth))

pub returns : goal.returns
returns c =
    let gates : c.deref-2.result.now ≡ c.args.circuit.now.gates = search rules in
    let bad : c.deref-3.result.now ≡ c.args.circuit.now.bad = search rules in
    let all = gains_circuit c.args.plan.now c.args.circuit.now.gates c.deref-2.result.now c.args.circuit.now.bad
    c.deref-3.result.now c.in_ok-checker.checker c.add_true.new.self c.add_planned.new.checker c.add_bad.new.self
    gates bad c.in_ok-add_true.ensures c.in_ok-add_planned.ensures c.in_ok-add_bad.ensures in
    record {
      admits = λ a sat. all.admits a (c.in_ok-checker.ensures.admits a) sat;
      stored = λ clause kept. all.gained clause kept;
    }
