use Rattle.std.proofs.Common.{◌≡◌, ◌+◌, ◌∙◌, ap, arith, length, nat_cmp, ℕ}
use Rattle.std.specs.FinMap.{FinMap, get}
use Rattle.std.proofs.lemmas.List.{length-map}
use Rattle.aig_circuit.specs.declared.circuit.Gate.{Gate}
use Rattle.aig_circuit.specs.declared.circuit.Latch.{Latch}
use Rattle.aig_cone.specs.Parts.Search.{latch_variables}
use Rattle.aig_cone.proofs.Placing.{placed_next}
use Rattle.aig_cone.proofs.places.place_gates.Goals as goal

pub loop-at-preserved : goal.loop-at-preserved
loop-at-preserved c = λ v.
    let place : ℕ = c.len-before.result + c.loop-at.at in
    let is : place ≡ length (latch_variables c.args.circuit.now) + c.loop-at.at =
    omega (arith, c.len-before.ensures, length-map c.args.circuit.now.latches (λ (l : Latch). l.var)) in
    ap (λ (m : FinMap nat_cmp ℕ). get m v)
    c.in_ok-insert.ensures.ok
    ∙ placed_next (λ (g : Gate). g.var) (latch_variables c.args.circuit.now) c.as_slice-gates.result.now c.loop-at.at
    place c.index-gates-at.result c.loop-at.places c.loop-at-test.true is c.loop-at.invariant v
