use Rattle.std.proofs.Common.{◌∙◌, [], ap, arith, nat_cmp, ℕ}
use Rattle.std.specs.FinMap.{FinMap, get}
use Rattle.aig_circuit.specs.declared.circuit.Latch.{Latch}
use Rattle.aig_cone.proofs.Placing.{placed_next}
use Rattle.aig_cone.proofs.places.place_latches.Goals as goal

pub loop-at-preserved : goal.loop-at-preserved
loop-at-preserved c = λ v.
    ap (λ (m : FinMap nat_cmp ℕ). get m v)
    c.in_ok-insert.ensures.ok
    ∙ placed_next (λ (l : Latch). l.var) [] c.as_slice-latches.result.now c.loop-at.at c.loop-at.at
    c.index-latches-at.result c.loop-at.places c.loop-at-test.true (omega arith) c.loop-at.invariant v
