use Rattle.std.proofs.Common.{◌∷◌, ◌++◌, [], subst, take, take_all, ap, arith}
use Rattle.aig_circuit.specs.declared.circuit.Gate.{Gate}
use Rattle.aig_topo.proofs.Ordering.Ranked.{variables}
use Rattle.aig_image.specs.Parts.Numbers.{HaveNumbers}
use Rattle.aig_image.proofs.Numbering.Kept.{next_over_known, one_more, variables_more}
use Rattle.aig_image.proofs.numbers.Numbers.note_in_order.Goals as goal

pub loop-gate-preserved : goal.loop-gate-preserved
loop-gate-preserved c = record {
  count = omega (arith, c.in_ok-note.ensures.count, c.loop-gate.invariant.count);
  numbers = λ before numbered.
      let was = c.loop-gate.invariant.numbers before numbered in
      let gate = c.gate-item.result in
      let i = c.loop-gate.gate-index in
      let old = c.loop-gate.self in
      let now = c.note.new.self in (
        subst (HaveNumbers now)
            (variables_more (λ (g : Gate). g.var) before c.args.gates.now i gate c.loop-gate-test.true)
            (subst (λ x. HaveNumbers now ((before ++ variables (take i c.args.gates.now)) ++ x ∷ []))
            (ap (λ (g : Gate). g.var) c.gate-item.is)
            (one_more old now gate.var c.in_ok-note.ensures.count c.in_ok-note.ensures.numbers
            (before ++ variables (take i c.args.gates.now)) was.0)),
        next_over_known before c.args.gates.now old i gate was.0 c.loop-gate-test.true c.gate-item.is
            (c.knows.ensures.0 c.if-not-knows.false)
            (c.knows-in-loop-gate.ensures.0 c.if-not-knows-2.false) was.1,
      );
}

pub returns : goal.returns
returns c = λ _ before numbered.
    let was = c.loop-gate.invariant.numbers before numbered in (
      subst (λ gates. HaveNumbers c.loop-gate.self (before ++ variables gates))
          (take_all c.loop-gate.gate-index c.args.gates.now c.loop-gate-test.false) was.0,
      λ k there. was.1 k (omega (arith, there, c.loop-gate-test.false)),
    )
