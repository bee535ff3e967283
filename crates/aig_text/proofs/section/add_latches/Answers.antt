use Rattle.std.proofs.Common.{◌∙◌, ◌++◌, List, append-nil, ap, arith, sym}
use Rattle.aig_circuit.specs.declared.circuit.Latch.{Latch}
use Rattle.aig_text.proofs.Loops.Latches.{latches_pushed, no_latches}
use Rattle.aig_text.proofs.section.add_latches.Goals as goal

pub loop-next-init : goal.loop-next-init
loop-next-init c = (
  sym (ap (λ (ls : List Latch). c.args.latches.now ++ ls) (no_latches c.args.variable)
      ∙ append-nil c.args.latches.now),
  omega arith,
)

pub loop-next-preserved : goal.loop-next-preserved
loop-next-preserved c = (
  latches_pushed c.args.latches.now c.loop-next.latches c.push.new.self c.args.variable c.loop-next.next-index
      c.loop-next.var c.next-item.result _ c.args.nexts.now c.loop-next-test.true c.loop-next.invariant.0
      c.loop-next.invariant.1 c.next-item.is c.in_ok-push.ensures.ok,
  omega (arith, c.loop-next.invariant.1),
)
