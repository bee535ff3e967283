use Rattle.std.proofs.Common.{arith}
use Rattle.std.proofs.lemmas.Grind.{common_steps}
use Rattle.aig_core.proofs.Checking.Sections.{unknown_from}
use Rattle.aig_core.proofs.checks.faults.first_unknown_operand.Goals as goal

pub loop-at-preserved : goal.loop-at-preserved
loop-at-preserved c =
    let from =
    unknown_from c.args.circuit.now c.as_slice-gates.ensures c.loop-at.at c.index-gates-at.result c.loop-at-test.true
    c.index-gates-at.is in
    grind (
      arith,
      common_steps,
      from,
      c.requires.needs,
      c.requires.before,
      c.unknown_operand.ensures,
      c.in_default.is,
      c.loop-at.invariant,
    )

pub returns-in-Some : goal.returns-in-Some
returns-in-Some c =
    let from =
    unknown_from c.args.circuit.now c.as_slice-gates.ensures c.loop-at.at c.index-gates-at.result c.loop-at-test.true
    c.index-gates-at.is in
    grind (
      arith,
      common_steps,
      from,
      c.requires.needs,
      c.requires.before,
      c.unknown_operand.ensures,
      c.in-Some.is,
      c.loop-at.invariant,
    )
