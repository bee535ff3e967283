use Rattle.std.proofs.Common.{inl, inr, subst, sym}
use Rattle.std.specs.List.{zip}
use Rattle.aig_circuit.specs.Literal.{variable_of}
use Rattle.aig_cuts.specs.Cuts.{IsKept, IsRightAs}
use Rattle.aig_cuts.proofs.check.is_right.Goals as goal

pub returns-then-is_kept : goal.returns-then-is_kept
returns-then-is_kept c is =
    let gate = c.args.gate.now in
    let planned = zip c.args.gates.now c.args.plan.now in
    let kept : IsKept planned (variable_of gate.left) × IsKept planned (variable_of gate.right) =
    (c.is_kept.ensures c.if-is_kept.true, c.is_kept-then-is_kept.ensures is) in
    elim c.in-Plain.is [
      | inl plain ↦ subst (IsRightAs planned gate) (sym plain) kept
      | inr inner ↦ subst (IsRightAs planned gate) (sym inner) kept
    ]
