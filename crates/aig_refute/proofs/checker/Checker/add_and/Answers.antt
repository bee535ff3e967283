use Rattle.aig_refute.proofs.Gained.{gains_first, gains_none}
use Rattle.aig_refute.proofs.checker.Checker.add_and.Goals as goal

pub returns : goal.returns
returns c =
    let first = rw c.negation.ensures at c.in_ok-add_unlisted.ensures in
    let second = rw c.negation-2.ensures at c.in_ok-add_unlisted-2.ensures in
    let third = rw (c.negation-3.ensures, c.negation-4.ensures) at c.in_ok-add_unlisted-3.ensures in
    gains_first _ _ c.args.self.now _ _
    (record { admits = first.admits; base = first.base; stored = first.stored; gained = first.gained })
    (gains_first _ _ _ _ _ second (gains_first _ _ _ _ _ third (gains_none _)))
