use Rattle.std.proofs.Common.{◌==◌, ◌∙◌, List, ap, sym, ℕ}
use Rattle.std.specs.List.{list_any}
use Rattle.std.specs.Ordering.{nat_cmp}
use Rattle.std.specs.FinSet.{FinSet, contains}
use Rattle.aig_cone.proofs.Adding.{marked_added, marked_there}
use Rattle.aig_cone.proofs.found.Found.add.Goals as goal

pub returns-in_ok-push-clause-marks : goal.returns-in_ok-push-clause-marks
returns-in_ok-push-clause-marks c = λ v.
    ap (λ (s : FinSet nat_cmp). contains s v) c.in_ok-insert.ensures.ok
    ∙ marked_added c.args.self.now.marks c.args.self.now.list.items c.args.var v (c.requires v)
    ∙ ap (λ (xs : List ℕ). list_any (λ w. w == v) xs) (sym c.in_ok-push.ensures.items)

pub returns-else-branch-clause-marks : goal.returns-else-branch-clause-marks
returns-else-branch-clause-marks c = λ v.
    ap (λ (s : FinSet nat_cmp). contains s v) c.in_ok-insert.ensures.ok
    ∙ marked_there c.args.self.now.marks c.args.self.now.list.items c.args.var v c.in_ok-insert.field-0
    c.if-branch.false c.in_ok-insert.ensures.added (c.requires v)
