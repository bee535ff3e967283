use Rattle.std.proofs.Common.{◌==◌, ◌∙◌, List, ap, sym, ℕ}
use Rattle.std.specs.List.{list_any}
use Rattle.std.specs.Ordering.{nat_cmp}
use Rattle.std.specs.FinSet.{FinSet, contains, contains-empty}
use Rattle.aig_cone.proofs.found.Found.new.Goals as goal

pub returns-clause-marks : goal.returns-clause-marks
returns-clause-marks c = λ v.
    ap (λ (s : FinSet nat_cmp). contains s v) c.in_ok-new.ensures
    ∙ contains-empty nat_cmp v
    ∙ ap (λ (xs : List ℕ). list_any (λ w. w == v) xs) (sym c.new-2.ensures.items)
