use Rattle.std.proofs.Common.{◌∙◌, [], refl, subst, map-id, ap, nat_cmp}
use Rattle.std.specs.FinMap.{get, get-empty}
use Rattle.aig_image.specs.Parts.Numbers.{HaveNumbers}
use Rattle.aig_image.proofs.Numbering.Kept.{none_noted}
use Rattle.aig_image.proofs.numbers.Numbers.of_variables.Goals as goal

pub note_all-requires-clause-none : goal.note_all-requires-clause-none
note_all-requires-clause-none c = λ v a. ap (λ m. get m v) c.in_ok-numbers.ensures ∙ get-empty nat_cmp v

pub returns : goal.returns
returns c =
    subst (HaveNumbers c.note_all.new.self) (map-id c.args.variables.now)
    (c.in_ok-note_all.ensures.numbers [] (none_noted _ refl c.in_ok-numbers.ensures))
