use Rattle.std.proofs.Common.{◌∙◌, ap, nat_cmp, ℕ}
use Rattle.std.specs.FinMap.{FinMap, get, get-empty}
use Rattle.aig_cone.proofs.places.places_of.Goals as goal

pub place_latches-requires-clause-none : goal.place_latches-requires-clause-none
place_latches-requires-clause-none c = λ v.
    ap (λ (m : FinMap nat_cmp ℕ). get m v) c.in_ok-places.ensures ∙ get-empty nat_cmp v
