use Rattle.std.proofs.Common.{ℕ, List, Bool, true, false, inr, refl, subst, sym}
use Rattle.aig_circuit.specs.declared.circuit.Circuit.{Circuit}
use Rattle.aig_arrays.specs.Words.{HasWords}
use Rattle.aig_library.specs.Arrays.{IsShownAs}
use Rattle.aig_library.proofs.arrays.shown_of_file.Goals as goal

-- what is shown has the symbols of what was read
shown_has_words : (ordered : Bool) (found shown : Circuit) (numbers : List ℕ)
    → IsShownAs ordered found shown numbers → HasWords found → HasWords shown
shown_has_words true found shown numbers is has = subst (λ d. HasWords d) (sym is.is_image) has
shown_has_words false found shown numbers is has = subst (λ d. HasWords d) (sym is.0) has

pub returns-in_default-clause-err : goal.returns-in_default-clause-err
returns-in_default-clause-err c =
    rw c.refused_whole.ensures (inr (
      c.in_ok-found.found,
      c.in_ok-found.ensures.ok,
      λ has. c.in_default.ensures.none refl (shown_has_words _ _ _ _ c.in_ok-circuit.ensures has),
      refl,
    ))
