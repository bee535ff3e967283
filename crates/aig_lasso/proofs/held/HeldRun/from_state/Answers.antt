use Rattle.std.proofs.Common.{◌∙◌, Bool, None, Some, ap, arith, if◌then◌else◌, map, refl, subst, sym}
use Rattle.aig_lasso.specs.Runs.{AreCharacters, value_held}
use Rattle.aig_lasso.proofs.Characters.{characters}
use Rattle.aig_lasso.proofs.held.HeldRun.from_state.Goals as goal

pub invariant_of-result : goal.invariant_of-result
invariant_of-result c =
    let text = c.args.text.now in
    let said = c.are_characters.ensures
    ∙ ap (λ (b : Bool). if b then Some (map value_held text) else None) c.if-not-are_characters.false in
    rw c.new.ensures.items (record {
      first_characters = subst AreCharacters (sym (c.in_ok-first.ensures.items_if_clones_equal (λ x y is. is)))
          (characters text said);
      step_characters = refl;
      whole = omega arith;
    })
