use Rattle.std.proofs.Common.{◌≡◌, ◌+◌, ◌++◌, ◌-◌, ◌*◌, ◌<◌, ◌≤◌, ◌∙◌, ℕ, List, ap, ap₂, arith, get_or, inl, inr}
use Rattle.std.proofs.Common.{length, map, sym, take, take-add, take-take}
use Rattle.std.proofs.lemmas.Bool.{cases_lt}
use Rattle.std.proofs.lemmas.List.{get_or-map, length-map}
use Rattle.aig_circuit.specs.declared.value.Val.TheVariants.{Zero}
use Rattle.aig_meaning.specs.Meaning.{literal_value}
use Rattle.aig_lanes.specs.Parts.Sheets.{text_in}
use Rattle.aig_step.specs.Parts.Tables.{read_from}
use Rattle.aig_step.specs.TraceText.{character_of}
use Rattle.aig_lanes.proofs.Side.Eights.{front_same, step_shown}
use Rattle.aig_lanes.proofs.Side.Sheets.{pair_character}
use Rattle.aig_lanes.proofs.lane_columns.show_literals.Goals as goal

pub loop-eight-preserved : goal.loop-eight-preserved
loop-eight-preserved c =
    let first = 8 * c.loop-eight.eight in
    let at = c.args.at + first in
    let inv = c.loop-eight.invariant in
    let old = c.loop-eight.sheet in
    let new = c.put.new.self in
    let literals = c.args.literals.now in
    record {
      front = λ k below.
          sym (take-take c.args.at at (text_in k new) (omega arith))
          ∙ ap (take c.args.at) (c.put.ensures.front k below)
          ∙ take-take c.args.at at (text_in k old) (omega arith)
          ∙ inv.front k below;
      shown = λ k j values below has is inside there. elim (cases_lt j first) [
        | inl earlier ↦
            front_same at (c.args.at + j) (text_in k new) (text_in k old) (omega (arith, earlier))
            (c.put.ensures.front k below)
            ∙ inv.shown k j values below has is earlier there
        | inr later ↦
            let i = j - first in
            let in_eight : i < 8 = omega (arith, later, inside) in
            let here : first + i ≡ j = omega (arith, later) in
            let place : at + i ≡ c.args.at + j = omega (arith, later) in
            let room : at + i < length (text_in k old) = omega (arith, place, has, there, inv.room k) in
            ap (λ (n : ℕ). get_or (text_in k new) n 0) (sym place)
            ∙ c.put.ensures.text k i below in_eight room
            ∙ pair_character k _ _ (literal_value (read_from values) (get_or literals (first + i) 0))
            (c.planes_of_literals.ensures k i values in_eight (omega (arith, here, there)) is)
            ∙ ap (λ (n : ℕ). character_of (literal_value (read_from values) (get_or literals (n) 0))) here
      ];
      room = λ k. c.put.ensures.long k ∙ inv.room k;
    }

pub returns-clause-text : goal.returns-clause-text
returns-clause-text c = λ l values below has is.
    let inv = c.loop-eight.invariant in
    let at = c.args.at in
    let text = text_in l c.loop-eight.sheet in
    let literals = c.args.literals.now in
    let value = literal_value (read_from values) in
    let end : length literals ≤ 8 * c.loop-eight.eight =
    omega (arith, c.div_ceil-eight-end.ensures, c.loop-eight-test.false) in
    take-add at (length literals) text
    ∙ ap₂ (λ (front shown : List ℕ). front ++ shown) (inv.front l below)
    (step_shown at (length literals) text (map value literals) (length-map literals value)
    (omega (arith, has, inv.room l))
    (λ j there.
    inv.shown l j values below has is (omega (arith, there, end)) there
    ∙ ap character_of (sym (get_or-map value literals j 0 Zero there))))
