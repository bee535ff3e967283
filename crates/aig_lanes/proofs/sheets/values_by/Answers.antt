use Rattle.std.proofs.Common.{◌<◌, ◌≤◌, ◌∙◌, ◌++◌, [], ◌∷◌, List, ap, ap₂, arith, get_or, length, sym, ℕ}
use Rattle.std.proofs.lemmas.List.{get_or-map, length-map, take_all, take_more}
use Rattle.aig_circuit.specs.declared.value.Val.{Val}
use Rattle.aig_circuit.specs.declared.value.Val.TheVariants.{Zero}
use Rattle.aig_step.specs.TraceText.{character_of}
use Rattle.aig_lanes.proofs.sheets.values_by.Goals as goal

pub loop-character-preserved : goal.loop-character-preserved
loop-character-preserved c = λ shown is.
    let i = c.loop-character.character-index in
    let below : i < length shown =
    omega (arith, c.loop-character-test.true, ap length is, length-map shown character_of) in
    c.in_ok-push.ensures.items
    ∙ ap₂ (λ (vs : List Val) v. vs ++ v ∷ []) (c.loop-character.invariant shown is)
    (c.value_by.ensures (get_or shown i Zero)
    (ap (λ (t : List ℕ). get_or t i 0) is ∙ get_or-map character_of shown i Zero 0 below))
    ∙ sym (take_more shown i Zero below)

pub returns : goal.returns
returns c = λ shown is.
    let end : length shown ≤ c.loop-character.character-index =
    omega (arith, c.loop-character-test.false, ap length is, length-map shown character_of) in
    c.from_vec.ensures ∙ c.loop-character.invariant shown is ∙ take_all c.loop-character.character-index shown end
