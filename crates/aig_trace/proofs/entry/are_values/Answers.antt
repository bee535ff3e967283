use Rattle.std.proofs.Common.{◌≡◌, ◌∙◌, ◌+◌, ◌&&◌, Bool, get_or, is_some, sym, take, ap, ap₂}
use Rattle.std.proofs.lemmas.List.{take_more}
use Rattle.aig_step.specs.Stimulus.{value_of, values_of}
use Rattle.aig_trace.proofs.RunTexts.{values_more}
use Rattle.aig_trace.proofs.entry.are_values.Goals as goal

pub loop-character-preserved : goal.loop-character-preserved
loop-character-preserved c =
    let text = c.args.text.now in
    let i = c.loop-character.character-index in
    let before : c.loop-character.all ≡ is_some (values_of (take i text)) = c.loop-character.invariant in
    let now : is_some (values_of (take (i + 1) text))
    ≡ (is_some (values_of (take i text)) && is_some (value_of (get_or text i 0))) =
    ap (λ t. is_some (values_of t)) (take_more text i 0 c.loop-character-test.true)
    ∙ values_more (take i text) (get_or text i 0) in
    ap₂ (λ (a b : Bool). a && b) before c.is_value-all.ensures ∙ sym now
