use Rattle.std.proofs.Common.{◌∙◌, List, [], get_or, subst, sym}
use Rattle.std.proofs.lemmas.List.{with_items_is}
use Rattle.aig_lanes.specs.declared.input_bits.InputWord.{InputWord}
use Rattle.aig_lanes.specs.Parts.InputBits.{IsWord}
use Rattle.aig_step.specs.TraceText.{values_text}
use Rattle.aig_lanes.proofs.input_bits.LaneBits.fill.Goals as goal

pub returns-clause-holds : goal.returns-clause-holds
returns-clause-holds c = λ step d below.
    subst
    (λ (words : List InputWord).
    IsWord c.args.first (values_text (get_or c.args.run.now.steps step [])) (get_or words step d))
    (sym
    (with_items_is c.self.inside.words c.fill_words.new.words (c.fill_words.ensures.size ∙ c.deref_mut.ensures.len)))
    (c.fill_words.ensures.holds step d below)
