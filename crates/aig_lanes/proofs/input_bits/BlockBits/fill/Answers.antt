use Rattle.std.proofs.Common.{◌∙◌, List, [], get_or, subst, sym}
use Rattle.std.proofs.lemmas.List.{with_items_is}
use Rattle.aig_lanes.specs.declared.input_bits.InputWord.{InputWord}
use Rattle.aig_lanes.specs.Parts.InputBits.{HoldsInputs}
use Rattle.aig_lanes.proofs.input_bits.BlockBits.fill.Goals as goal

pub returns-clause-holds : goal.returns-clause-holds
returns-clause-holds c = λ l d below.
    subst
    (λ (lanes : List (List InputWord)). HoldsInputs c.args.first (get_or c.args.runs.now l d) (get_or lanes l []))
    (sym
    (with_items_is c.self.inside.lanes c.fill_lanes.new.lanes (c.fill_lanes.ensures.count ∙ c.deref_mut.ensures.len)))
    (c.fill_lanes.ensures.holds l d below)
