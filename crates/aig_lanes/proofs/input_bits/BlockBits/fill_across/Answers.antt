use Rattle.std.proofs.Common.{◌∙◌, List, [], arith, get_or, subst, sym}
use Rattle.std.proofs.lemmas.List.{with_items_is}
use Rattle.aig_lanes.specs.declared.input_bits.InputWord.{InputWord}
use Rattle.aig_lanes.specs.Parts.InputBits.{HoldsInputs, one_step, step_of}
use Rattle.aig_lanes.proofs.input_bits.BlockBits.fill_across.Goals as goal

pub returns-clause-holds : goal.returns-clause-holds
returns-clause-holds c = λ l below.
    subst
    (λ (lanes : List (List InputWord)).
    HoldsInputs c.args.first (one_step (step_of c.args.run.now l)) (get_or lanes l []))
    (sym
    (with_items_is c.self.inside.lanes c.fill_firsts.new.lanes
    (c.fill_firsts.ensures.count ∙ c.deref_mut.ensures.len)))
    (c.fill_firsts.ensures.holds l (omega (arith, below, c.self.invariant)))
