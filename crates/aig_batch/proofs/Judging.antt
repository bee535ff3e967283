-- Lines of a stimulus that are judged.
use Rattle.std.proofs.Common.{◌≡◌, Option, None, Some, is_some, refl}
use Rattle.aig_step.specs.Stimulus.{Entry}
use Rattle.aig_trace.specs.Parts.Saying.{Saying, entry_turn}

-- a line is good that says an entry, and none changes the number of inputs
pub entry_judged : {K : Type 0} (s : Saying K) (o : Option Entry)
    → (s.inputs ≡ (entry_turn s o).state.inputs) × (is_some o ≡ (entry_turn s o).goes_on)
entry_judged s None = (refl, refl)
entry_judged s (Some e) = (refl, refl)
