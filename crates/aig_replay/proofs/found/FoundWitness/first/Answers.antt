use Rattle.std.proofs.Common.{◌≡◌, ◌∙◌, subst}
use Rattle.aig_step.specs.TraceText.{values_text}
use Rattle.aig_witness.specs.Witness.{Claim}
use Rattle.aig_replay.proofs.Keeping.{characters_back}
use Rattle.aig_replay.proofs.found.FoundWitness.first.Goals as goal

pub returns : goal.returns
returns c =
    let w = c.self.inside in
    subst (λ (claim : Claim). c.as_slice.result.now ≡ values_text claim.first) c.self.view_is
    (c.as_slice.ensures.value ∙ characters_back w.first.items c.self.invariant.first_bits)
