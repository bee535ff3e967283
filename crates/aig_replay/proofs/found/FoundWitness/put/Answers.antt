use Rattle.std.proofs.Common.{◌≡◌}
use Rattle.std.proofs.Common.{◌+◌, ◌*◌, ◌-◌, ◌∙◌, List, ℕ, ap, ap₂, arith, drop, length-drop, refl, subst, sym, take}
use Rattle.aig_io.specs.Output.{Appended}
use Rattle.aig_witness.specs.Witness.{Claim}
use Rattle.aig_replay.specs.Finding.{SaysSteps}
use Rattle.aig_replay.specs.Held.{claim_held, steps_held}
use Rattle.aig_replay.specs.WitnessLines.{witness_text}
use Rattle.aig_replay.proofs.Keeping.{bits_left, characters_back, steps_said_held}
use Rattle.aig_replay.proofs.found.FoundWitness.put.Goals as goal

pub returns : goal.returns
returns g c =
    let w = c.self.inside in
    let bits = w.bits.items in
    let room = c.self.invariant.room in
    let left = drop w.used bits in
    let said = steps_said_held w.inputs w.count left (bits_left w.used bits c.self.invariant.step_bits)
    (omega (arith, room, length-drop w.used bits)) in
    let steps = steps_held w.inputs w.count left in
    let size = w.count * w.inputs in
    let end : w.used + size - w.used ≡ size = omega arith in
    let same = ap₂ take end (ap (drop w.used) c.deref-2.ensures.value) in
    let put = c.put_witness.ensures (claim_held w.property w.first.items w.inputs w.count left) refl
    (c.deref.ensures.value ∙ characters_back w.first.items c.self.invariant.first_bits)
    (subst (λ (bytes : List ℕ). SaysSteps w.inputs w.count bytes steps) (sym same) said) in
    subst (λ (claim : Claim). Appended c.args.output.now c.put_witness.new.output (witness_text claim)) c.self.view_is
    put
