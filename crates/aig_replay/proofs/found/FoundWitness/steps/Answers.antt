use Rattle.std.proofs.Common.{◌≡◌, ◌+◌, ◌*◌, ◌-◌, List, ℕ, ap, ap₂, arith, drop, length-drop, subst, sym, take}
use Rattle.aig_witness.specs.Witness.{Claim}
use Rattle.aig_replay.specs.Finding.{SaysSteps}
use Rattle.aig_replay.specs.Held.{steps_held}
use Rattle.aig_replay.proofs.Keeping.{bits_left, steps_said_held}
use Rattle.aig_replay.proofs.found.FoundWitness.steps.Goals as goal

pub returns : goal.returns
returns c =
    let w = c.self.inside in
    let bits = w.bits.items in
    let room = c.self.invariant.room in
    let left = drop w.used bits in
    let said = steps_said_held w.inputs w.count left (bits_left w.used bits c.self.invariant.step_bits)
    (omega (arith, room, length-drop w.used bits)) in
    let size = w.count * w.inputs in
    let end : w.used + size - w.used ≡ size = omega arith in
    let same = ap₂ take end (ap (drop w.used) c.deref.ensures.value) in
    let text = take (w.used + size - w.used) (drop w.used c.deref.result.now) in
    let held : SaysSteps w.inputs w.count text (steps_held w.inputs w.count left) =
    subst (λ (bytes : List ℕ). SaysSteps w.inputs w.count bytes (steps_held w.inputs w.count left)) (sym same) said in
    subst (λ (claim : Claim). SaysSteps w.inputs w.count text claim.steps) c.self.view_is held
