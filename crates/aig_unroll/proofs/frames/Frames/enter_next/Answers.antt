use Rattle.std.proofs.Common.{◌≡◌, ◌+◌, ◌-◌, ◌<◌, ◌∙◌, List, ℕ, ap, ap₂, arith, length, map, subst, rules, sym}
use Rattle.std.proofs.lemmas.List.{with_items_is}
use Rattle.aig_circuit.specs.declared.circuit.Latch.{Latch}
use Rattle.aig_unroll.specs.Parts.Frames.{Frame, table}
use Rattle.aig_unroll.specs.Parts.Substitution.{substituted}
use Rattle.aig_unroll.proofs.InFrame.{all_fit, inputs_fit, next_frame, nexts_have_room, places_are}
use Rattle.aig_unroll.proofs.frames.Frames.enter_next.Goals as goal

pub put_nexts-requires-clause-below : goal.put_nexts-requires-clause-below
put_nexts-requires-clause-below c = search (rules, nexts_have_room)

pub change_substitution-requires-clause-room : goal.change_substitution-requires-clause-room
change_substitution-requires-clause-room c = search (rules, places_are)

pub change_substitution-requires-clause-inputs : goal.change_substitution-requires-clause-inputs
change_substitution-requires-clause-inputs c = search (
  rules,
  with_items_is,
  next_frame,
  inputs_fit,
  all_fit,
  places_are,
)

pub invariant_of-self : goal.invariant_of-self
invariant_of-self c =
    let f = c.self.inside in
    let is = c.self.invariant in
    let latches : List ℕ = c.deref-2.result.now in
    let more = subst (λ (k : Frame). k.frame + 1 < k.frames) (sym c.self.view_is) c.requires in
    let kept : length c.put_nexts.new.out ≡ f.next.len = c.put_nexts.auto.out ∙ c.deref_mut.ensures.len in
    let written = c.deref-2.ensures.value ∙ with_items_is f.next c.put_nexts.new.out kept ∙ c.put_nexts.ensures
    ∙ ap₂ (λ (s : List ℕ) (ls : List Latch). map (substituted s f.first_gate) (map (λ (l : Latch). l.next) ls))
    c.deref.ensures.value c.as_slice-latches.ensures in
    let then =
    next_frame f.circuit f.frames f.frame f.first_input f.first_gate f.substitution.items f.next.items is more latches
    written in
    let count : length c.deref_mut-2.result.now - 1 - length latches ≡ length f.circuit.inputs =
    omega (
      arith,
      then.next_room,
      ap length c.deref_mut-2.ensures.value,
      ap length is.substitution_is,
      places_are f.circuit f.frames f.frame is.formed is.ordered is.fits is.within,
    ) in
    let first = ap (λ n. f.first_input + n) c.len.ensures in
    let changed = c.change_substitution.auto.substitution ∙ c.deref_mut-2.ensures.len in
    record {
      formed = then.formed;
      ordered = then.ordered;
      fits = then.fits;
      within = then.within;
      input_is = first ∙ then.input_is;
      gate_is = ap (λ n. f.first_gate + n) c.gates_of_frame.ensures ∙ then.gate_is;
      substitution_is = with_items_is f.substitution c.change_substitution.new.substitution changed
          ∙ c.change_substitution.ensures
          ∙ ap₂ (λ m n. table m n latches) first count ∙ then.substitution_is;
      next_room = ap length (sym c.deref-2.ensures.value) ∙ then.next_room;
    }
