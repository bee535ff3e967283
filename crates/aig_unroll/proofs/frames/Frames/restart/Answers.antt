use Rattle.std.proofs.Common.{◌+◌, ◌*◌, ◌∙◌, List, ap, ap₂, arith, map, rules}
use Rattle.std.proofs.lemmas.List.{with_items_is}
use Rattle.aig_circuit.specs.declared.circuit.Latch.{Latch}
use Rattle.aig_unroll.specs.Unrolled.{first_latches, uninitialised}
use Rattle.aig_unroll.specs.Parts.Frames.{table}
use Rattle.aig_unroll.proofs.InFrame.{first_frame, places_are}
use Rattle.aig_unroll.proofs.frames.Frames.restart.Goals as goal

pub invariant_of-self : goal.invariant_of-self
invariant_of-self c =
    let f = c.self.inside in
    let is = c.self.invariant in
    let reset = λ (l : Latch). l.reset in
    let first = 1 + c.count_uninitialised.result in
    let kept = c.put_substitution.auto.substitution ∙ c.deref_mut.ensures.len in
    first_frame f.circuit f.frames first (first + f.frames * c.len-inputs.result) _ f.next.items
    is.formed is.ordered is.fits (omega (arith, is.within))
    (ap (λ n. 1 + n)
    (c.count_uninitialised.ensures.count
    ∙ ap (λ (ls : List Latch). uninitialised (map reset ls)) c.as_slice-latches.ensures))
    (ap (λ n. first + f.frames * n) c.len-inputs.ensures)
    (with_items_is f.substitution c.put_substitution.new.substitution kept ∙ c.put_substitution.ensures
    ∙ ap₂ (λ n (ls : List Latch). table first n (first_latches 1 (map reset ls)))
    c.len-inputs.ensures c.as_slice-latches.ensures)
    is.next_room

pub put_substitution-requires-clause-room : goal.put_substitution-requires-clause-room
put_substitution-requires-clause-room c = search (rules, places_are)
