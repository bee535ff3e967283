use Rattle.std.proofs.Common.{◌≡◌, ◌<◌, ◌-◌, ◌∙◌, ℕ, length, get_or, set, sym, ap, ap₂, arith}
use Rattle.std.proofs.lemmas.List.{ext_get_or, get_or-map, length-map, length-set, get_or_default}
use Rattle.aig_circuit.specs.declared.circuit.Gate.{Gate}
use Rattle.aig_image.specs.Parts.Placed.{gate_by}
use Rattle.aig_image.specs.Reordered.{no_gate}
use Rattle.aig_image.proofs.Numbering.Following.{place, placed, apart, back}
use Rattle.aig_image.proofs.Numbering.Places.{put_more}
use Rattle.aig_image.proofs.placed.Placed.gates.Goals as goal

pub overflow_sub-place : goal.overflow_sub-place
overflow_sub-place c =
    let self = c.args.self.now in
    let there : c.loop-at.at < length c.args.order.now = omega (arith, c.loop-at-test.true, c.requires.many) in
    let is = placed self.first.noted c.args.order.now self.numbers.items c.requires.numbers c.loop-at.at there in
    omega (arith, c.number_at.ensures, c.count.ensures, is.0)

pub overflow_sub-place-in-loop-at : goal.overflow_sub-place-in-loop-at
overflow_sub-place-in-loop-at c =
    let self = c.args.self.now in
    let there : c.loop-at.at < length c.args.order.now = omega (arith, c.loop-at-test.true, c.requires.many) in
    let is = placed self.first.noted c.args.order.now self.numbers.items c.requires.numbers c.loop-at.at there in
    omega (arith, c.number_at.ensures, c.count.ensures, is.0)

pub index_mut-requires : goal.index_mut-requires
index_mut-requires c =
    let self = c.args.self.now in
    let there : c.loop-at.at < length c.args.order.now = omega (arith, c.loop-at-test.true, c.requires.many) in
    let is = placed self.first.noted c.args.order.now self.numbers.items c.requires.numbers c.loop-at.at there in
    let slot : c.number_at.result - c.count.result - 1
    ≡ place self.first.noted c.args.order.now self.numbers.items c.requires.numbers c.loop-at.at =
    ap₂ (λ n m. n - m - 1) c.number_at.ensures c.count.ensures in
    omega (arith, slot, is.1, c.loop-at.invariant.many, c.loop-at.made.ok.0)

pub loop-at-preserved : goal.loop-at-preserved
loop-at-preserved c =
    let self = c.args.self.now in
    let order = c.args.order.now in
    let at = c.loop-at.at in
    let made = c.loop-at.made.items in
    let on = c.requires.numbers in
    let slot_of : ℕ → ℕ = place self.first.noted order self.numbers.items on in
    let f : ℕ → Gate = λ k. gate_by self k (get_or c.args.gates.now k no_gate) in
    let there : at < length order = omega (arith, c.loop-at-test.true, c.requires.many) in
    let is = placed self.first.noted order self.numbers.items on at there in
    let slot : c.number_at.result - c.count.result - 1 ≡ slot_of at =
    ap₂ (λ n m. n - m - 1) c.number_at.ensures c.count.ensures in
    let gate : c.gate.result ≡ f at =
    c.gate.ensures
    ∙ ap (gate_by self at)
    (c.index-gates-at.is ∙ get_or_default c.args.gates.now at c.index-gates-at.result no_gate c.loop-at-test.true) in
    record {
      many = length-set made (c.number_at.result - c.count.result - 1) c.gate.result ∙ c.loop-at.invariant.many;
      made = λ k below. ap₂ (λ p (g : Gate). get_or (set made p g) (slot_of k) no_gate) slot gate
          ∙ put_more slot_of f no_gate made at (omega (arith, is.1, c.loop-at.invariant.many))
          (λ i low. apart self.first.noted order self.numbers.items on i at low there) c.loop-at.invariant.made k below;
    }

pub returns : goal.returns
returns c =
    let self = c.args.self.now in
    let order = c.args.order.now in
    let made = c.loop-at.made.items in
    let on = c.requires.numbers in
    let f : ℕ → Gate = λ k. gate_by self k (get_or c.args.gates.now k no_gate) in
    ext_get_or no_gate made _ (c.loop-at.invariant.many ∙ sym (length-map order f)) (λ k below.
    let there : k < length order = omega (arith, below, c.loop-at.invariant.many) in
    ap (λ p. get_or made p no_gate) (sym (back self.first.noted order self.numbers.items on k there))
    ∙ c.loop-at.invariant.made (get_or order k 0)
    (omega (arith, on.there k there, c.requires.many, c.loop-at-test.false))
    ∙ sym (get_or-map f order k 0 no_gate there))
