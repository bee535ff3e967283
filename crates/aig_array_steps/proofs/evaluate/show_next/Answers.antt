use Rattle.std.proofs.Common.{◌≡◌, ◌<◌, ◌++◌, ◌∷◌, ◌∙◌, ℕ, [], ap, ap₂, arith, get_or, length, length-set, map}
use Rattle.std.proofs.Common.{subst, sym, take, List}
use Rattle.std.proofs.lemmas.List.{map-append, take_all, take_more, take_more_set}
use Rattle.aig_circuit.specs.Literal.{variable_of}
use Rattle.aig_circuit.specs.declared.circuit.Latch.{Latch}
use Rattle.aig_array_steps.specs.Parts.Values.{literal_byte}
use Rattle.aig_array_steps.specs.Parts.Words.{latch_in, latches_in}
use Rattle.aig_array_steps.proofs.Threes.{next_at, threes_length}
use Rattle.aig_array_steps.proofs.evaluate.show_next.Goals as goal

pub literal_value-requires : goal.literal_value-requires
literal_value-requires c =
    let latches = c.args.latches.now in
    let i = c.loop-i.i in
    let count : length (latches_in latches) ≡ length c.args.shown.now =
    threes_length latch_in latches (length c.args.shown.now) (sym c.requires.room) in
    let fits : i < length (latches_in latches) = omega arith in
    subst (λ (l : ℕ). variable_of l < length c.args.table.now) (next_at latches i (latch_in 0 0 0) fits)
    (c.requires.below i (latch_in 0 0 0) fits)

pub loop-i-preserved : goal.loop-i-preserved
loop-i-preserved c =
    let latches = c.args.latches.now in
    let i = c.loop-i.i in
    let shown = c.loop-i.shown in
    let byte = c.literal_value.result in
    let table = c.args.table.now in
    let count : length (latches_in latches) ≡ length c.args.shown.now =
    threes_length latch_in latches (length c.args.shown.now) (sym c.requires.room) in
    let fits : i < length (latches_in latches) = omega arith in
    let f : Latch → ℕ = λ (k : Latch). literal_byte table k.next in
    let next : byte ≡ f (get_or (latches_in latches) i (latch_in 0 0 0)) =
    c.literal_value.ensures.byte c.requires.values
    ∙ ap (literal_byte table) (sym (next_at latches i (latch_in 0 0 0) fits)) in
    record {
      done = take_more_set shown i byte (omega arith)
          ∙ ap₂ (λ (xs : List ℕ) (y : ℕ). xs ++ y ∷ []) c.loop-i.invariant.done next
          ∙ sym (map-append f (take i (latches_in latches)) (get_or (latches_in latches) i (latch_in 0 0 0) ∷ []))
          ∙ ap (map f) (sym (take_more (latches_in latches) i (latch_in 0 0 0) fits));
      long = omega (arith, length-set shown i byte);
    }

pub returns : goal.returns
returns c =
    let latches = c.args.latches.now in
    let i = c.loop-i.i in
    let table = c.args.table.now in
    let count : length (latches_in latches) ≡ length c.args.shown.now =
    threes_length latch_in latches (length c.args.shown.now) (sym c.requires.room) in
    sym (take_all i c.loop-i.shown (omega arith))
    ∙ c.loop-i.invariant.done
    ∙ ap (map (λ (k : Latch). literal_byte table k.next)) (take_all i (latches_in latches) (omega arith))
