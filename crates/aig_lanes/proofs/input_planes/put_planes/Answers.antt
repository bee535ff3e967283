use Rattle.std.proofs.Common.{◌≡◌, ◌+◌, ◌/◌, ◌%◌, ◌^◌, ◌<◌, ◌==◌, ◌∙◌, ℕ, List, ap, arith, get_or, length}
use Rattle.std.proofs.Common.{if◌then◌else◌, refl, subst, sym, take}
use Rattle.std.proofs.lemmas.List.{get_or-map, length-map}
use Rattle.std.specs.Int.{bit_at}
use Rattle.aig_circuit.specs.declared.value.Val.{Val}
use Rattle.aig_circuit.specs.declared.value.Val.TheVariants.{Zero}
use Rattle.aig_places.specs.Lanes.{IsLane}
use Rattle.aig_step.specs.Parts.Tables.{placed}
use Rattle.aig_step.specs.TraceText.{character_of, values_text}
use Rattle.aig_lanes.proofs.Side.InputBits.{bit_of_byte, may_be_one_where, may_be_zero_where}
use Rattle.aig_places.proofs.Side.Tables.{placed_more}
use Rattle.aig_lanes.proofs.input_planes.put_planes.Goals as goal

-- a bit of a byte that is read by a word
bit_is : (byte word i : ℕ) → i < 64 → byte ≡ word / 256 ^ (i / 8) % 256 → bit_at byte (i % 8) ≡ bit_at word i
bit_is byte word i below is =
    ap (λ (n : ℕ). bit_at n (i % 8)) is ∙ bit_of_byte word (i / 8) (i % 8) (omega arith)
    ∙ ap (bit_at word) (omega arith)

pub loop-i-preserved : goal.loop-i-preserved
loop-i-preserved c =
    let i = c.loop-i.i in
    let first = c.args.first in
    record {
      lanes = λ k word values vector below bytes words long is.
          let at = first + i in
          let x = get_or vector at Zero in
          let in_word : i < 64 = omega (arith, c.loop-i-test.true, c.requires.count) in
          let in_vector : at < length vector = omega (arith, c.loop-i-test.true, long) in
          let in_text : at < length (values_text vector) =
          omega (arith, in_vector, length-map vector character_of) in
          let character = get_or-map character_of vector at Zero 0 in_vector in
          subst (λ (vs : List Val). IsLane k c.put_pair.new.planes vs)
          (ap (λ (n : ℕ). placed 1 (take n vector) values) (omega arith))
          (subst (λ (vs : List Val). IsLane k c.put_pair.new.planes vs)
          (sym (placed_more 1 at vector Zero x values in_vector refl))
          (c.put_pair.ensures k (placed 1 (take at vector) values) x
          (c.loop-i.invariant.lanes k word values vector below bytes words long is) (record {
            one_plane = c.plane_with-one.ensures.plane;
            zero_plane = c.plane_with-zero.ensures.plane;
            one_bit =
                c.plane_with-one.ensures.bits k below
                ∙ bit_is _ word.one i in_word (bytes.one (i / 8) (omega (arith, in_word)))
                ∙ words.one i in_word in_text
                ∙ ap (λ n. if n == 48 then 0 else 1) character ∙ may_be_one_where x;
            zero_bit =
                c.plane_with-zero.ensures.bits k below
                ∙ bit_is _ word.zero i in_word (bytes.zero (i / 8) (omega (arith, in_word)))
                ∙ words.zero i in_word in_text
                ∙ ap (λ n. if n == 49 then 0 else 1) character ∙ may_be_zero_where x;
          })));
      size = c.put_pair.auto.planes ∙ c.loop-i.invariant.size;
    }

pub returns-clause-lanes : goal.returns-clause-lanes
returns-clause-lanes c l word values vector below bytes words long is =
    let end : c.loop-i.i ≡ c.args.count = omega (arith, c.loop-i-test.false, c.loop-i.auto.i-end) in
    subst (λ (n : ℕ). IsLane l c.loop-i.planes (placed 1 (take (c.args.first + n) vector) values)) end
    (c.loop-i.invariant.lanes l word values vector below bytes words long is)
