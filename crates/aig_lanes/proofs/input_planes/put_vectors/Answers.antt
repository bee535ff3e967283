use Rattle.std.proofs.Common.{◌≡◌, ◌+◌, ◌*◌, ◌<◌, ◌≤◌, ◌∙◌, ℕ, List, [], ap, arith, length, set, subst, sym, take}
use Rattle.std.proofs.lemmas.List.{get_or_default, take_all}
use Rattle.aig_circuit.specs.declared.value.Val.{Val}
use Rattle.aig_circuit.specs.declared.value.Val.TheVariants.{Zero}
use Rattle.aig_lanes.specs.declared.input_bits.InputWord.{InputWord}
use Rattle.aig_lanes.specs.Parts.InputBits.{IsWord, word_at}
use Rattle.aig_places.specs.Lanes.{IsLane}
use Rattle.aig_step.specs.Parts.Tables.{placed}
use Rattle.aig_step.specs.TraceText.{values_text}
use Rattle.aig_lanes.proofs.input_planes.put_vectors.Goals as goal
use Rattle.aig_lanes.proofs.input_planes.put_vectors.Goals.{then-left-lt64, else-left-lt64}

pub loop-block-init : goal.loop-block-init
loop-block-init c = record {
  lanes = λ k vector values below long words is. c.put_in_all_lanes.ensures k values below is;
  size = c.put_in_all_lanes.auto.planes;
}

pub loop-block-preserved : goal.loop-block-preserved
loop-block-preserved c =
    let block = c.loop-block.block in
    let first = 64 * block in
    let bits = c.args.bits.now in
    let inside : block < length bits = omega (arith, c.loop-block-test.true, c.loop-block.auto.block-end) in
    let left : first ≤ c.args.inputs = omega (arith, inside, c.requires.blocks.few) in
    let here = c.index-bits-block.is ∙ get_or_default bits block _ [] inside in
    let fits : first + c.if-left-lt64.count ≤ c.args.inputs = elim c.if-left-lt64.branch [
      | then-left-lt64 w ↦ omega (arith, w.count-is, left)
      | else-left-lt64 w ↦ omega (arith, w.count-is, w.if-left-lt64.false, left)
    ] in
    let same : (vector : List Val) → length vector ≡ c.args.inputs
    → take (first + c.if-left-lt64.count) vector ≡ take (64 * (block + 1)) vector = λ vector long.
    elim c.if-left-lt64.branch [
      | then-left-lt64 w ↦
          take_all (first + c.if-left-lt64.count) vector (omega (arith, w.count-is, left, long))
          ∙ sym (take_all (64 * (block + 1)) vector (omega (arith, w.if-left-lt64.true, left, long)))
      | else-left-lt64 w ↦ ap (λ (n : ℕ). take n vector) (omega (arith, w.count-is))
    ] in
    record {
      lanes = λ k vector values below long words is.
          subst (λ (xs : List Val). IsLane k c.put_block.new.planes (placed 1 xs (set values 0 Zero)))
          (same vector long)
          (c.put_block.ensures.lanes k (set values 0 Zero) vector below
          (subst (λ (b : List (List InputWord)). IsWord first (values_text vector) (word_at k c.args.step b))
          (sym here) (words block inside))
          (omega (arith, fits, long)) (c.loop-block.invariant.lanes k vector values below long words is));
      size = c.put_block.ensures.size ∙ c.loop-block.invariant.size;
    }

pub returns : goal.returns
returns c = λ l vector values below long words is.
    subst (λ (xs : List Val). IsLane l c.loop-block.planes (placed 1 xs (set values 0 Zero)))
    (take_all (64 * c.loop-block.block) vector
    (omega (arith, long, c.requires.blocks.enough, c.loop-block-test.false)))
    (c.loop-block.invariant.lanes l vector values below long words is)
