use Rattle.std.proofs.Common.{◌*◌, ◌<◌, ◌∙◌, ℕ, List, [], ap, arith, get_or, length}
use Rattle.std.proofs.lemmas.List.{get_or_default, length-set}
use Rattle.aig_lanes.specs.declared.input_bits.InputWord.{InputWord}
use Rattle.aig_lanes.specs.Parts.InputBits.{HoldsBlock}
use Rattle.aig_lanes.proofs.Side.InputBits.{put_more, same_sizes}
use Rattle.aig_lanes.proofs.input_bits.fill_bits.Goals as goal

pub fill-requires-clause-room : goal.fill-requires-clause-room
fill-requires-clause-room c = λ l d low below.
    let block = c.loop-block.block in
    let bits = c.loop-block.bits in
    let inside : block < length bits = omega (arith, c.loop-block-test.true, c.loop-block.auto.block-end) in
    let before : block < length c.args.bits.now = omega (arith, inside, c.loop-block.invariant.same.count) in
    let is = get_or_default bits block c.index-bits-block.result [] inside in
    omega (
      arith,
      c.requires.room block [] before l d low below,
      c.loop-block.invariant.same.sizes block l,
      ap (λ (lanes : List (List InputWord)). length (get_or lanes l [])) is,
    )

pub loop-block-preserved : goal.loop-block-preserved
loop-block-preserved c =
    let runs = c.args.runs.now in
    let bits = c.loop-block.bits in
    let at = c.loop-block.block in
    let now = c.fill.new.self in
    let inside : at < length bits = omega (arith, c.loop-block-test.true, c.loop-block.auto.block-end) in
    let was = get_or_default bits at c.index-bits-block.result [] inside in
    let size = λ (l : ℕ) (lanes : List (List InputWord)). length (get_or lanes l []) in
    record {
      holds = put_more (λ i. HoldsBlock (64 * i) runs) bits at now [] inside c.loop-block.invariant.holds
          c.fill.ensures.holds;
      same = record {
        count = length-set bits at now ∙ c.loop-block.invariant.same.count;
        sizes = λ block l.
            same_sizes (size l) bits at now [] inside (c.fill.ensures.sizes l ∙ ap (size l) was) block
            ∙ c.loop-block.invariant.same.sizes block l;
      };
    }

pub returns-clause-holds : goal.returns-clause-holds
returns-clause-holds c = λ block below.
    c.loop-block.invariant.holds block
    (omega (arith, below, c.loop-block-test.false, c.loop-block.auto.block-end))
