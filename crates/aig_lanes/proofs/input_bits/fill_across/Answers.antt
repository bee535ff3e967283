use Rattle.std.proofs.Common.{◌*◌, ◌<◌, ◌∙◌, ℕ, List, [], ap, arith, get_or, length}
use Rattle.std.proofs.lemmas.List.{get_or_default, length-set}
use Rattle.aig_lanes.specs.declared.input_bits.InputWord.{InputWord}
use Rattle.aig_lanes.specs.Parts.InputBits.{HoldsInputs, one_step, step_of}
use Rattle.aig_lanes.proofs.Side.InputBits.{put_more, same_sizes}
use Rattle.aig_lanes.proofs.input_bits.fill_across.Goals as goal

pub fill_across-requires-clause-room : goal.fill_across-requires-clause-room
fill_across-requires-clause-room c = λ l low.
    let block = c.loop-block.block in
    let bits = c.loop-block.bits in
    let inside : block < length bits = omega (arith, c.loop-block-test.true, c.loop-block.auto.block-end) in
    let before : block < length c.args.bits.now = omega (arith, inside, c.loop-block.invariant.same.count) in
    let is = get_or_default bits block c.index-bits-block.result [] inside in
    omega (
      arith,
      c.requires.room block [] before l low,
      c.loop-block.invariant.same.sizes block l,
      ap (λ (lanes : List (List InputWord)). length (get_or lanes l [])) is,
    )

pub loop-block-preserved : goal.loop-block-preserved
loop-block-preserved c =
    let bits = c.loop-block.bits in
    let at = c.loop-block.block in
    let now = c.fill_across.new.self in
    let inside : at < length bits = omega (arith, c.loop-block-test.true, c.loop-block.auto.block-end) in
    let was = get_or_default bits at c.index-bits-block.result [] inside in
    let size = λ (l : ℕ) (lanes : List (List InputWord)). length (get_or lanes l []) in
    record {
      holds = put_more
          (λ i (lanes : List (List InputWord)). (lane : ℕ) → lane < 256
          → HoldsInputs (64 * i) (one_step (step_of c.args.run.now lane)) (get_or lanes lane []))
          bits at now [] inside c.loop-block.invariant.holds c.fill_across.ensures.holds;
      same = record {
        count = length-set bits at now ∙ c.loop-block.invariant.same.count;
        sizes = λ block l.
            same_sizes (size l) bits at now [] inside (c.fill_across.ensures.sizes l ∙ ap (size l) was) block
            ∙ c.loop-block.invariant.same.sizes block l;
      };
    }

pub returns-clause-holds : goal.returns-clause-holds
returns-clause-holds c = λ l below block inside.
    c.loop-block.invariant.holds block
    (omega (arith, inside, c.loop-block-test.false, c.loop-block.auto.block-end)) l below
