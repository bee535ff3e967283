use Rattle.std.proofs.Common.{◌∙◌, ℕ, List, [], ap, arith, get_or, length, subst}
use Rattle.std.proofs.lemmas.List.{length-map, length-set}
use Rattle.aig_lanes.specs.Parts.InputBits.{IsWord}
use Rattle.aig_step.specs.TraceText.{character_of, values_text}
use Rattle.aig_lanes.proofs.Side.InputBits.{put_more}
use Rattle.aig_lanes.proofs.input_bits.fill_words.Goals as goal

pub word_of-requires : goal.word_of-requires
word_of-requires c =
    let vector = get_or c.args.run.now.steps c.loop-step.step [] in
    omega (
      arith,
      c.requires.inputs c.loop-step.step [] (omega (arith, c.loop-step-test.true, c.len-step-end.ensures)),
      ap length c.text.ensures,
      length-map vector character_of,
    )

pub loop-step-preserved : goal.loop-step-preserved
loop-step-preserved c =
    let words = c.loop-step.words in
    let at = c.loop-step.step in
    let word = c.word_of.result in
    let steps = c.args.run.now.steps in
    record {
      holds = λ step d.
          put_more (λ i. IsWord c.args.first (values_text (get_or steps i []))) words at word d
          (omega (arith, c.loop-step-test.true, c.len-step-end.ensures, c.requires.room, c.loop-step.invariant.size))
          (λ i. c.loop-step.invariant.holds i d)
          (subst (λ (t : List ℕ). IsWord c.args.first t word) c.text.ensures c.word_of.ensures) step;
      size = length-set words at word ∙ c.loop-step.invariant.size;
    }

pub returns-clause-holds : goal.returns-clause-holds
returns-clause-holds c step d below =
    c.loop-step.invariant.holds step d
    (omega (arith, below, c.loop-step-test.false, c.loop-step.auto.step-end, c.len-step-end.ensures))
