use Rattle.std.proofs.Common.{◌≡◌, ◌<◌, ◌∙◌, ◌-◌, ℕ, zero, suc, List, [], ap, arith, get_or, length, min, set, subst}
use Rattle.std.proofs.Common.{sym}
use Rattle.std.proofs.lemmas.List.{get_or-set_same, get_or_default, length-map, length-set}
use Rattle.aig_circuit.specs.declared.value.Val.{Val}
use Rattle.aig_lanes.specs.declared.input_bits.InputWord.{InputWord}
use Rattle.aig_lanes.specs.Parts.InputBits.{HoldsInputs, IsWord, one_step, step_of}
use Rattle.aig_step.specs.TraceText.{character_of, values_text}
use Rattle.aig_lanes.proofs.Side.InputBits.{put_more, same_sizes}
use Rattle.aig_lanes.proofs.input_bits.fill_firsts.Goals as goal

-- a word was put as the first
first_holds : (first : ℕ) (vector : List Val) (words : List InputWord) (word : InputWord) → 0 < length words
    → IsWord first (values_text vector) word → HoldsInputs first (one_step vector) (set words 0 word)
first_holds first vector words word some is zero d below =
    subst (IsWord first (values_text vector)) (sym (get_or-set_same words 0 word d some)) is
first_holds first vector words word some is (suc k) d below = absurd (omega (arith, below))

pub word_of-requires : goal.word_of-requires
word_of-requires c =
    let at = c.min.result in
    let vector = get_or c.args.run.now.steps at [] in
    omega (
      arith,
      c.requires.inputs at [] (omega (arith, c.requires.some, c.min.ensures, c.len-last.ensures)),
      ap length c.text.ensures,
      length-map vector character_of,
    )

pub put_first_word-requires : goal.put_first_word-requires
put_first_word-requires c =
    let lanes = c.loop-lane.lanes in
    let at = c.loop-lane.lane in
    let inside : at < length lanes = omega (arith, c.loop-lane-test.true, c.loop-lane.auto.lane-end) in
    omega (
      arith,
      c.requires.room at (omega (arith, inside, c.loop-lane.invariant.count)),
      c.loop-lane.invariant.sizes at,
      ap length (get_or_default lanes at c.index-lanes-lane.result [] inside),
    )

pub loop-lane-preserved : goal.loop-lane-preserved
loop-lane-preserved c =
    let lanes = c.loop-lane.lanes in
    let at = c.loop-lane.lane in
    let before = get_or lanes at c.index-lanes-lane.result in
    let now = c.put_first_word.new.self in
    let first = c.args.first in
    let steps = c.args.run.now.steps in
    let vector = step_of c.args.run.now at in
    let taken : c.min.result ≡ min at (length steps - 1) = omega (arith, c.min.ensures, c.len-last.ensures) in
    let inside : at < length lanes = omega (arith, c.loop-lane-test.true, c.loop-lane.auto.lane-end) in
    let was = get_or_default lanes at c.index-lanes-lane.result [] inside in
    let some : 0 < length before =
    omega (
      arith,
      c.requires.room at (omega (arith, inside, c.loop-lane.invariant.count)),
      c.loop-lane.invariant.sizes at,
      ap length was,
    ) in
    record {
      holds = λ k.
          put_more (λ i. HoldsInputs first (one_step (step_of c.args.run.now i))) lanes at now [] inside
          (λ i. c.loop-lane.invariant.holds i)
          (subst (HoldsInputs first (one_step vector)) (sym c.put_first_word.ensures)
          (first_holds first vector before c.word_of.result some
          (subst (λ (t : List ℕ). IsWord first t c.word_of.result)
          (c.text.ensures ∙ ap (λ (n : ℕ). values_text (get_or steps n [])) taken) c.word_of.ensures))) k;
      count = length-set lanes at now ∙ c.loop-lane.invariant.count;
      sizes = λ k.
          same_sizes (λ (ws : List InputWord). length ws) lanes at now [] inside
          (ap length c.put_first_word.ensures ∙ length-set before 0 c.word_of.result ∙ ap length was) k
          ∙ c.loop-lane.invariant.sizes k;
    }

pub returns-clause-holds : goal.returns-clause-holds
returns-clause-holds c l below =
    c.loop-lane.invariant.holds l
    (omega (arith, below, c.loop-lane-test.false, c.loop-lane.auto.lane-end))
