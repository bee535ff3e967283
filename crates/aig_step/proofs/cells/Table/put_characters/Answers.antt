use Rattle.std.proofs.Common.{◌≡◌, ◌+◌, ◌++◌, ◌∷◌, ◌∙◌, List, None, [], length, ap, ap₂, set, take, drop, get_or, sym}
use Rattle.std.proofs.Common.{arith}
use Rattle.std.proofs.lemmas.List.{length-append, length-set, take_more}
use Rattle.aig_circuit.specs.declared.value.Val.{Val}
use Rattle.aig_step.specs.Stimulus.{value_of, values_of}
use Rattle.aig_step.specs.Parts.Cells.{values_of_bytes}
use Rattle.aig_step.proofs.LineValues.{no_values, values_on, parted}
use Rattle.aig_step.proofs.Running.Cells.{are_codes, codes_length, values_are, found_value, no_value}
use Rattle.aig_step.proofs.Running.Machines.{placed_behind}
use Rattle.aig_step.proofs.cells.Table.put_characters.Goals as goal

pub overflow_add-at : goal.overflow_add-at
overflow_add-at c = grind (arith, codes_length c.loop-character.codes c.loop-character.invariant.0)

pub returns-in_default-clause-bad : goal.returns-in_default-clause-bad
returns-in_default-clause-bad c e =
    let text = c.args.text.now in
    let i = c.loop-character.character-index in
    let none : value_of (get_or text i 0) ≡ None = no_value (value_of (get_or text i 0)) c.in_default.ensures in
    ap values_of (parted text i 0 c.loop-character-test.true)
    ∙ no_values (take i text) (drop (i + 1) text) (get_or text i 0) none

pub loop-character-preserved : goal.loop-character-preserved
loop-character-preserved c =
    let text = c.args.text.now in
    let i = c.loop-character.character-index in
    let now = c.put_bytes.new.codes in
    let values = values_of_bytes c.loop-character.codes in
    let at = c.loop-character.at in
    let first = c.args.first in
    let found = found_value (value_of (get_or text i 0)) c.in-Some.bytes c.in-Some.ensures in
    let v = found.0 in
    let made = c.put_bytes.ensures v found.2 in
    let given = c.loop-character.invariant.1.0 in
    let long : length given ≡ i = c.loop-character.invariant.1.3 in
    let place : at ≡ first + length given = omega (arith, long, c.loop-character.invariant.3) in
    let put : values_of_bytes now ≡ set values at v = values_are now (set values at v) made in (
      are_codes now (set values at v) made,
      (
        given ++ v ∷ [],
        ap values_of (take_more text i 0 c.loop-character-test.true)
            ∙ values_on (take i text) (get_or text i 0) given v c.loop-character.invariant.1.1 found.1,
        put ∙ ap₂ (λ (vs : List Val) n. set vs n v) c.loop-character.invariant.1.2 place
            ∙ sym (placed_behind first given v c.args.self.now),
        length-append given (v ∷ []) ∙ ap (λ n. n + 1) long,
      ),
      ap length put ∙ length-set values at v ∙ c.loop-character.invariant.2,
      omega (arith, c.loop-character.invariant.3),
    )
