-- Lines of a witness file of either kind, and what follows them.
use Rattle.std.proofs.Common.{◌≡◌, ◌<◌, ◌∙◌, ℕ, List, [], Bool, true, false, Option, None, Some, IfSome}
use Rattle.std.proofs.Common.{ap, ap₂, inl, inr, length, option_map, refl, subst, sym}
use Rattle.aig_circuit.specs.declared.circuit.Circuit.{Circuit}
use Rattle.aig_circuit.specs.declared.value.Val.{Val}
use Rattle.aig_lines.specs.Feeding.{TookTurn}
use Rattle.aig_step.proofs.LineValues.{vector_says}
use Rattle.aig_step.specs.Stimulus.{Entry, entry_in}
use Rattle.aig_verdicts.specs.Comments.{begins_with, is_comment}
use Rattle.aig_verdicts.specs.Kinds.{shape_if}
use Rattle.aig_verdicts.specs.Parts.Reading.{HoldsClaim, IsReading, Reading, ReadingState, StandsAtBad}
use Rattle.aig_verdicts.specs.Parts.Reading.{StandsIn, TookAs, TookEntry, TookFirstState, TookLine, TookProperty}
use Rattle.aig_verdicts.specs.Parts.Reading.{file_step, kind_with, reading_step, reading_turn, run_of, said_in, with_step}
use Rattle.aig_verdicts.specs.declared.reader.Stage.TheVariants as stage
use Rattle.aig_witness.proofs.Witnessing.{property_read}
use Rattle.aig_witness.specs.Parts.Witnessing.{HasWitnessState, StandsWhen, WitnessState, said_turn}
use Rattle.aig_witness.specs.Parts.Witnessing.{witness_state, witness_step}
use Rattle.aig_witness.specs.Witness.{Claim, Nothing, Property, Said, Steps, Version, Whole, begun_at, first_state_in}
use Rattle.aig_witness.specs.Witness.{property_by, said_with, shape_of, with_entry}
use Rattle.aig_witness.specs.declared.checker.Due.TheVariants as due

-- while no justice property is named
not_early : (r : Reading) (said : Said) → r.stage ≡ stage.BadState → ¬ StandsIn r true said
not_early r Nothing is stands = absurd stands
not_early r Version is stands = absurd stands
not_early r (Property p) is stands = let other = stands.0 in cc
not_early r (Steps claim) is stands = let other = stands.0 in cc
not_early r (Whole claim) is stands = let other = stands.0 in cc

module _ (r v : Reading) (text : List ℕ) where
  abbrev c : Circuit
  c = r.checker.circuit

  -- a line that the checker took, or did not
  module _ (result : Bool) (is : r.stage ≡ stage.BadState) (leads : v ≡ record r { checker = v.checker }) where
    stays_early : v.stage ≡ stage.BadState
    stays_early = ap (λ (u : Reading). u.stage) leads ∙ is

    same_justices : v.justices ≡ r.justices
    same_justices = ap (λ (u : Reading). u.justices) leads

    from_turn : (said : Said) (o : Option Said)
        → TookTurn HasWitnessState v.checker result (said_turn c said o) → TookLine r v false false said result o
    from_turn said None took = (
      took.1,
      record { circuit = took.0.0; justices = same_justices },
      record { stage = stays_early; stands = took.0.1 },
    )
    from_turn said (Some next) took = (
      took.1,
      record { circuit = took.0.0; justices = same_justices },
      record { stage = stays_early; stands = took.0.1 },
    )

    bad_kind : (said : Said) → StandsWhen r.checker said
        → (r.checker.due ≡ due.Property → begins_with 106 text ≡ false) → kind_with false said text ≡ false
    bad_kind Nothing stands other = refl
    bad_kind Version stands other = other stands.0
    bad_kind (Property p) stands other = refl
    bad_kind (Steps claim) stands other = refl
    bad_kind (Whole claim) stands other = refl

    pub checker_came : ((s : WitnessState) → HasWitnessState r.checker s
        → TookTurn HasWitnessState v.checker result (witness_step s text))
        → (r.checker.due ≡ due.Property → begins_with 106 text ≡ false) → (justice : Bool) (said : Said)
        → TookAs r v text justice said result
    checker_came took other true said stands = absurd (not_early r said is stands)
    checker_came took other false said stands =
        subst (λ (k : Bool). TookLine r v false k said result (said_with (shape_if r.justices c k) said text))
        (sym (bad_kind said stands.stands other))
        (from_turn said (said_with (shape_of c) said text) (took (witness_state c said) (refl, stands.stands)))

  -- the line that names a justice property
  named : (k result : Bool) → r.stage ≡ stage.BadState → k ≡ true → StandsAtBad r Version
      → (result ≡ true → TookProperty r v text) → (result ≡ false → property_by 106 r.justices text ≡ None)
      → (result ≡ false → v ≡ r)
      → TookLine r v false k Version result (said_with (shape_if r.justices c k) Version text)
  named false result is begins stands good bad stays = cc
  named true true is begins stands good bad stays =
      let took = good refl in
      subst (λ (o : Option ℕ). TookLine r v false true Version true (option_map Property o)) (sym took.said) (
        refl,
        record {
          circuit = ap (λ (u : Reading). u.checker.circuit) took.leads;
          justices = ap (λ (u : Reading). u.justices) took.leads;
        },
        (
          ap (λ (u : Reading). u.stage) took.leads,
          ap (λ (u : Reading). u.property) took.leads,
          subst (λ (n : ℕ). took.property < n) (sym (ap (λ (u : Reading). u.justices) took.leads))
              (property_read 106 r.justices text took.property took.said).below,
        ),
      )
  named true false is begins stands good bad stays =
      let same = stays refl in
      subst (λ (o : Option ℕ). TookLine r v false true Version false (option_map Property o)) (sym (bad refl)) (
        refl,
        record {
          circuit = ap (λ (u : Reading). u.checker.circuit) same;
          justices = ap (λ (u : Reading). u.justices) same;
        },
        subst (λ (u : Reading). StandsAtBad u Version) (sym same) stands,
      )

  pub property_came : (result : Bool) → r.stage ≡ stage.BadState → r.checker.due ≡ due.Property
      → begins_with 106 text ≡ true → (result ≡ true → TookProperty r v text)
      → (result ≡ false → property_by 106 r.justices text ≡ None) → (result ≡ false → v ≡ r)
      → (justice : Bool) (said : Said) → TookAs r v text justice said result
  property_came result is due_is begins good bad stays true said stands = absurd (not_early r said is stands)
  property_came result is due_is begins good bad stays false Nothing stands = let other = stands.stands.0 in cc
  property_came result is due_is begins good bad stays false Version stands =
      named (begins_with 106 text) result is begins stands good bad stays
  property_came result is due_is begins good bad stays false (Property p) stands = let other = stands.stands.0 in cc
  property_came result is due_is begins good bad stays false (Steps claim) stands = let other = stands.stands.0 in cc
  property_came result is due_is begins good bad stays false (Whole claim) stands = let other = stands.stands.0 in cc

  -- the line of the first state
  started : (p : ℕ) (result : Bool) → StandsIn r true (Property p) → (result ≡ true → TookFirstState r v text)
      → (result ≡ false → first_state_in (shape_of c).resets text ≡ None)
      → (result ≡ false → v ≡ record r { checker = v.checker }) → v.checker.circuit ≡ c
      → TookLine r v true true (Property p) result (option_map (begun_at p) (first_state_in (shape_of c).resets text))
  started p true stands good bad stays circuit =
      let took = good refl in
      subst (λ (o : Option (List Val)). TookLine r v true true (Property p) true (option_map (begun_at p) o))
      (sym took.said) (
        refl,
        took.same,
        (
          took.stage,
          record {
            property = took.property ∙ stands.1;
            below = subst (λ (n : ℕ). p < n) (sym took.same.justices) stands.2;
            held = subst (λ (d : Circuit). IfSome v.held (λ run. run
                ≡ run_of (length d.inputs) (record { property = p; first = took.first; steps = [] })))
                (sym took.same.circuit) took.held;
          },
        ),
      )
  started p false stands good bad stays circuit =
      let leads = stays refl in
      subst (λ (o : Option (List Val)). TookLine r v true true (Property p) false (option_map (begun_at p) o))
      (sym (bad refl)) (
        refl,
        record { circuit = circuit; justices = ap (λ (u : Reading). u.justices) leads },
        (
          ap (λ (u : Reading). u.stage) leads ∙ stands.0,
          ap (λ (u : Reading). u.property) leads ∙ stands.1,
          subst (λ (n : ℕ). p < n) (sym (ap (λ (u : Reading). u.justices) leads)) stands.2,
        ),
      )

  pub first_state_came : (result : Bool) → r.stage ≡ stage.FirstState → (result ≡ true → TookFirstState r v text)
      → (result ≡ false → first_state_in (shape_of c).resets text ≡ None)
      → (result ≡ false → v ≡ record r { checker = v.checker }) → v.checker.circuit ≡ c
      → (justice : Bool) (said : Said) → TookAs r v text justice said result
  first_state_came result is good bad stays circuit false said stands = let other = stands.stage in cc
  first_state_came result is good bad stays circuit true Nothing stands = absurd stands
  first_state_came result is good bad stays circuit true Version stands = absurd stands
  first_state_came result is good bad stays circuit true (Property p) stands =
      started p result stands good bad stays circuit
  first_state_came result is good bad stays circuit true (Steps claim) stands = let other = stands.0 in cc
  first_state_came result is good bad stays circuit true (Whole claim) stands = let other = stands.0 in cc

  -- the line of a step, or the line `.`
  entered : (claim : Claim) (result : Bool) → StandsIn r true (Steps claim) → (result ≡ true → TookEntry r v text)
      → (result ≡ false → entry_in (length c.inputs) text ≡ None) → (result ≡ false → v ≡ r)
      → TookLine r v true true (Steps claim) result (option_map (with_entry claim) (entry_in (length c.inputs) text))
  entered claim true stands good bad stays =
      elim (good refl) [
        | inl step ↦
            subst (λ (o : Option Entry). TookLine r v true true (Steps claim) true (option_map (with_entry claim) o))
            (sym (vector_says (length c.inputs) text step.given step.said)) (
              refl,
              step.same,
              (
                step.stage ∙ stands.0,
                record {
                  property = step.property ∙ stands.1.property;
                  below = subst (λ (n : ℕ). claim.property < n) (sym step.same.justices) stands.1.below;
                  held = subst (λ (d : Circuit). IfSome v.held (λ run. run
                      ≡ run_of (length d.inputs) (with_step claim step.given)))
                      (sym step.same.circuit) (step.held claim stands.1.held);
                },
              ),
            )
        | inr (stop, leads) ↦
            subst (λ (o : Option Entry). TookLine r v true true (Steps claim) true (option_map (with_entry claim) o))
            (sym stop) (
              refl,
              record {
                circuit = ap (λ (u : Reading). u.checker.circuit) leads;
                justices = ap (λ (u : Reading). u.justices) leads;
              },
              (
                ap (λ (u : Reading). u.stage) leads,
                subst (λ (u : Reading). HoldsClaim u claim) (sym leads) (record {
                  property = stands.1.property;
                  below = stands.1.below;
                  held = stands.1.held;
                }),
              ),
            )
      ]
  entered claim false stands good bad stays =
      let same = stays refl in
      subst (λ (o : Option Entry). TookLine r v true true (Steps claim) false (option_map (with_entry claim) o))
      (sym (bad refl)) (
        refl,
        record {
          circuit = ap (λ (u : Reading). u.checker.circuit) same;
          justices = ap (λ (u : Reading). u.justices) same;
        },
        subst (λ (u : Reading). StandsIn u true (Steps claim)) (sym same) stands,
      )

  pub entry_came : (result : Bool) → r.stage ≡ stage.Steps → (result ≡ true → TookEntry r v text)
      → (result ≡ false → entry_in (length c.inputs) text ≡ None) → (result ≡ false → v ≡ r)
      → (justice : Bool) (said : Said) → TookAs r v text justice said result
  entry_came result is good bad stays false said stands = let other = stands.stage in cc
  entry_came result is good bad stays true Nothing stands = absurd stands
  entry_came result is good bad stays true Version stands = absurd stands
  entry_came result is good bad stays true (Property p) stands = let other = stands.0 in cc
  entry_came result is good bad stays true (Steps claim) stands = entered claim result stands good bad stays
  entry_came result is good bad stays true (Whole claim) stands = let other = stands.0 in cc

  -- what was taken leads on
  next_state : (h : ReadingState) (kind result : Bool) (o : Option Said) → IsReading r h
      → TookLine r v h.justice kind h.said result o
      → IsReading v (reading_turn h kind o).state × (result ≡ (reading_turn h kind o).goes_on)
  next_state h kind result None at took = (
    record {
      circuit = took.1.circuit ∙ at.circuit;
      justices = took.1.justices ∙ at.justices;
      stands = took.2;
    },
    took.0,
  )
  next_state h kind result (Some next) at took = (
    record {
      circuit = took.1.circuit ∙ at.circuit;
      justices = took.1.justices ∙ at.justices;
      stands = took.2;
    },
    took.0,
  )

  line_taken : (h : ReadingState) (result : Bool) → IsReading r h → TookAs r v text h.justice h.said result
      → IsReading v (reading_step h text).state × (result ≡ (reading_step h text).goes_on)
  line_taken h result at took =
      let kind = kind_with h.justice h.said text in
      let same : said_in c r.justices h.justice h.said text ≡ said_in h.circuit h.justices h.justice h.said text =
      ap₂ (λ (d : Circuit) (n : ℕ). said_in d n h.justice h.said text) at.circuit at.justices in
      next_state h kind result (said_in h.circuit h.justices h.justice h.said text) at
      (subst (TookLine r v h.justice kind h.said result) same (took at.stands))

  pub step_taken : (h : ReadingState) (result : Bool) → is_comment text ≡ false → IsReading r h
      → TookAs r v text h.justice h.said result
      → IsReading v (file_step h text).state × (result ≡ (file_step h text).goes_on)
  step_taken h result none at took = rw none (line_taken h result at took)

-- a comment
pub comment_taken : (r : Reading) (text : List ℕ) (h : ReadingState) → is_comment text ≡ true → IsReading r h
    → IsReading r (file_step h text).state × (true ≡ (file_step h text).goes_on)
comment_taken r text h is at = rw is (at, refl)

-- a line that comes when none is due
pub nothing_came : (r : Reading) (text : List ℕ) → r.stage ≡ stage.Nothing → (justice : Bool) (said : Said)
    → TookAs r r text justice said false
nothing_came r text is false said stands = let other = stands.stage in cc
nothing_came r text is true Nothing stands = absurd stands
nothing_came r text is true Version stands = absurd stands
nothing_came r text is true (Property p) stands = let other = stands.0 in cc
nothing_came r text is true (Steps claim) stands = let other = stands.0 in cc
nothing_came r text is true (Whole claim) stands = (refl, record { circuit = refl; justices = refl }, stands)
