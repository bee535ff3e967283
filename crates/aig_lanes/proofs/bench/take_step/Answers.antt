use Rattle.std.proofs.Common.{◌≡◌, ◌/◌, ◌∙◌, [], ap, arith, get_or, length, subst, sym, ℕ, All}
use Rattle.std.proofs.lemmas.List.{length-map}
use Rattle.aig_lanes.specs.Parts.InputBits.{no_word}
use Rattle.aig_lanes.specs.Parts.Kept.{step_literals}
use Rattle.aig_step.specs.Parts.Tables.{IsLiteralBelow}
use Rattle.aig_lanes.proofs.Side.Sheets.{steps_within}
use Rattle.aig_lanes.proofs.Benches.Steps.{stands_on}
use Rattle.aig_lanes.proofs.bench.take_step.Goals as goal

pub show-requires-clause-below : goal.show-requires-clause-below
show-requires-clause-below c =
    let shown = c.args.shown.now in
    let is : shown.places.count ≡ length c.assign_lanes.new.table / 2 =
    omega (arith, c.requires.tables.table_size, c.assign_lanes.auto.table, c.put_vectors.auto.planes) in
    subst (λ (n : ℕ). All (IsLiteralBelow n) shown.literals.items) is c.requires.tables.shows.literals.below

pub returns-clause-stands : goal.returns-clause-stands
returns-clause-stands c j run held stood =
    let state_now = c.show.new.state in
    let step = c.args.step in
    let shown = c.args.shown.now in
    let machine = c.args.machine.now in
    let parts = c.parts-parts.ensures in
    stands_on machine run step j c.args.table.now c.put_vectors.new.planes c.assign_lanes.new.table
    c.args.state.now state_now shown c.args.sheet.now c.show.new.sheet c.requires.tables.shows held.fits
    held.room stood (record {
      put = λ values has is.
          c.put_vectors.ensures j (get_or run.steps step []) values held.is_lane
          (held.fits step [] has ∙ sym (ap length parts.inputs) ∙ sym c.len.ensures)
          (λ block inside. held.stands block inside step no_word has) is;
      assign = λ given values start long is from.
          c.assign_lanes.ensures j given values start (step_literals shown.columns machine) shown.literals.items
          c.requires.tables.shows.literals long is from;
      show = λ values start is from. c.show.ensures.state j values start is from;
    })
    (c.show.ensures.front j held.is_lane)
    (λ values has is.
    c.show.ensures.text j values held.is_lane
    (omega (arith, steps_within step (length run.steps) (length shown.literals.items) has, held.room)) is)

pub show-requires-clause-state : goal.show-requires-clause-state
show-requires-clause-state c =
    omega (arith, c.requires.tables.state_size, simp length-map at (ap length c.requires.tables.shows.resets))
