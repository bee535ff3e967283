use Rattle.std.proofs.Common.{◌≡◌, ◌∙◌, arith, subst, ℕ}
use Rattle.aig_lanes.specs.Parts.LaneTexts.{LaneStands, shown_size}
use Rattle.aig_lanes.proofs.Side.Sheets.{steps_within}
use Rattle.aig_lanes.proofs.bench.take_steps.Goals as goal

pub take_step-requires-clause-fits : goal.take_step-requires-clause-fits
take_step-requires-clause-fits c =
    omega (
      arith,
      steps_within c.loop-step.step c.args.steps (shown_size c.args.shown.now) c.loop-step-test.true,
      c.requires.fits,
    )

pub loop-step-preserved : goal.loop-step-preserved
loop-step-preserved c = record {
  stand = λ j run held start.
      c.take_step.ensures.stands j run
      (record {
        is_lane = held.is_lane;
        fits = held.fits;
        stands = held.stands;
        room = omega (arith, c.loop-step.invariant.same j, held.room);
      })
      (c.loop-step.invariant.stand j run held start);
  table = c.take_step.auto.table ∙ c.loop-step.invariant.table;
  state = c.take_step.auto.state ∙ c.loop-step.invariant.state;
  same = λ l. c.take_step.ensures.same l ∙ c.loop-step.invariant.same l;
}

pub returns-clause-stands : goal.returns-clause-stands
returns-clause-stands c j run held first =
    let end : c.loop-step.step ≡ c.args.steps = omega (arith, c.loop-step-test.false, c.loop-step.auto.step-end) in
    subst
    (λ (n : ℕ). LaneStands c.args.machine.now run n j c.loop-step.table c.loop-step.state c.args.shown.now
    c.loop-step.sheet)
    end (c.loop-step.invariant.stand j run held first)
