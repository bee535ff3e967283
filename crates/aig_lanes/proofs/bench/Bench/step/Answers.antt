use Rattle.std.proofs.Common.{◌∙◌, ◌<◌, arith, get_or, length, subst, sym}
use Rattle.std.proofs.lemmas.List.{with_items_is}
use Rattle.aig_lanes.specs.Parts.InputBits.{HoldsBlocks}
use Rattle.aig_lanes.specs.Parts.LaneTexts.{shown_size}
use Rattle.aig_lanes.proofs.Benches.Steps.{fits_shown, run_kept}
use Rattle.aig_lanes.proofs.bench.Bench.step.Goals as goal

pub step_lanes-requires-clause-fits : goal.step_lanes-requires-clause-fits
step_lanes-requires-clause-fits c =
    let machine = c.args.machine.now in
    let shown = c.args.self.now.shown in
    c.longest_run.ensures.least (shown_size shown) 18446744073709551616 (omega arith)
    (λ j d below. fits_shown machine shown (length (get_or c.args.runs.now j d).steps) c.requires.room.is.tables.shows
    (c.requires.room.counts j d below))

pub returns-clause-keeps : goal.returns-clause-keeps
returns-clause-keeps c j d below =
    let room = c.requires.room in
    let lane : j < 256 = omega (arith, below, room.lanes) in
    let bits =
    subst (HoldsBlocks c.args.runs.now)
    (sym
    (with_items_is c.args.self.now.bits c.fill_bits.new.bits
    (c.fill_bits.ensures.same.count ∙ c.deref_mut.ensures.len)))
    c.fill_bits.ensures.holds in
    let run = get_or c.args.runs.now j d in
    run_kept _ run _ j _ _ _ _ (c.longest_run.ensures.most j d below)
    (c.step_lanes.ensures.ends j run (record {
      is_lane = lane;
      fits = c.requires.runs j d below;
      stands = λ block inside. bits block inside j d below;
      room = room.sheet j d lane below;
    }))
