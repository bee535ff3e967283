use Rattle.std.proofs.Common.{get_or, length}
use Rattle.aig_lanes.proofs.Benches.Steps.{fits_shown, room_stays}
use Rattle.aig_trace.proofs.Shows.{kept_row}
use Rattle.aig_batch.proofs.text_group.run_group.Goals as goal

pub put_runs-requires-clause-rows : goal.put_runs-requires-clause-rows
put_runs-requires-clause-rows g c = λ j d below.
    kept_row c.args.machine.now (get_or c.args.runs.now j d) j _ _ (c.step.ensures.keeps j d below)

pub put_runs-requires-clause-fits : goal.put_runs-requires-clause-fits
put_runs-requires-clause-fits g c = λ j d below.
    fits_shown c.args.machine.now c.step.new.self.shown (length (get_or c.args.runs.now j d).steps)
    (room_stays c.args.machine.now c.args.bench.now c.step.new.self c.args.runs.now c.step.ensures.same
    c.requires.room).is.tables.shows (c.requires.room.counts j d below)
