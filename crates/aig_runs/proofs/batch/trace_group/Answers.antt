use Rattle.std.proofs.Common.{◌<◌, ◌∙◌, ℕ, List, arith, get_or, length, subst, sym, All}
use Rattle.std.proofs.lemmas.Result.{IfOk-weaker}
use Rattle.aig_lanes.specs.declared.run.Run.{Run}
use Rattle.aig_lanes.specs.Parts.LaneTexts.{KeepsRun}
use Rattle.aig_lanes.specs.Parts.Benches.{HasRoomFor}
use Rattle.aig_lanes.proofs.Benches.Steps.{fits_shown, room_stays}
use Rattle.aig_runs.proofs.batch.trace_group.Goals as goal

pub step-requires-clause-room : goal.step-requires-clause-room
step-requires-clause-room c =
    subst (HasRoomFor c.args.machine.now c.in_ok-lanes.lanes) (sym c.as_slice.ensures)
    (c.in_ok-lanes.ensures.room 0 c.args.runs.now (omega arith))

pub take_traces-requires-clause-fits : goal.take_traces-requires-clause-fits
take_traces-requires-clause-fits c = λ j d below.
    let machine = c.args.machine.now in
    let room = subst (HasRoomFor machine c.step.new.self) c.in_ok-group_of.ensures
    (room_stays machine c.in_ok-lanes.lanes c.step.new.self _ c.step.ensures.same
    (c.in_ok-lanes.ensures.room 0 c.args.runs.now (omega arith))) in
    fits_shown machine c.step.new.self.shown (length (get_or c.args.runs.now j d).steps) room.is.tables.shows
    (room.counts j d below)

pub take_traces-requires-clause-room : goal.take_traces-requires-clause-room
take_traces-requires-clause-room c =
    (subst (HasRoomFor c.args.machine.now c.step.new.self) c.in_ok-group_of.ensures
    (room_stays c.args.machine.now c.in_ok-lanes.lanes c.step.new.self _ c.step.ensures.same
    (c.in_ok-lanes.ensures.room 0 c.args.runs.now (omega arith)))).sheet

pub returns : goal.returns
returns c =
    let machine = c.args.machine.now in
    let bench = c.step.new.self in
    let keeps = subst
    (λ (runs : List Run). (j : ℕ) (d : Run) → j < length runs
    → KeepsRun machine (get_or runs j d) j bench.shown bench.sheet)
    (c.as_slice.ensures ∙ c.in_ok-group_of.ensures) c.step.ensures.keeps in
    IfOk-weaker c.take_traces.result _ _ (λ traces each. each machine keeps) c.take_traces.ensures
