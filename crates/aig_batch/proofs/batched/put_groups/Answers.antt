use Rattle.std.proofs.Common.{◌≡◌, ◌∙◌, ◌+◌, ◌++◌, ◌∷◌, List, [], ap, get_or, length, subst, sym, take}
use Rattle.std.proofs.lemmas.List.{take_more}
use Rattle.aig_lanes.specs.declared.run.Run.{Run}
use Rattle.std.specs.List.{AllZip}
use Rattle.aig_step.specs.declared.trace.Columns.{Columns}
use Rattle.aig_lanes.specs.declared.lane_columns.LaneColumns.{LaneColumns}
use Rattle.aig_lanes.specs.Parts.LaneTexts.{IsTextOf}
use Rattle.aig_lanes.specs.Parts.Benches.{HasRoomFor}
use Rattle.aig_batch.specs.Parts.RunsRead.{AppendedRuns, kept_texts}
use Rattle.aig_batch.proofs.Side.Fronts.{put_more, zipped_texts}
use Rattle.aig_lanes.proofs.Benches.Steps.{room_stays}
use Rattle.aig_batch.proofs.batched.put_groups.Goals as goal

pub loop-group-preserved : goal.loop-group-preserved
loop-group-preserved g c =
    let machine = c.args.machine.now in
    let columns = c.args.bench.now.shown.columns in
    let groups = c.args.groups.now in
    let i = c.loop-group.group-index in
    let runs = c.as_slice.result.now in
    let shown = c.run_group.new.bench.shown in
    let sheet = c.run_group.new.bench.sheet in
    let is_group : runs ≡ get_or groups i c.group-item.result = c.as_slice.ensures ∙ c.group-item.is in
    let now : take (i + 1) groups ≡ take i groups ++ runs ∷ [] =
    take_more groups i c.group-item.result c.loop-group-test.true
    ∙ ap (λ (r : List Run). take i groups ++ r ∷ []) (sym is_group) in
    let asks = ap (λ (s : LaneColumns). s.columns) c.run_group.ensures.same.shown ∙ c.loop-group.invariant.asks in
    record {
      asks = asks;
      room = λ k d below.
          room_stays machine c.loop-group.bench c.run_group.new.bench (get_or groups k d) c.run_group.ensures.same
          (c.loop-group.invariant.room k d below);
      put =
          subst
          (λ (gs : List (List Run)). AppendedRuns g.T.RowTaker.took machine columns gs c.args.output.now
          c.run_group.new.output)
          (sym now)
          (put_more machine columns (take i groups) runs (kept_texts shown runs (length runs) sheet)
          c.args.output.now c.loop-group.output c.run_group.new.output c.loop-group.invariant.put
          (subst (λ (k : Columns). AllZip (IsTextOf k machine) runs (kept_texts shown runs (length runs) sheet))
          asks (zipped_texts machine runs shown sheet c.run_group.ensures.keeps))
          c.run_group.ensures.put);
    }

pub run_group-requires-clause-room : goal.run_group-requires-clause-room
run_group-requires-clause-room g c =
    subst (HasRoomFor c.args.machine.now c.loop-group.bench) (sym (c.as_slice.ensures ∙ c.group-item.is))
    (c.loop-group.invariant.room c.loop-group.group-index c.group-item.result c.loop-group-test.true)
