use Rattle.std.proofs.Common.{◌≡◌, List, [], arith, subst}
use Rattle.std.proofs.lemmas.List.{drop_all}
use Rattle.aig_io.proofs.Puts.{put_nothing, put_twice}
use Rattle.aig_wave.specs.declared.group.Group.{Group}
use Rattle.aig_wave.specs.Frames.{frame}
use Rattle.aig_wave.specs.Wave.{change_text}
use Rattle.aig_wave.specs.declared.signal_code.SignalCode.{SignalCode}
use Rattle.aig_wave.specs.Parts.Groups.{AreSignalGroups}
use Rattle.aig_wave.specs.Parts.SignalCodes.{signal_in}
use Rattle.aig_wave.proofs.Grouped.{next_group, parted_tags, parted_text}
use Rattle.aig_wave.proofs.dump_state.put_changes.Goals as goal

pub put_new_group-requires-clause-group : goal.put_new_group-requires-clause-group
put_new_group-requires-clause-group g c =
    rw c.split.ensures.front
    (next_group c.args.groups.now c.loop-group.group-index _ c.loop-group.rest.now c.loop-group-test.true
    c.loop-group.invariant.groups).0

pub put_new_group-requires-clause-signal_codes : goal.put_new_group-requires-clause-signal_codes
put_new_group-requires-clause-signal_codes g c =
    (parted_tags _ c.loop-group.rest.now _ _ c.split.ensures.front c.split.ensures.others
    c.loop-group.invariant.signal_codes).0

pub loop-group-preserved : goal.loop-group-preserved
loop-group-preserved g c =
    let f = λ (t : SignalCode).
    change_text c.args.time (frame 0 c.args.before.now) (frame 0 c.args.line.now) (signal_in t) in
    let parts = parted_tags _ c.loop-group.rest.now _ _ c.split.ensures.front c.split.ensures.others
    c.loop-group.invariant.signal_codes in
    record {
      signal_codes = parts.1;
      groups = rw c.split.ensures.others
          (next_group c.args.groups.now c.loop-group.group-index _ c.loop-group.rest.now c.loop-group-test.true
          c.loop-group.invariant.groups).1;
      left = λ o left.
          c.loop-group.invariant.left o
          (rw (parted_text f _ c.loop-group.rest.now _ _ c.split.ensures.front c.split.ensures.others) at
          (put_twice _ _ _ _ _ c.put_new_group.ensures left));
    }

pub returns : goal.returns
returns g c =
    let none = drop_all c.loop-group.group-index c.args.groups.now (omega arith) in
    let empty : c.loop-group.rest.now ≡ [] =
    subst (λ (gs : List Group). AreSignalGroups gs c.loop-group.rest.now) none c.loop-group.invariant.groups in
    c.loop-group.invariant.left c.loop-group.output (rw empty (put_nothing _))
