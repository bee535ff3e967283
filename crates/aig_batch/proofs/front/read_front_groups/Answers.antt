use Rattle.std.proofs.Common.{◌≡◌, ◌≤◌, ◌∙◌, ◌++◌, ◌∷◌, List, [], ap, append-nil, length, subst, sym, All}
use Rattle.std.proofs.lemmas.List.Concat.{flat_map-append}
use Rattle.std.proofs.lemmas.List.Elements.{All-push}
use Rattle.aig_circuit.specs.declared.value.Val.{Val}
use Rattle.aig_lanes.specs.declared.run.Run.{Run}
use Rattle.aig_step.specs.Stimulus.{Entry}
use Rattle.aig_batch.specs.Parts.RunsRead.{SaysEntries, entries_of_group, entries_of_groups}
use Rattle.aig_batch.proofs.Side.RunsRead.{says_then}
use Rattle.aig_batch.proofs.front.read_front_groups.Goals as goal

pub loop-groups-preserved : goal.loop-groups-preserved
loop-groups-preserved c =
    let inputs = c.args.inputs in
    let groups = c.loop-groups.groups.items in
    let group = c.in_ok-group.group in
    let now : c.push.new.self.items ≡ groups ++ group ∷ [] = c.in_ok-push.ensures.items in
    let entries : entries_of_groups c.push.new.self.items ≡ entries_of_groups groups ++ entries_of_group group =
    ap entries_of_groups now ∙ flat_map-append entries_of_group groups (group ∷ [])
    ∙ ap (λ (es : List Entry). entries_of_groups groups ++ es) (append-nil (entries_of_group group)) in
    record {
      says =
          subst
          (λ (es : List Entry). SaysEntries inputs c.args.bytes.now es c.in_ok-group.more.now) (sym entries)
          (says_then inputs c.args.bytes.now c.loop-groups.rest.now c.in_ok-group.more.now (entries_of_groups groups)
          (entries_of_group group) c.loop-groups.invariant.says c.in_ok-group.ensures.says);
      good = c.in_ok-group.ensures.good;
      few = subst (λ (gs : List (List Run)). All (λ (runs : List Run). length runs ≤ 256) gs) (sym now)
          (All-push (λ (runs : List Run). length runs ≤ 256) groups group c.loop-groups.invariant.few
          c.in_ok-group.ensures.few);
      fits =
          subst
          (λ (gs : List (List Run)). All (λ (runs : List Run). All (λ (run : Run).
          All (λ (vector : List Val). length vector ≡ inputs) run.steps) runs) gs) (sym now)
          (All-push (λ (runs : List Run). All (λ (run : Run).
          All (λ (vector : List Val). length vector ≡ inputs) run.steps) runs) groups group
          c.loop-groups.invariant.fits c.in_ok-group.ensures.fits);
    }
