use Rattle.std.proofs.Common.{◌≡◌, ◌<◌, rules, IfOk, List, length, refl, subst, sym}
use Rattle.std.specs.List.{AllByRecursion}
use Rattle.aig_circuit.specs.declared.circuit.Circuit.{Circuit}
use Rattle.aig_map.specs.declared.map_block.MapBlock.{MapBlock}
use Rattle.aig_map.specs.declared.map_block.MappedGate.{MappedGate}
use Rattle.aig_map.specs.Parts.Tables.{IsBlockOf, IsLeftOf}
use Rattle.aig_map.specs.Undone.{comment_behind, undone}
use Rattle.aig_map.proofs.BlockReading.Block.{read_is_block, read_is_fit, read_is_within}
use Rattle.aig_map.proofs.Sources.Refused.{of_places}
use Rattle.aig_map.proofs.Sources.Placed.{places_there}
use Rattle.aig_convert.proofs.undoing.source_by_block.Goals as goal

pub source_variables-requires : goal.source_variables-requires
source_variables-requires g c =
    record { bounds = (read_is_within g.mapped c.args.block c.args.comment.now c.requires.1.read).1 }

pub returns-in-Err-clause-fault : goal.returns-in-Err-clause-fault
returns-in-Err-clause-fault g c = search (rules, of_places)

pub positions_by_place-requires-clause-few : goal.positions_by_place-requires-clause-few
positions_by_place-requires-clause-few g c = search (rules, read_is_within)

pub positions_by_place-requires-clause-there : goal.positions_by_place-requires-clause-there
positions_by_place-requires-clause-there g c =
    let gates = c.args.block.gates in
    let within = read_is_within g.mapped c.args.block c.args.comment.now c.requires.1.read in
    subst (λ (recorded : List MappedGate). AllByRecursion (λ (g : MappedGate). g.place < length recorded) recorded)
    (sym c.as_slice.ensures)
    (places_there c.args.block.max_var (length gates) gates within.1.gates (length gates) refl)

pub source_by_places-requires : goal.source_by_places-requires
source_by_places-requires g c =
    let x = g.mapped in
    let b = c.args.block in
    let rest = c.args.comment.now in
    let read = c.requires.1.read in
    let is = read_is_block x b rest read in
    let kept : IsBlockOf b x c.in-Ok-into_recorded.recorded c.as_slice-in-Ok-into_recorded.result.now = record {
      fit = read_is_fit x b rest c.requires.0 read (search rules);
      placed = search rules;
      recorded = search rules;
    } in (
      subst (λ (d : MapBlock). IsLeftOf x d rest c.args.image.now) (sym is) c.requires.1,
      (
        subst (λ (d : MapBlock).
            IsBlockOf d x c.in-Ok-into_recorded.recorded c.as_slice-in-Ok-into_recorded.result.now) (sym is) kept,
        search (rules, read_is_block),
      ),
    )

pub returns-in-Ok-into_recorded-clause-ok : goal.returns-in-Ok-into_recorded-clause-ok
returns-in-Ok-into_recorded-clause-ok g c =
    let is = read_is_block g.mapped c.args.block c.args.comment.now c.requires.1.read in
    subst (λ (b : MapBlock). IfOk c.source_by_places.result
    (λ (k : Circuit). k ≡ undone b (comment_behind b c.args.comment.now) g.mapped)) is
    c.source_by_places.ensures.ok
