use Rattle.std.proofs.Common.{arith}
use Rattle.std.proofs.lemmas.List.{take_all}
use Rattle.aig_io.proofs.Puts.{put_more}
use Rattle.aig_text.specs.AsciiText.{numbers_text}
use Rattle.aig_map.specs.declared.map_block.MappedGate.{MappedGate}
use Rattle.aig_map.specs.MapBlock.{mapped_row}
use Rattle.aig_map.specs.Parts.NewPlace.{gates_recorded}
use Rattle.aig_map.proofs.NewPlaces.{as_many_recorded, told_at}
use Rattle.aig_map.proofs.map_text.put_gates.Goals as goal

pub loop-at-preserved : goal.loop-at-preserved
loop-at-preserved g c =
    put_more (λ (m : MappedGate). numbers_text (mapped_row m)) _ _ _ _ _ _ _
    (told_at c.args.variables.now c.args.new_places.now c.loop-at.at c.index-variables-at.result
    c.index-new_places-at.result c.requires c.loop-at-test.true c.index-variables-at.is c.index-new_places-at.is)
    c.loop-at.invariant c.put_gate.ensures
    (omega (arith, as_many_recorded c.args.variables.now c.args.new_places.now c.requires))

pub returns : goal.returns
returns g c =
    let long = as_many_recorded c.args.variables.now c.args.new_places.now c.requires in
    rw (take_all c.loop-at.at (gates_recorded c.args.variables.now c.args.new_places.now) (omega arith))
    at c.loop-at.invariant
