use Rattle.std.proofs.Common.{◌+◌, ◌∙◌, rules, ap, length}
use Rattle.aig_circuit.specs.declared.circuit.Circuit.{Circuit}
use Rattle.aig_map.proofs.BlockText.{as_many_inputs, as_many_latches}
use Rattle.aig_map.proofs.NewPlaces.{kept_recorded, places_by_new}
use Rattle.aig_map.proofs.recording.record_new_map.Goals as goal

pub returns : goal.returns
returns c = λ f old kept is.
    let new = c.args.circuit.now in
    let first = 1 + length old.inputs + length old.latches in
    let read = rw (c.len.ensures, c.len-2.ensures, c.as_slice.ensures) at c.in_ok-new_places.ensures in
    let new_places = rw (
      as_many_inputs f old new is,
      as_many_latches f old new is,
      ap (λ (d : Circuit). d.gates) is,
    ) at read in
    let gates = kept_recorded f first old.gates c.args.variables.gates.items c.in_ok-new_places.new_places.items
    kept.gates
    (new_places ∙ places_by_new f first old.gates) in
    let max_var = ap (λ (d : Circuit). d.max_var) is in
    let comment = ap (λ (d : Circuit). d.comment) is in
    search rules
