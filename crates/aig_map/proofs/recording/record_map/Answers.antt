use Rattle.std.proofs.Common.{◌+◌, rules, length}
use Rattle.aig_map.proofs.NewPlaces.{kept_recorded}
use Rattle.aig_map.proofs.recording.record_map.Goals as goal

pub returns : goal.returns
returns g c =
    let circuit = c.args.circuit.now in
    let new_places = rw (c.len.ensures, c.len-2.ensures, c.as_slice.ensures) at c.in_ok-new_places.ensures in
    let kept = c.in_ok-variables.ensures in
    let gates = kept_recorded (g.L.Labels.label c.args.labels.now) (1 + length circuit.inputs + length circuit.latches)
    circuit.gates c.in_ok-variables.variables.gates.items c.in_ok-new_places.new_places.items kept.gates new_places in
    search rules
