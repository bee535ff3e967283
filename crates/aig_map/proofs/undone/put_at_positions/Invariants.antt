use Rattle.std.proofs.Common.{◌≡◌, length, map, take}
use Rattle.aig_image.specs.Relabelled.{relabelled_gate}
use Rattle.aig_image.specs.Renumbering.{source_variable}
use Rattle.aig_image.specs.Reordered.{taken}
use Rattle.aig_map.proofs.undone.put_at_positions.Given as goal

abbrev pub invariant-loop-place : goal.invariant-loop-place
invariant-loop-place l = record {
  many : length l.found ≡ length l.fn.found;
  put : taken l.found (take l.place l.places)
      ≡ map (relabelled_gate (source_variable l.variables.variables.items)) (take l.place l.gates);
}
