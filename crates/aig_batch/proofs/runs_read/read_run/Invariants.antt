use Rattle.std.specs.Prelude.{◌≡◌, ◌*◌, ◌≤◌, drop, length, map}
use Rattle.aig_step.specs.Stimulus.{Step}
use Rattle.aig_batch.specs.Parts.RunsRead.{HasNoBadLine, SaysEntries}
use Rattle.aig_lanes.specs.Parts.Vectors.{AreVectors, vectors_in}
use Rattle.aig_batch.proofs.runs_read.read_run.Given as goal

abbrev pub invariant-loop-next : goal.invariant-loop-next
invariant-loop-next l = record {
  says : SaysEntries l.inputs l.bytes (map Step (vectors_in l.inputs l.stride l.steps l.bytes)) l.rest;
  shorter : length l.rest ≤ length l.bytes;
  are : AreVectors l.inputs l.stride l.steps l.bytes;
  good : HasNoBadLine l.inputs l.rest;
  rest_is : l.rest ≡ drop (l.steps * l.stride) l.bytes;
}

abbrev pub decreases-loop-next : goal.decreases-loop-next
decreases-loop-next l = length l.rest
