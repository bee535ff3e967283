-- What each reading leaves to read.
use Rattle.std.proofs.Common.{◌<◌, ℕ, List, Bool, true, false, arith, inl, inr}
use Rattle.aig_circuit.specs.declared.circuit.Circuit.{Circuit}
use Rattle.aig_command.specs.declared.request.Invariant.{Invariant}
use Rattle.aig_commands.specs.Jobs.{Makes, read_for, reads_of, sources_left}
use Rattle.aig_commands.specs.declared.job.Job.{Job}
use Rattle.aig_commands.specs.declared.job.Reading.{Reading}
use Rattle.aig_commands.specs.declared.job.Reading.TheVariants as readings

-- an invariant leaves its refutation at the most
few : (refuted : Bool) (request : Invariant) (selected : Circuit) → reads_of (read_for refuted request selected) < 3
few true request selected = omega arith
few false request selected = omega arith

-- each reading leaves fewer sources
pub fewer : (reading : Reading) (bytes : List ℕ) (next : Job) → Makes reading bytes next
    → sources_left next < reads_of reading
fewer (readings.Reach request) bytes next (selected, is, then) = rw then (omega arith)
fewer (readings.Invariant request) bytes next (selected, is, then) =
    rw then (few request.refuted request selected)
fewer (readings.Strengthen request selected) bytes next (strengthened, is, then) = rw then (omega arith)
fewer (readings.ToAig request) bytes next (answer, is, then) = rw then (omega arith)
fewer (readings.Unroll request) bytes next (answer, is, then) = rw then (omega arith)
fewer (readings.Solved request selected) bytes next (answer, is, then) = rw then (omega arith)
fewer (readings.Clauses request selected) bytes next (answer, is, then) = rw then (omega arith)
fewer (readings.Never request strengthened) bytes next (answer, is, then) = rw then (omega arith)
fewer (readings.First request) bytes next (first, is, then) = rw then (omega arith)
fewer (readings.Second request first) bytes next (answer, is, then) = rw then (omega arith)
fewer (readings.Sim request) bytes next (model, is, then) = rw then (omega arith)
fewer (readings.Info request) bytes next (answer, is, then) = rw then (omega arith)
fewer (readings.Select request) bytes next (inl (answer, is, then)) = rw then (omega arith)
fewer (readings.Select request) bytes next (inr (refusal, is, then)) = rw then (omega arith)
fewer (readings.ToDot request) bytes next (inl (answer, is, then)) = rw then (omega arith)
fewer (readings.ToDot request) bytes next (inr (refusal, is, then)) = rw then (omega arith)
