-- What is written for a stimulus, as the request asks.
use Rattle.std.proofs.Common.{◌≡◌, List, ℕ, true, false, None, Result, Ok, Err, IfOk}
use Rattle.aig_circuit.specs.declared.circuit.Circuit.{Circuit}
use Rattle.aig_command.specs.declared.request.Sim.{Sim}
use Rattle.aig_step.specs.Outcome.{first_bad_line}
use Rattle.aig_step.specs.TraceText.{IsTraceText}
use Rattle.aig_dump.specs.InMemory.{IsDumpFor}
use Rattle.aig_commands.specs.File.{IsFileOf}
use Rattle.aig_commands.specs.Simulation.{IsWrittenText, columns_of}

module _ {V E : Type 0} (items : V → List ℕ) (r : Result V E) (request : Sim) (model stimulus : List ℕ)
    (found : Circuit) where
  pub written_trace : request.vcd ≡ false → IsFileOf model request.max_var found
      → IfOk r (λ v. first_bad_line found stimulus true ≡ None)
      → IfOk r (λ v. IsTraceText found (columns_of request) stimulus true (items v))
      → IfOk r (λ v. IsWrittenText request model stimulus (items v))
  written_trace vcd read good trace = go r good trace
    where
      go : (q : Result V E) → IfOk q (λ v. first_bad_line found stimulus true ≡ None)
          → IfOk q (λ v. IsTraceText found (columns_of request) stimulus true (items v))
          → IfOk q (λ v. IsWrittenText request model stimulus (items v))
      go (Ok v) none is = rw vcd (record { found = found; read = read; none_bad = none; is_trace = is })
      go (Err e) none is = tt

  pub written_dump : request.vcd ≡ true → IsFileOf model request.max_var found
      → IfOk r (λ v. first_bad_line found stimulus true ≡ None) → IfOk r (λ v. IsDumpFor found stimulus (items v))
      → IfOk r (λ v. IsWrittenText request model stimulus (items v))
  written_dump vcd read good dumped = go r good dumped
    where
      go : (q : Result V E) → IfOk q (λ v. first_bad_line found stimulus true ≡ None)
          → IfOk q (λ v. IsDumpFor found stimulus (items v))
          → IfOk q (λ v. IsWrittenText request model stimulus (items v))
      go (Ok v) none is =
          rw vcd (record {
            trace = is.0;
            simulation = record { found = found; read = read; none_bad = none; is_trace = is.1 };
            is_dump = is.2;
          })
      go (Err e) none is = tt
