-- Why a conversion stopped.
use Rattle.std.proofs.Common.{◌≡◌, List, ℕ, true}
use Rattle.aig_circuit.specs.declared.circuit.Circuit.{Circuit}
use Rattle.aig_command.specs.declared.request.ToAig.{ToAig}
use Rattle.aig_fault.specs.Stopping.{StopsFor}
use Rattle.aig_fault.specs.declared.stopped.Stopped.{Stopped}
use Rattle.aig_fault.proofs.Stoppings.{stops_weaker}
use Rattle.aig_map.specs.Undone.{IsMapFault}
use Rattle.aig_commands.specs.Conversion.{CannotTurn, IsConversionRefused, IsSource, cannot_turn, has_no_source}
use Rattle.aig_commands.specs.File.{IsFileOf}

module _ (request : ToAig) (found : Circuit) (bytes : List ℕ) (file : IsFileOf bytes request.max_var found) where
  -- a map cannot be undone
  pub not_undone : (stopped : Stopped) → (request.undo_map ≡ true) × StopsFor (IsMapFault found) stopped
      → StopsFor (λ fault. IsConversionRefused request fault bytes) stopped
  not_undone stopped why =
      stops_weaker (IsMapFault found) (λ fault. IsConversionRefused request fault bytes) stopped
      (λ fault is. has_no_source found file why.0 is) why.1

  -- it cannot have the bad states that are asked for
  pub not_turned : (source : Circuit) (stopped : Stopped) → IsSource request.undo_map found source
      → StopsFor (CannotTurn request.bad_states source) stopped
      → StopsFor (λ fault. IsConversionRefused request fault bytes) stopped
  not_turned source stopped is =
      stops_weaker _ (λ fault. IsConversionRefused request fault bytes) stopped
      (λ fault why. cannot_turn found source file is why)
