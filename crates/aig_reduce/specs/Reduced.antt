-- What is left of a circuit for its bad states and its constraints (the cone of influence of these, simplified; this
-- project's profile).
use Rattle.std.specs.Prelude.{◌≡◌, [], Bool, true, false}
use Rattle.aig_circuit.specs.declared.circuit.Circuit.{Circuit}
use Rattle.aig_simplify.specs.Simplified.{IsSimplified}

-- the circuit without its outputs, and so without names
abbrev pub without_outputs : Circuit → Circuit
without_outputs c = record c { outputs = []; symbols = [] }

-- d is what is left of c
abbrev pub IsReduced : Circuit → Circuit → Type 0
IsReduced c d = IsSimplified (without_outputs c) d

-- d is what is left of c where that is asked for, or else c itself
abbrev pub IsReducedIf : Bool → Circuit → Circuit → Type 0
IsReducedIf true c d = IsReduced c d
IsReducedIf false c d = d ≡ c
