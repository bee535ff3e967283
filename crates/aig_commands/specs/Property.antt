-- The circuit whose bad states stand for a property (this project's profile).
use Rattle.std.specs.Prelude.{◌<◌, ◌⊎◌, ℕ, Option, None, Some, length, ⊤}
use Rattle.aig_circuit.specs.declared.circuit.Circuit.{Circuit}
use Rattle.aig_command.specs.declared.request.Property.{Property}
use Rattle.aig_command.specs.declared.request.Property.TheVariants.{AnyBad, Bad, Justice}
use Rattle.aig_fault.specs.declared.fault.Fault.{Fault}
use Rattle.aig_fault.specs.declared.stopped.Stopped.{Stopped}
use Rattle.aig_fault.specs.declared.stopped.Stopped.TheVariants.{OutOfMemory, Refused}
use Rattle.aig_lasso.specs.Goaled.{HasNoJustice}
use Rattle.aig_live.specs.Laws.{live}
use Rattle.aig_live.specs.Outcome.{HasLive, HasNoLive}
use Rattle.aig_replay.specs.Alone.{HasNotSelected, with_bad_alone}

-- the circuit as it is; with one bad state alone; or the one that reaches its bad state where a justice property is met
abbrev pub property_model : Property → Circuit → Circuit
property_model AnyBad c = c
property_model (Bad number) c = with_bad_alone number c
property_model (Justice number) c = live number c

-- the circuit has the property, and what stands for a justice property is not too large
abbrev pub HasProperty : Property → Circuit → Type 0
HasProperty AnyBad c = ⊤
HasProperty (Bad number) c = number < length c.bad
HasProperty (Justice number) c = HasLive number c

-- it has not, or that is, and this fault says so
abbrev pub HasNotProperty : Property → Circuit → Fault → Type 0
HasNotProperty AnyBad c fault = ⊥
HasNotProperty (Bad number) c fault = HasNotSelected (Some number) c fault
HasNotProperty (Justice number) c fault = HasNoJustice number c fault ⊎ HasNoLive number c fault

-- what an error says of the circuit; where memory was refused, the property is there
abbrev pub NotModelled : Property → Circuit → Stopped → Type 0
NotModelled property c OutOfMemory = HasProperty property c
NotModelled property c (Refused fault) = HasNotProperty property c fault
NotModelled property c stopped = ⊥

-- the bad state of this number, if one is named, or any
abbrev pub bad_property : Option ℕ → Property
bad_property None = AnyBad
bad_property (Some number) = Bad number
