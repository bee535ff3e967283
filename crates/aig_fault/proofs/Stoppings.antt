-- Why a call stopped, said more weakly.
use Rattle.aig_fault.specs.Stopping.{StopsFor}
use Rattle.aig_fault.specs.declared.fault.Fault.{Fault}
use Rattle.aig_fault.specs.declared.stopped.Stopped.{Stopped}
use Rattle.aig_fault.specs.declared.stopped.Stopped.TheVariants as stops

pub stops_weaker : (P Q : Fault → Type 0) (stopped : Stopped) → ((fault : Fault) → P fault → Q fault)
    → StopsFor P stopped → StopsFor Q stopped
stops_weaker P Q stops.OutOfMemory weaker why = tt
stops_weaker P Q stops.ReadFailed weaker why = why
stops_weaker P Q stops.WriteFailed weaker why = why
stops_weaker P Q (stops.Refused fault) weaker why = weaker fault why
