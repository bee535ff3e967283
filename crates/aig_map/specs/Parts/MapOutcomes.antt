-- What a function that reads or undoes gives, beside what is read.
use Rattle.std.specs.Prelude.{◌≡◌, ◌⊎◌, Result, Ok, Err}
use Rattle.aig_fault.specs.declared.fault.Fault.{Fault}
use Rattle.aig_fault.specs.declared.stopped.Stopped.{Stopped}
use Rattle.aig_fault.specs.declared.stopped.Stopped.TheVariants.{OutOfMemory, Refused}

-- What it returned, seen by view, is what reading gives, unless memory was refused.
abbrev pub GivesOrMemory : {X Y : Type 0} → (X → Y) → Result X Stopped → Result Y Fault → Type 0
GivesOrMemory view (Ok x) read = read ≡ Ok (view x)
GivesOrMemory view (Err e) read = (e ≡ OutOfMemory) ⊎ ((fault : Fault) × (e ≡ Refused fault) × (read ≡ Err fault))
