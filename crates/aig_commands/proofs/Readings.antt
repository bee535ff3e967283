-- What comes of a source that was read, by what was made of it.
use Rattle.std.proofs.Common.{◌≡◌, List, ℕ, subst, sym}
use Rattle.aig_binary.proofs.Readings.{at_its_end}
use Rattle.aig_fault.specs.Stopping.{StopsFor}
use Rattle.aig_fault.specs.declared.fault.Fault.{Fault}
use Rattle.aig_fault.specs.declared.stopped.Stopped.{Stopped}
use Rattle.aig_io.specs.Devices.{History}
use Rattle.aig_io.specs.Runs.{AtEnd, Ending, Read}
use Rattle.aig_io.proofs.Runs.{read_weaker}
use Rattle.aig_commands.specs.Reading.{AtItsEnd, NotRead}

-- all came, and this holds of it
abbrev pub CameWhole : (List ℕ → Type 0) → List ℕ → Ending → Type 0
CameWhole Holds bytes ending = (ending ≡ AtEnd) × Holds bytes

module _ (Holds : List ℕ → Type 0) (before after : History) where
  -- what follows of it does too
  pub made_after : (Then : List ℕ → Type 0) → ((bytes : List ℕ) → Holds bytes → Then bytes)
      → Read (CameWhole Holds) before after → Read (CameWhole Then) before after
  made_after Then follows = read_weaker _ _ before after (λ bytes ending says. (says.0, follows bytes says.1))

  -- nothing was made of it
  pub stopped_after : (IsRefused : Fault → List ℕ → Type 0) (stopped : Stopped)
      → ((bytes : List ℕ) → Holds bytes → StopsFor (λ fault. IsRefused fault bytes) stopped)
      → Read (CameWhole Holds) before after → Read (NotRead (AtItsEnd IsRefused) stopped) before after
  stopped_after IsRefused stopped why =
      read_weaker _ _ before after (λ bytes ending says. subst
      (λ end. NotRead (AtItsEnd IsRefused) stopped bytes end) (sym says.0)
      (at_its_end IsRefused stopped bytes (why bytes says.1)))
