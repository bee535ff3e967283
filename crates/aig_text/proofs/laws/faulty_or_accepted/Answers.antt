use Rattle.std.proofs.Common.{◌≡◌, ap, refl, None, Result, Ok, Err}
use Rattle.aig_fault.specs.declared.stopped.Stopped.{Stopped}
use Rattle.aig_text.specs.Reading.{reading, fault_of}
use Rattle.aig_text.proofs.Grammar.Text.{reading_is_accepted, accepted_is_read}
use Rattle.aig_text.proofs.laws.faulty_or_accepted.Goals as goal

-- what has no fault is read
no_fault_is_ok : {A : Type 0} (r : Result A Stopped) → fault_of r ≡ None → (x : A) × (r ≡ Ok x)
no_fault_is_ok (Ok x) h = (x, refl)
no_fault_is_ok (Err e) h = cc

pub returns : goal.returns
returns c =
    λ text limit. (
      λ h. let r = no_fault_is_ok (reading limit text) h in (r.0, reading_is_accepted limit text r.0 r.1),
      λ a. ap fault_of (accepted_is_read limit text a.0 a.1),
    )
