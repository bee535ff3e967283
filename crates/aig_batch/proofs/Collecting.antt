-- What came of a stimulus that is judged while it comes.
use Rattle.std.proofs.Common.{◌≡◌, ◌++◌, ◌∙◌, if◌then◌else◌, ℕ, List, Bool, false, Some, None, length, sym, ap, subst}
use Rattle.std.proofs.Common.{Err, IfErr, IsErrAnd, Ok, Result}
use Rattle.aig_circuit.specs.declared.circuit.Circuit.{Circuit}
use Rattle.aig_io.specs.Devices.{History}
use Rattle.aig_io.specs.Runs.{Read}
use Rattle.aig_lines.specs.Feeders.{Feeder, HasFoldedBytes}
use Rattle.aig_lines.specs.Feeding.{Feeding, ended_if, fold_bytes}
use Rattle.aig_lines.proofs.Tells.{fold_twice}
use Rattle.aig_step.specs.Outcome.{first_bad_line}
use Rattle.aig_fault.specs.declared.stopped.Stopped.{Stopped}
use Rattle.aig_fault.specs.declared.stopped.Stopped.TheVariants.{OutOfMemory}
use Rattle.aig_trace.specs.Parts.Saying.{Saying, before_lines, say_line}
use Rattle.aig_trace.proofs.RunTexts.{has_said}
use Rattle.aig_batch.specs.Batched.{NotCollected}

-- memory was refused, when some bytes had come
pub refused : {T : Type 0} (c : Circuit) (r : Result T Stopped) (source source_now : History)
    → IsErrAnd r (λ e. e ≡ OutOfMemory) → Read (NotCollected c OutOfMemory) source source_now
    → IfErr r (λ e. Read (NotCollected c e) source source_now)
refused c (Ok x) source source_now is some = tt
refused c (Err e) source source_now is some = rw is some

module _ {T : Type 0} (IsAt : T → Saying (Unit {0}) → Type 0) (c : Circuit) where
  -- where the feeder stands before the first byte
  abbrev pub start : Feeding (Saying (Unit {0}))
  start = before_lines tt (length c.inputs)

  -- these bytes were folded, which are over or not
  abbrev pub HasFolded : Feeder → T → List ℕ → Bool → Type 0
  HasFolded f t bytes over = HasFoldedBytes IsAt f t (ended_if say_line over (fold_bytes say_line start bytes))

  pub fold_more : (f g : Feeder) (t u : T) (bytes chunk : List ℕ)
      → ((at : Feeding (Saying (Unit {0}))) → HasFoldedBytes IsAt f t at
      → HasFoldedBytes IsAt g u (fold_bytes say_line at chunk))
      → HasFolded f t bytes false → HasFolded g u (bytes ++ chunk) false
  fold_more f g t u bytes chunk more stands =
      subst (HasFoldedBytes IsAt g u) (sym (fold_twice say_line start bytes chunk))
      (more (fold_bytes say_line start bytes) stands)

  -- which line of them is bad
  pub first_bad : (f : Feeder) (t : T) (bytes : List ℕ) (over refused : Bool) → HasFolded f t bytes over
      → f.refused ≡ refused → first_bad_line c bytes over ≡ (if refused then Some f.number else None)
  first_bad f t bytes over refused stands is =
      (has_said IsAt tt (length c.inputs) bytes over f t stands).bad
      ∙ ap (λ (b : Bool). if b then Some f.number else None) is
