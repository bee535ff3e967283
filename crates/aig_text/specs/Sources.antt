-- A source that is read to its end as a file, for its history as it was and as it is now.
use Rattle.std.specs.Prelude.{◌≡◌, ◌⊎◌, ◌++◌, ℕ, List, Bool, not, Result, Ok, Err}
use Rattle.aig_circuit.specs.declared.circuit.Circuit.{Circuit}
use Rattle.aig_io.specs.Devices.{GaveSome, History, gave, gave_all}
use Rattle.aig_io.specs.declared.transfer.ReadError.{ReadError}
use Rattle.aig_fault.specs.Stopping.{stopped_by}
use Rattle.aig_fault.specs.declared.stopped.Stopped.{Stopped}
use Rattle.aig_text.specs.Begun.{ReadsOn}

-- the source gave all its bytes, and this holds of them
pub record HasRead (Holds : List ℕ → Type 0) (source source_now : History) : Type 0 where
  pub bytes : List ℕ
  pub gave : source_now ≡ gave_all bytes source
  pub holds : Holds bytes

-- the source failed, or memory was refused, and some of its bytes came
pub record HasFailed (stopped : Stopped) (source source_now : History) : Type 0 where
  pub error : ReadError
  pub is : stopped ≡ stopped_by error
  pub gave : GaveSome error source source_now

-- What came of reading: all bytes came, and this holds of the answer and them; or the source failed, or memory was
-- refused, and some of them came.
abbrev pub ReadsAs : {A : Type 0} → (Result A Stopped → List ℕ → Type 0) → Result A Stopped
    → (source source_now : History) → Type 0
ReadsAs Holds (Ok x) source source_now = HasRead (λ bytes. Holds (Ok x) bytes) source source_now
ReadsAs Holds (Err stopped) source source_now =
    HasRead (λ bytes. Holds (Err stopped) bytes) source source_now ⊎ HasFailed stopped source source_now

-- More bytes came, and are held after the others: whatever the source gave before, it gave them too; and it goes on or
-- is at its end, as it was before or since.
pub record ComesOn (held held_now : List ℕ) (more more_now : Bool) (source source_now : History) : Type 0 where
  pub given : List ℕ
  pub all : held_now ≡ held ++ given
  pub gave :
      (before : History) (bytes : List ℕ) → source ≡ gave bytes (not more) before
      → source_now ≡ gave (bytes ++ given) (not more_now) before

-- The source failed, or memory was refused, before all of its bytes came, of which it gave some before.
abbrev pub NotAllCame : ReadError → Bool → (source source_now : History) → Type 0
NotAllCame error more source source_now =
    (before : History) (bytes : List ℕ) → source ≡ gave bytes (not more) before → GaveSome error before source_now

-- Whatever comes, what the bytes that were held, those that came and what comes were to tell is what those that are
-- held and what comes are to tell.
pub record ReadsFrom (tell tell_now : List ℕ → Result Circuit Stopped) (held held_now : List ℕ) (more : Bool)
    (source source_now : History) : Type 0 where
  pub given : List ℕ
  pub gave : source_now ≡ gave given (not more) source
  pub on : (others : List ℕ) → ReadsOn (tell (held ++ given ++ others)) (tell_now (held_now ++ others))
