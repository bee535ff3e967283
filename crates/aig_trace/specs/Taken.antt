-- What takes a trace, line by line.
use Rattle.std.specs.Prelude.{◌≡◌, ◌++◌, ℕ, List, Bool, false, true, []}
use Rattle.std.specs.Borrow.{MutBor}
use Rattle.aig_io.specs.Devices.{History}
use Rattle.aig_io.specs.Runs.{All, Beginning, Delivery, Ending, NotSent, Read}
use Rattle.aig_meaning.specs.Meaning.{Row}
use Rattle.aig_step.specs.declared.trace.Columns.{Columns}
use Rattle.aig_step.specs.TraceText.{row_text}

-- the line of a step
pub record IsRowText (text : List ℕ) : Type 0 where
  pub columns : Columns
  pub row : Row
  pub is : text ≡ row_text columns row

-- A taker took a text: since it stood anywhere, it took that text after what it had taken.
pub record Took {T : Type 0} (HasTaken : T → T → List ℕ → Type 0) (before after : T) (text : List ℕ) : Type 0 where
  pub more : (from : T) (front : List ℕ) → HasTaken from before front → HasTaken from after (front ++ text)

-- The same taker, which is lent, took a text after what it had taken.
pub record TookLent {T : Type 0} (HasTaken : T → T → List ℕ → Type 0) (before after : MutBor T) (text : List ℕ)
    : Type 0 where
  pub same : after.ghost_name ≡ before.ghost_name
  pub took : Took HasTaken before.now after.now text

-- what was meant to be taken of a text
abbrev pub meant : List ℕ → Delivery → List ℕ
meant text NotSent = []
meant text All = text
meant text (Beginning count) = text

-- a text is cut exactly where its taker failed
abbrev pub Tells : Bool → Delivery → Type 0
Tells failed NotSent = failed ≡ false
Tells failed All = failed ≡ false
Tells failed (Beginning count) = failed ≡ true

-- A taker took a text, or failed on the way, and this holds of the text.
pub record Taken {T : Type 0} (HasTaken : T → T → List ℕ → Type 0) (Says : List ℕ → Delivery → Type 0)
    (before after : T) (failed : Bool) : Type 0 where
  pub text : List ℕ
  pub delivery : Delivery
  pub says : Says text delivery
  pub took : Took HasTaken before after (meant text delivery)
  pub tells : Tells failed delivery

-- A source was read and a text was taken, and this holds of both.
abbrev pub Ran : {T : Type 0} → (T → T → List ℕ → Type 0) → (List ℕ → Ending → List ℕ → Delivery → Type 0)
    → (source source_now : History) → (before after : T) → (failed : Bool) → Type 0
Ran HasTaken Says source source_now before after failed =
    Read (λ bytes ending. Taken HasTaken (Says bytes ending) before after failed) source source_now
