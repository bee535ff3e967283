-- Where a line feeder stands, and what came of the lines of a source.
use Rattle.std.specs.Prelude.{◌≡◌, ◌+◌, ℕ, List, [], Bool, true, false, Result, Ok, Err, take}
use Rattle.aig_io.specs.Devices.{History, failed_once, gave}
use Rattle.aig_io.specs.declared.device.DeviceFault.{DeviceFault}
use Rattle.aig_lines.specs.Feeding.{Feeding, Folded, Turn, fold_lines}
use Rattle.aig_lines.specs.Keeping.{Keeping}
use Rattle.aig_lines.specs.Texts.{judged_lines}

-- what a line feeder holds: of the line that has not ended as much as there is room for; how long a line may be; the
-- number of that line; and whether a line was refused, whose number it is then
pub record Feeder : Type 0 where
  pub kept : Keeping
  pub limit : ℕ
  pub number : ℕ
  pub refused : Bool

-- it stands before the first byte
pub record IsInitial (f : Feeder) : Type 0 where
  pub empty : f.kept.bytes ≡ []
  pub room : f.kept.room ≡ f.limit + 2
  pub number : f.number ≡ 1
  pub refused : f.refused ≡ false

-- It stands there, and its taker at the state.
pub record HasFoldedBytes {T S : Type 0} (IsAt : T → S → Type 0) (f : Feeder) (t : T) (at : Feeding S) : Type 0 where
  pub taker : IsAt t at.state
  pub kept : f.kept.bytes ≡ take f.kept.room at.begun
  pub room : f.kept.room ≡ at.limit + 2
  pub limit : f.limit ≡ at.limit
  pub number : f.number ≡ at.number
  pub refused : f.refused ≡ at.refused

-- it stands where these lines were folded
pub record HasFoldedLines {T S : Type 0} (IsAt : T → S → Type 0) (f : Feeder) (t : T) (is : Folded S) : Type 0 where
  pub taker : IsAt t is.state
  pub number : f.number ≡ is.number
  pub refused : f.refused ≡ is.refused

-- The source gave bytes, which are over or not, and their lines were folded; one was refused, or none.
pub record FoldedSourceLines {T S : Type 0} (step : S → List ℕ → Turn S) (IsAt : T → S → Type 0) (limit : ℕ) (s : S)
    (source source_now : History) (over is_refused : Bool) (f : Feeder) (t : T) : Type 0 where
  pub bytes : List ℕ
  pub history : source_now ≡ gave bytes over source
  pub stands : HasFoldedLines IsAt f t (fold_lines step limit s 1 (judged_lines bytes over))
  pub refused : f.refused ≡ is_refused

-- What came of feeding the bytes of a source: they are over and no line was refused; one was; or the source failed
-- after them, which is counted in the history before.
abbrev pub FoldedSource : {T S : Type 0} → (S → List ℕ → Turn S) → (T → S → Type 0) → ℕ → S
    → (source source_now : History) → Result Bool DeviceFault → Feeder → T → Type 0
FoldedSource step IsAt limit s source source_now (Ok true) f t =
    FoldedSourceLines step IsAt limit s source source_now true false f t
FoldedSource step IsAt limit s source source_now (Ok false) f t =
    (over : Bool) × FoldedSourceLines step IsAt limit s source source_now over true f t
FoldedSource step IsAt limit s source source_now (Err fault) f t =
    FoldedSourceLines step IsAt limit s (failed_once source) source_now false false f t
