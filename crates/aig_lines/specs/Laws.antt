-- What the lines of a text are: its pieces.
use Rattle.std.specs.Prelude.{◌≡◌, ◌≢◌, ℕ, List, [], ◌∷◌, true, false}
use Rattle.std.specs.List.{AllByRecursion}
use Rattle.aig_lines.specs.Lines.{HasNoLineFeed, Line, bytes_of, lines_of}

-- a line holds no line feed
abbrev pub IsOneLine : Line → Type 0
IsOneLine l = HasNoLineFeed l.text

-- each line but the last has its line feed, and the last one has it or is not empty
abbrev pub EndInLineFeeds : List Line → Type 0
EndInLineFeeds [] = Unit {0}
EndInLineFeeds (l ∷ []) = l.ended ≡ false → l.text ≢ []
EndInLineFeeds (l ∷ m ∷ ls) = (l.ended ≡ true) × EndInLineFeeds (m ∷ ls)

-- the lines of a text are its pieces, cut after each line feed
pub record AreLines (text : List ℕ) (ls : List Line) : Type 0 where
  pub joined : bytes_of ls ≡ text
  pub one_each : AllByRecursion IsOneLine ls
  pub ended : EndInLineFeeds ls

abbrev pub LinesAreThePieces : Type 0
LinesAreThePieces = (text : List ℕ) → AreLines text (lines_of text)
