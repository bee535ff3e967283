-- Comment lines of a witness file (AIGER 1.9; the bound is this project's): lines that begin with `c`. They may stand
-- anywhere, and say nothing.
use Rattle.std.specs.Prelude.{◌≡◌, ◌==◌, ◌&&◌, ℕ, zero, suc, List, [], ◌∷◌, Bool, false, not, filter, if◌then◌else◌}
use Rattle.std.specs.Prelude.{length, nat_le}
use Rattle.std.specs.List.{AllByRecursion}
use Rattle.aig_lines.specs.Lines.{Line, bytes_of, lines_of}
use Rattle.aig_step.specs.Stimulus.{text_of}
use Rattle.aig_verdicts.specs.declared.comment.TheConstants.{LONGEST_COMMENT}

abbrev pub begins_with : ℕ → List ℕ → Bool
begins_with letter [] = false
begins_with letter (b ∷ bs) = b == letter

-- `c`, and so many bytes at most
abbrev pub is_comment : List ℕ → Bool
is_comment text = begins_with 99 text && nat_le (length text) LONGEST_COMMENT

-- the lines that are no comments
abbrev pub lines_said : List Line → List Line
lines_said ls = filter (λ (l : Line). not (is_comment (text_of l))) ls

-- the bytes of those
unfoldable pub uncommented : List ℕ → List ℕ
uncommented bytes = bytes_of (lines_said (lines_of bytes))

-- none is a comment
abbrev pub HasNoComment : List Line → Type 0
HasNoComment ls = AllByRecursion (λ (l : Line). is_comment (text_of l) ≡ false) ls

-- which line it is, comments counted, that has this number among those that are no comments; or that would have it
-- behind them all
abbrev pub line_number : List Line → ℕ → ℕ
line_number [] number = number
line_number (l ∷ ls) zero = zero
line_number (l ∷ ls) (suc number) =
    suc (if is_comment (text_of l) then line_number ls (suc number) else line_number ls number)
