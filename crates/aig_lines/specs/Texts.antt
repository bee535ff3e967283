-- The texts of lines, and which lines of bytes are judged (this project's profile).
use Rattle.std.specs.Prelude.{◌==◌, ◌&&◌, ◌||◌, ℕ, List, [], ◌∷◌, Bool, filter, if◌then◌else◌, length, nat_eq}
use Rattle.aig_lines.specs.Lines.{Line, lines_of}

-- the text without a carriage return at its end
abbrev pub without_return : List ℕ → List ℕ
without_return [] = []
without_return (b ∷ bs) = if (b == 13) && nat_eq (length bs) 0 then [] else b ∷ without_return bs

-- the text of a line; a carriage return directly before the line feed is dropped
abbrev pub text_of : Line → List ℕ
text_of l = if l.ended then without_return l.text else l.text

-- The lines that are judged: a last one without its line feed only where the bytes have ended, since else more of it
-- may come.
abbrev pub judged_lines : List ℕ → Bool → List Line
judged_lines bytes ended = filter (λ (l : Line). l.ended || ended) (lines_of bytes)
