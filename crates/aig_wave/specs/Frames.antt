-- The frames of a trace: what is shown from one time to the next (this project's profile). Frame T is shown at time T,
-- and stands for line T + 1 of the trace. There are no more frames than times of 64 bits, which is more than any
-- stimulus has lines.
use Rattle.std.specs.Prelude.{◌+◌, ◌-◌, ◌^◌, ◌==◌, ◌||◌, ℕ, List, [], ◌∷◌, ◌++◌, Bool, codes, length, take, drop}
use Rattle.std.specs.Prelude.{replicate, bytes_eq, filter, map, if◌then◌else◌}
use Rattle.aig_lines.specs.Lines.{Line, lines_of}
use Rattle.aig_wave.specs.Layout.{Layout}

-- the run that it belongs to, and the characters that it shows, as they stand in the line of a step
pub record Frame : Type 0 where
  pub run : ℕ
  pub line : List ℕ

abbrev pub frame : ℕ → List ℕ → Frame
frame run line = record { run = run; line = line }

-- the line that ends a run
abbrev pub is_stop : List ℕ → Bool
is_stop line = bytes_eq line (codes ".")

-- the line of a step, or one that ends a run
abbrev pub is_trace_line : Layout → List ℕ → Bool
is_trace_line w line = is_stop line || (length line == w.width)

-- the lines of a text that have ended
abbrev pub whole_lines : List ℕ → List (List ℕ)
whole_lines text = map (λ (l : Line). l.text) (filter (λ (l : Line). l.ended) (lines_of text))

-- those that are lines of a trace
abbrev pub trace_lines : Layout → List ℕ → List (List ℕ)
trace_lines w text = filter (is_trace_line w) (whole_lines text)

-- the state that the line of a step leads to
abbrev pub next_state : Layout → List ℕ → List ℕ
next_state w line = take (length w.resets) (drop w.next line)

-- At the end of a run nothing has a value but the state that was reached: all else is shown as z.
abbrev pub closing_line : Layout → List ℕ → List ℕ
closing_line w state = state ++ replicate (w.width - length state) 122

-- the frames of lines, of which the first stands in this run and this state
abbrev pub frames : Layout → ℕ → List ℕ → List (List ℕ) → List Frame
frames w run state [] = []
frames w run state (l ∷ ls) =
    if is_stop l then frame run (closing_line w state) ∷ frames w (run + 1) w.resets ls
    else frame run l ∷ frames w run (next_state w l) ls

-- how many frames there are at most: the last of them ends at a time of 64 bits
unfoldable pub most_frames : ℕ
most_frames = 2 ^ 64 - 1

-- the frames of a trace text
abbrev pub frames_of : Layout → List ℕ → List Frame
frames_of w text = frames w 0 w.resets (take most_frames (trace_lines w text))
