-- How far a dump has come.
use Rattle.std.specs.Prelude.{◌+◌, ◌==◌, ◌&&◌, ◌++◌, ℕ, List, [], Bool, nat_lt, if◌then◌else◌}
use Rattle.aig_wave.specs.Frames.{Frame, closing_line, frame, is_stop, is_trace_line, most_frames, next_state}
use Rattle.aig_wave.specs.Layout.{Layout}
use Rattle.aig_wave.specs.Wave.{blank, frame_text}

-- the time and the run of the next frame, the state that its line stands in, and the frame before
pub record Point : Type 0 where
  pub time : ℕ
  pub run : ℕ
  pub state : List ℕ
  pub before : Frame

-- a layout, and where its dump stands
pub record Taping : Type 0 where
  pub layout : Layout
  pub point : Point

-- before the first frame
abbrev pub begin_of : Layout → Point
begin_of w = record { time = 0; run = 0; state = w.resets; before = blank w }

-- the frame of a line
abbrev pub frame_at : Layout → Point → List ℕ → Frame
frame_at w p line = frame p.run (if is_stop line then closing_line w p.state else line)

-- after a line of the trace
abbrev pub behind : Layout → Point → List ℕ → Point
behind w p line = record {
  time = p.time + 1;
  run = if is_stop line then p.run + 1 else p.run;
  state = if is_stop line then w.resets else next_state w line;
  before = frame_at w p line;
}

-- the head, where nothing was put before
abbrev pub head_at : Layout → ℕ → List ℕ
head_at w time = if time == 0 then w.head else []

-- the text of a line of the trace
abbrev pub piece : Layout → Point → List ℕ → List ℕ
piece w p line = head_at w p.time ++ frame_text w p.time p.before (frame_at w p line)

-- a line has a frame: it is one of a trace, and there is a time for it
abbrev pub is_framed : Layout → Point → List ℕ → Bool
is_framed w p line = is_trace_line w line && nat_lt p.time most_frames

-- the same of any line: one that has no frame is passed over
abbrev pub behind_line : Layout → Point → List ℕ → Point
behind_line w p line = if is_framed w p line then behind w p line else p

abbrev pub line_piece : Layout → Point → List ℕ → List ℕ
line_piece w p line = if is_framed w p line then piece w p line else []
