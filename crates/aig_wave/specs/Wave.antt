-- The dump of a trace text: a Value Change Dump (IEEE 1364-2005, section 18; which of its forms are used is this
-- project's profile).
use Rattle.std.specs.Prelude.{◌+◌, ◌==◌, ◌||◌, ◌&&◌, ◌++◌, ℕ, List, [], ◌∷◌, Bool, not, codes, decimal, length, take}
use Rattle.std.specs.Prelude.{drop, reverse, false, bytes_eq, replicate, if◌then◌else◌}
use Rattle.std.specs.Fmt.{digits}
use Rattle.std.specs.List.{flat_map}
use Rattle.aig_circuit.specs.declared.circuit.Circuit.{Circuit}
use Rattle.aig_wave.specs.declared.signal.Signal.{Signal}
use Rattle.aig_wave.specs.Frames.{Frame, frame, frames_of}
use Rattle.aig_wave.specs.Head.{code}
use Rattle.aig_wave.specs.Layout.{Layout, layout_of}

abbrev pub time_text : ℕ → List ℕ
time_text time = codes "#" ++ (decimal time ++ codes "\n")

-- the run in binary, without leading zeros, where it is another one than in the frame before
abbrev pub run_number_text : ℕ → Frame → Frame → List ℕ
run_number_text time before f =
    if (time == 0) || not (before.run == f.run) then codes "b" ++ (digits 2 false f.run ++ codes " r\n") else []

-- the characters of a signal in a line
abbrev pub bits : Signal → List ℕ → List ℕ
bits s line = take s.size (drop s.start line)

-- characters as a value: of a vector the highest position first
abbrev pub value_text : Signal → List ℕ → List ℕ
value_text s characters =
    if s.size == 1 then characters else codes "b" ++ (reverse characters ++ codes " ")

-- the value of a signal, where it is another one than in the frame before
abbrev pub change_text : ℕ → Frame → Frame → Signal → List ℕ
change_text time before f s =
    if (time == 0) || not (bytes_eq (bits s before.line) (bits s f.line))
    then value_text s (bits s f.line) ++ (code s ++ codes "\n")
    else []

-- a frame after another; at time 0 all is shown
abbrev pub frame_text : Layout → ℕ → Frame → Frame → List ℕ
frame_text w time before f =
    time_text time ++ (run_number_text time before f ++ flat_map (change_text time before f) w.signals)

abbrev pub body : Layout → ℕ → Frame → List Frame → List ℕ
body w time before [] = []
body w time before (f ∷ fs) = frame_text w time before f ++ body w (time + 1) f fs

-- what is compared with the first frame, at which all is shown
abbrev pub blank : Layout → Frame
blank w = frame 0 (replicate w.width 122)

-- the dump of frames, and of whether the trace is done: then the time follows at which the last frame ends
abbrev pub dump : Layout → List Frame → Bool → List ℕ
dump w fs done =
    if (length fs == 0) && not done then []
    else w.head ++ (body w 0 (blank w) fs ++ (if done then time_text (length fs) else []))

-- the dump of a circuit's trace text so far, and of whether the trace is done
abbrev pub wave_text : Circuit → List ℕ → Bool → List ℕ
wave_text c text done = let w = layout_of c in dump w (frames_of w text) done
