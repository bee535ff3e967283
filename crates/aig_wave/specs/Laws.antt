-- What the definitions of a dump say of one another.
use Rattle.std.specs.Prelude.{◌≡◌, ◌≢◌, ◌+◌, ◌<◌, ◌≤◌, ◌^◌, ◌==◌, ◌&&◌, ◌||◌, ◌++◌, ℕ, List, [], ◌∷◌}
use Rattle.std.specs.Prelude.{Bool, None, false, true, IsTrue, length, map, nat_le}
use Rattle.std.specs.List.{AllByRecursion, list_all}
use Rattle.aig_circuit.specs.declared.circuit.Circuit.{Circuit}
use Rattle.aig_circuit.specs.declared.circuit.Latch.{Latch}
use Rattle.aig_circuit.specs.Wellformed.{IsWellFormed, IsWithinLimits}
use Rattle.aig_step.specs.declared.trace.Columns.TheVariants.{Properties}
use Rattle.aig_step.specs.Outcome.{first_bad_line}
use Rattle.aig_step.specs.TraceText.{IsTraceText}
use Rattle.aig_wave.specs.declared.signal.Signal.{Signal}
use Rattle.aig_wave.specs.Frames.{most_frames, trace_lines}
use Rattle.aig_wave.specs.Head.{code, head}
use Rattle.aig_wave.specs.Layout.{layout_of}
use Rattle.aig_wave.specs.Wave.{wave_text}

-- a visible character of ASCII, a space or a line feed
abbrev pub is_plain : ℕ → Bool
is_plain b = (b == 10) || (nat_le 32 b && nat_le b 126)

-- the head is plain text, whatever the names are
abbrev pub HeadIsPlain : Type 0
HeadIsPlain = (c : Circuit) → IsTrue (list_all is_plain (head c))

-- no two of the signals have one identifier code
abbrev pub HaveDistinctCodes : List Signal → Type 0
HaveDistinctCodes [] = Unit {0}
HaveDistinctCodes (s ∷ ss) = AllByRecursion (λ (t : Signal). code s ≢ code t) ss × HaveDistinctCodes ss

-- each signal of a circuit has a code of its own
abbrev pub CodesAreDistinct : Type 0
CodesAreDistinct = (c : Circuit) → IsWithinLimits c → HaveDistinctCodes (layout_of c).signals

-- Two circuits show the same: they have the same symbols, as many of each kind that is shown, and latches that start
-- alike. Gates, and which literals there are, are no part of it.
pub record ShowTheSame (c d : Circuit) : Type 0 where
  pub symbols : d.symbols ≡ c.symbols
  pub inputs : length d.inputs ≡ length c.inputs
  pub outputs : length d.outputs ≡ length c.outputs
  pub bad : length d.bad ≡ length c.bad
  pub constraints : length d.constraints ≡ length c.constraints
  pub resets : map (λ (l : Latch). l.reset) d.latches ≡ map (λ (l : Latch). l.reset) c.latches

-- circuits that show the same have the same dump of each trace text
abbrev pub SameShownSameWave : Type 0
SameShownSameWave = (c d : Circuit) → ShowTheSame c d → (text : List ℕ) (done : Bool)
    → wave_text d text done ≡ wave_text c text done

-- each line of the trace of a stimulus has its frame, since no source gives more than 2^62 bytes
abbrev pub NoLineIsLeftOut : Type 0
NoLineIsLeftOut = (c : Circuit) (stimulus text : List ℕ) (ended : Bool) → length stimulus ≤ 2 ^ 62
    → IsTraceText c Properties stimulus ended text → length (trace_lines (layout_of c) text) ≤ most_frames

-- A dump loses nothing. Where two stimuli have no bad line, and their trace texts with the properties have one dump,
-- that is one trace text.
abbrev pub DumpsLoseNothing : Type 0
DumpsLoseNothing = (c : Circuit) → IsWithinLimits c → (stimulus other text other_text : List ℕ)
    → length stimulus ≤ 2 ^ 62 → length other ≤ 2 ^ 62
    → IsTraceText c Properties stimulus true text → first_bad_line c stimulus true ≡ None
    → IsTraceText c Properties other true other_text → first_bad_line c other true ≡ None
    → wave_text c text true ≡ wave_text c other_text true → text ≡ other_text

-- A step shows more than the state before it. Where it does not, the end of a run looks like a step.
abbrev pub ShowsSteps : Circuit → Type 0
ShowsSteps c = 0 < length c.inputs + length c.outputs + length c.bad + length c.constraints

-- A dump without its end loses nothing of what came: of the lines of a stimulus that goes on, of those before a bad
-- line, or of all. Where two of these have one such dump, they have one trace text: the same steps, no more and no
-- fewer. The state after the last step, which is not shown, follows from that step.
abbrev pub BegunDumpsLoseNothing : Type 0
BegunDumpsLoseNothing = (c : Circuit) → IsWellFormed c → ShowsSteps c
    → (stimulus other text other_text : List ℕ) (ended other_ended : Bool)
    → length stimulus ≤ 2 ^ 62 → length other ≤ 2 ^ 62
    → IsTraceText c Properties stimulus ended text → IsTraceText c Properties other other_ended other_text
    → wave_text c text false ≡ wave_text c other_text false → text ≡ other_text

-- A dump tells whether it has its end: that of a whole stimulus without a bad line is none of a trace that is not done.
abbrev pub DumpsTellTheirEnds : Type 0
DumpsTellTheirEnds = (c : Circuit) → IsWithinLimits c → ShowsSteps c
    → (stimulus other text other_text : List ℕ) (other_ended : Bool)
    → length stimulus ≤ 2 ^ 62 → length other ≤ 2 ^ 62
    → IsTraceText c Properties stimulus true text → first_bad_line c stimulus true ≡ None
    → IsTraceText c Properties other other_ended other_text
    → wave_text c text true ≢ wave_text c other_text false

-- the dump of a beginning of a trace text is a beginning of its dump
abbrev pub WaveGrows : Type 0
WaveGrows = (c : Circuit) (text more : List ℕ) (done : Bool)
    → (behind : List ℕ) × (wave_text c (text ++ more) done ≡ wave_text c text false ++ behind)
