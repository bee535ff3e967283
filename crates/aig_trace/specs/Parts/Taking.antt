-- What takes lines, one after the other or side by side.
use Rattle.std.specs.Prelude.{◌≡◌, ◌<◌, ℕ, List, [], slice_index_or}
use Rattle.aig_lanes.specs.Parts.InputBits.{one_step}
use Rattle.aig_lanes.specs.Parts.LaneTexts.{KeepsRun}
use Rattle.aig_step.specs.Stimulus.{Entry}
use Rattle.aig_trace.specs.declared.side_by_side.SideBySide.{SideBySide}
use Rattle.aig_trace.specs.declared.taker.Taker.{Taker}
use Rattle.aig_trace.specs.declared.taker.Taker.TheVariants as takers
use Rattle.aig_trace.specs.Parts.Tracing.{LineTracing, Tracing}
use Rattle.aig_trace.specs.Parts.Waits.{entries_of, vectors_of}

-- the lanes show the steps that wait
abbrev pub ShowsSteps : SideBySide → Type 0
ShowsSteps a = (j : ℕ) → j < a.waiting.steps
    → KeepsRun a.tracer.circuit (one_step (slice_index_or (vectors_of a.waiting) j [])) j a.bench.shown a.bench.sheet

-- the same lines wait, and the lanes show what they showed
pub record KeepsLanes (before after : SideBySide) : Type 0 where
  pub waiting : after.waiting ≡ before.waiting
  pub shown : after.bench.shown ≡ before.bench.shown
  pub sheet : after.bench.sheet ≡ before.bench.sheet

-- with what takes the text
abbrev pub lines_in : {W : Type 0} → SideBySide → W → LineTracing W
lines_in a output = record { tracing = a.tracer; waiting = entries_of a.waiting; output = output }

-- the tracer that it has
abbrev pub tracing_in : Taker → Tracing
tracing_in (takers.InTurn tracer) = tracer
tracing_in (takers.SideBySide a) = a.tracer

-- what the lines say that wait in it
abbrev pub waiting_in : Taker → List Entry
waiting_in (takers.InTurn tracer) = []
waiting_in (takers.SideBySide a) = entries_of a.waiting
