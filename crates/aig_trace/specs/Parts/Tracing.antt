-- What takes the lines of a stimulus, and what was put for them.
use Rattle.std.specs.Prelude.{◌≡◌, ◌++◌, ℕ, List, [], ◌∷◌, Bool, false, true, Some, codes, if◌then◌else◌, length}
use Rattle.aig_circuit.specs.declared.circuit.Circuit.{Circuit}
use Rattle.aig_circuit.specs.declared.value.Val.{Val}
use Rattle.aig_lines.specs.Feeders.{Feeder, IsInitial}
use Rattle.aig_step.specs.declared.trace.Columns.{Columns}
use Rattle.aig_step.specs.Stimulus.{Entry, entry_in, stimulus}
use Rattle.aig_trace.specs.Taken.{Took}
use Rattle.aig_step.specs.Parts.Lines.{vector_in}
use Rattle.aig_trace.specs.Parts.Progress.{Does, Goes, Point, Steps, begin_of}
use Rattle.aig_trace.specs.Parts.Saying.{Saying, longest_entry}

-- a circuit that is run, with the columns that are asked for, the state before its next step, and whether the run that
-- is going on has a step
pub record Tracing : Type 0 where
  pub circuit : Circuit
  pub columns : Columns
  pub state : List Val
  pub has_step : Bool

abbrev pub point_of : Tracing → Point
point_of t = record { state = t.state; has_step = t.has_step }

-- it runs the same circuit, with the same columns
pub record IsSameTracer (before after : Tracing) : Type 0 where
  pub circuit : after.circuit ≡ before.circuit
  pub columns : after.columns ≡ before.columns

-- a line was taken: it says an entry, which was done, and the text for it was put
pub record TookLine {W : Type 0} (H : W → W → List ℕ → Type 0) (before after : Tracing) (a b : W) (text : List ℕ)
    : Type 0 where
  pub entry : Entry
  pub line : List ℕ
  pub said : entry_in (length before.circuit.inputs) text ≡ Some entry
  pub does : Does before.circuit before.columns (point_of before) entry (point_of after) line
  pub put : Took H a b line

-- a step was taken with the inputs that a text says, and its line was put
pub record TookStep {W : Type 0} (H : W → W → List ℕ → Type 0) (before after : Tracing) (a b : W) (text : List ℕ)
    : Type 0 where
  pub given : List Val
  pub line : List ℕ
  pub said : vector_in (length before.circuit.inputs) text ≡ Some given
  pub steps : Steps before.circuit before.columns (point_of before) given (point_of after) line
  pub put : Took H a b line

-- a tracer did what lines say, and put the text for it
pub record Did {W : Type 0} (H : W → W → List ℕ → Type 0) (before after : Tracing) (entries : List Entry) (a b : W)
    : Type 0 where
  pub same : IsSameTracer before after
  pub text : List ℕ
  pub goes : Goes before.circuit before.columns (point_of before) entries (point_of after) text
  pub put : Took H a b text

-- a tracer, what the lines say that wait for their text, and what takes the text
pub record LineTracing (W : Type 0) : Type 0 where
  pub tracing : Tracing
  pub waiting : List Entry
  pub output : W

-- the first of what waited was done, and the rest waits
pub record MovedOn {W : Type 0} (H : W → W → List ℕ → Type 0) (before after : LineTracing W) : Type 0 where
  pub done : List Entry
  pub did : Did H before.tracing after.tracing done before.output after.output
  pub left : before.waiting ≡ done ++ after.waiting

-- A line was accepted: it says an entry. What was done is done in turn, and the rest waits.
pub record AcceptedLine {W : Type 0} (H : W → W → List ℕ → Type 0) (before after : LineTracing W) (text : List ℕ)
    : Type 0 where
  pub entry : Entry
  pub said : entry_in (length before.tracing.circuit.inputs) text ≡ Some entry
  pub done : List Entry
  pub did : Did H before.tracing after.tracing done before.output after.output
  pub left : before.waiting ++ entry ∷ [] ≡ done ++ after.waiting

-- what stays while lines are taken: the circuit that is run, the columns, and what takes the text before the first line
pub record Task (W : Type 0) : Type 0 where
  pub circuit : Circuit
  pub columns : Columns
  pub from : W

-- a tracer that begins it
abbrev pub tracing_of : {W : Type 0} → Task W → Tracing
tracing_of task = record {
  circuit = task.circuit;
  columns = task.columns;
  state = (begin_of task.circuit).state;
  has_step = false;
}

abbrev pub tracing_task : {W : Type 0} → LineTracing W → Task W
tracing_task t = record { circuit = t.tracing.circuit; columns = t.tracing.columns; from = t.output }

-- what these lines say led to where it stands and was put, but for what the last ones say, which wait
pub record HasTraced {W : Type 0} (H : W → W → List ℕ → Type 0) (t : LineTracing W) (s : Saying (Task W)) : Type 0 where
  pub inputs : s.inputs ≡ length s.known.circuit.inputs
  pub done : List Entry
  pub all : s.entries ≡ done ++ t.waiting
  pub did : Did H (tracing_of s.known) t.tracing done s.known.from t.output

-- the text was put for all lines of these bytes up to the first bad one, and the end of the run that was going on
pub record AppendedText {W : Type 0} (H : W → W → List ℕ → Type 0) (t : Tracing) (bytes : List ℕ) (a b : W)
    : Type 0 where
  pub point : Point
  pub text : List ℕ
  pub goes : let entries = (stimulus (length t.circuit.inputs) bytes true).entries in
      Goes t.circuit t.columns (begin_of t.circuit) entries point text
  pub put : Took H a b (text ++ (if point.has_step then codes ".\n" else []))

-- what takes the bytes of a stimulus: what cuts them into lines, the tracer, and what the lines say that wait
pub record Reading : Type 0 where
  pub feeder : Feeder
  pub tracing : Tracing
  pub waiting : List Entry

-- it stands before the first byte
pub record IsFresh (r : Reading) : Type 0 where
  pub initial : IsInitial r.feeder
  pub limit : r.feeder.limit ≡ longest_entry (length r.tracing.circuit.inputs)
  pub begun : point_of r.tracing ≡ begin_of r.tracing.circuit
  pub settled : r.waiting ≡ []
