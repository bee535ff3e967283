-- Runs that are read at the front of a stimulus. Only private functions cite this.
use Rattle.std.specs.Prelude.{◌≡◌, ◌<◌, ◌++◌, ℕ, zero, suc, List, [], ◌∷◌, None, codes, length, map}
use Rattle.std.specs.Prelude.{slice_index_or, true}
use Rattle.std.specs.List.{flat_map}
use Rattle.aig_circuit.specs.declared.circuit.Circuit.{Circuit}
use Rattle.aig_lanes.specs.declared.run.Run.{Run}
use Rattle.aig_lanes.specs.declared.lane_columns.LaneColumns.{LaneColumns}
use Rattle.aig_step.specs.declared.trace.Columns.{Columns}
use Rattle.aig_step.specs.Stimulus.{Entry, Step, Stop, judged_lines, lines_say, stimulus}
use Rattle.aig_trace.specs.Taken.{IsRowText, Took}
use Rattle.aig_step.specs.TraceText.{values_text}
use Rattle.aig_lanes.specs.Parts.LaneTexts.{kept_text, shown_text}
use Rattle.aig_lanes.specs.Parts.Sheets.{BytesText, text_in}
use Rattle.aig_trace.specs.Parts.Progress.{Goes, begin_of}

-- what the lines of a run say, with that of its end
abbrev pub entries_of_run : Run → List Entry
entries_of_run run = map Step run.steps ++ Stop ∷ []

-- no line of the bytes is bad, which are all that is left of a stimulus
abbrev pub HasNoBadLine : ℕ → List ℕ → Type 0
HasNoBadLine inputs bytes = (number : ℕ) × ((lines_say inputs number (judged_lines bytes true)).bad ≡ None)

-- The lines of the bytes say these entries first, and then what those of the rest say.
pub record SaysEntries (inputs : ℕ) (bytes : List ℕ) (entries : List Entry) (rest : List ℕ) : Type 0 where
  pub parted : (stimulus inputs bytes true).entries ≡ entries ++ (stimulus inputs rest true).entries

abbrev pub entries_of_group : List Run → List Entry
entries_of_group runs = flat_map entries_of_run runs

abbrev pub entries_of_groups : List (List Run) → List Entry
entries_of_groups groups = flat_map entries_of_group groups

-- the texts of runs, each with the line that ends it
abbrev pub text_of_group : List (List ℕ) → List ℕ
text_of_group texts = flat_map (λ (text : List ℕ). text ++ codes ".\n") texts

-- a run without steps
abbrev pub no_run : Run
no_run = record { steps = [] }

-- the texts of the first runs by what is kept in their lanes
abbrev pub kept_texts : LaneColumns → List Run → ℕ → List BytesText → List (List ℕ)
kept_texts shown runs zero sheet = []
kept_texts shown runs (suc lane) sheet =
    kept_texts shown runs lane sheet
    ++ kept_text shown (slice_index_or runs lane no_run) (length (slice_index_or runs lane no_run).steps)
    (text_in lane sheet)
    ∷ []

-- what is kept of each step of a run is the line of a step
abbrev pub KeepsRows : LaneColumns → Run → List ℕ → Type 0
KeepsRows shown run text = (step : ℕ) → step < length run.steps
    → IsRowText (shown_text shown step (values_text (slice_index_or run.steps step [])) text)

-- the text for groups of runs was put
pub record AppendedRuns {W : Type 0} (H : W → W → List ℕ → Type 0) (c : Circuit) (columns : Columns)
    (groups : List (List Run)) (before after : W) : Type 0 where
  pub text : List ℕ
  pub put : Took H before after text
  pub goes : Goes c columns (begin_of c) (entries_of_groups groups) (begin_of c) text
