-- How far a simulation has come.
use Rattle.std.specs.Prelude.{◌≡◌, ◌++◌, ℕ, List, [], ◌∷◌, Bool, true, false, codes}
use Rattle.aig_circuit.specs.declared.circuit.Circuit.{Circuit}
use Rattle.aig_circuit.specs.declared.value.Val.{Val}
use Rattle.aig_meaning.specs.Meaning.{IsRow, Row}
use Rattle.aig_meaning.specs.Trace.{reset_state}
use Rattle.aig_step.specs.declared.trace.Columns.{Columns}
use Rattle.aig_step.specs.Stimulus.{Entry, Step, Stop}
use Rattle.aig_step.specs.TraceText.{row_text}

-- where a simulation stands between two lines: the state, and whether the run that is going on has a step
pub record Point : Type 0 where
  pub state : List Val
  pub has_step : Bool

-- where each run begins
abbrev pub begin_of : Circuit → Point
begin_of c = record { state = reset_state c; has_step = false }

-- a step: its row, the text of that, and where it leads
pub record Steps (c : Circuit) (columns : Columns) (before : Point) (given : List Val) (after : Point) (text : List ℕ)
    : Type 0 where
  pub row : Row
  pub is_row : IsRow c row
  pub from : row.state ≡ before.state
  pub inputs : row.inputs ≡ given
  pub leads : after ≡ record { state = row.next; has_step = true }
  pub is : text ≡ row_text columns row

-- what a line leads to, and the text for it
abbrev pub Does : Circuit → Columns → Point → Entry → Point → List ℕ → Type 0
Does c columns before (Step given) after text = Steps c columns before given after text
Does c columns before Stop after text = (after ≡ begin_of c) × (text ≡ codes ".\n")

-- what lines lead to, one after the other, and the text for them
abbrev pub Goes : Circuit → Columns → Point → List Entry → Point → List ℕ → Type 0
Goes c columns before [] after text = (after ≡ before) × (text ≡ [])
Goes c columns before (entry ∷ entries) after text =
    (between : Point) × (front : List ℕ) × (rest : List ℕ) × Does c columns before entry between front
    × Goes c columns between entries after rest × (text ≡ front ++ rest)
