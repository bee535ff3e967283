-- How the loop of a lasso is looked for. Only private functions cite this.
use Rattle.std.specs.Prelude.{◌≡◌, ◌+◌, ◌&&◌, ◌||◌, ◌==◌, ℕ, suc, List, [], ◌∷◌, Bool, true, false, Option, None, Some}
use Rattle.std.specs.Prelude.{drop, option_and_then, replicate, if◌then◌else◌}
use Rattle.std.specs.List.{list_all}
use Rattle.aig_circuit.specs.declared.circuit.Circuit.{Circuit}
use Rattle.aig_circuit.specs.declared.value.Val.{Val}
use Rattle.aig_circuit.specs.Wellformed.{IsWellFormed}
use Rattle.aig_meaning.specs.Meaning.{MeansTheSame, Row}
use Rattle.aig_meaning.specs.Trace.{Follow, IsTrace, state_after}
use Rattle.aig_step.specs.TraceText.{character_of}
use Rattle.aig_step.specs.Parts.Stepping.{Stepping, row_of}
use Rattle.aig_witness.specs.Parts.Witnessing.{are_ones, is_one}
use Rattle.aig_lasso.specs.Runs.{StartedRun}
use Rattle.aig_lasso.specs.declared.verdict.LassoVerdict.{LassoVerdict}
use Rattle.aig_lasso.specs.declared.verdict.LassoVerdict.TheVariants.{Confirmed, NotConfirmed}

-- whether all constraints are 1 in each of the rows
abbrev pub all_hold : List Row → Bool
all_hold [] = true
all_hold (row ∷ rows) = are_ones row.constraints && all_hold rows

abbrev pub is_same_value : Val → Val → Bool
is_same_value v w = character_of v == character_of w

abbrev pub are_same_values : List Val → List Val → Bool
are_same_values [] [] = true
are_same_values [] (w ∷ ws) = false
are_same_values (v ∷ vs) [] = false
are_same_values (v ∷ vs) (w ∷ ws) = is_same_value v w && are_same_values vs ws

-- the first step with this state, where the first of the rows has this number
abbrev pub step_from : List Val → ℕ → List Row → Option ℕ
step_from state step [] = None
step_from state step (row ∷ rows) =
    if are_same_values row.state state then Some step else step_from state (suc step) rows

-- the state behind the last row, where all constraints hold
abbrev pub last_state : List Val → List Row → Option (List Val)
last_state first rows = if all_hold rows then Some (state_after first rows) else None

-- the first step with that state
abbrev pub loop_start : List Val → List Row → Option ℕ
loop_start first rows = option_and_then (λ end. step_from end 0 rows) (last_state first rows)

-- notes of which goals were met, with those that are 1
abbrev pub notes_with : List Bool → List Val → List Bool
notes_with [] values = []
notes_with (b ∷ bs) [] = b ∷ bs
notes_with (b ∷ bs) (v ∷ vs) = (b || is_one v) ∷ notes_with bs vs

abbrev pub notes_after : List Bool → List Row → List Bool
notes_after notes [] = notes
notes_after notes (row ∷ rows) = notes_after (notes_with notes row.bad) rows

abbrev pub are_noted : List Bool → Bool
are_noted notes = list_all (λ (b : Bool). b) notes

-- whether each of so many goals is 1 in one of the rows
abbrev pub all_met : ℕ → List Row → Bool
all_met goals rows = are_noted (notes_after (replicate goals false) rows)

abbrev pub verdict_from : ℕ → List Row → Option ℕ → LassoVerdict
verdict_from goals rows None = NotConfirmed
verdict_from goals rows (Some start) = if all_met goals (drop start rows) then Confirmed start else NotConfirmed

abbrev pub verdict_by : ℕ → List Val → List Row → LassoVerdict
verdict_by goals first rows = verdict_from goals rows (loop_start first rows)

-- the rows are those of a run of this circuit, which means the same as the one that is run
pub record HasTrace (c run_by : Circuit) (run : StartedRun) (rows : List Row) : Type 0 where
  pub formed : IsWellFormed c
  pub means : MeansTheSame c run_by
  pub trace : IsTrace c run.first run.steps rows

-- the run is on, before the step of this number
pub record StandsBefore (c : Circuit) (s : Stepping) (run : StartedRun) (rows : List Row) (step : ℕ) : Type 0 where
  pub formed : IsWellFormed c
  pub means : MeansTheSame c s.circuit
  pub follow : Follow c s.state (drop step run.steps) (drop step rows)
  pub leads : state_after s.state (drop step rows) ≡ state_after run.first rows

-- the step of this number was taken: this is its row, and what is shown is that row's
pub record TookRow (c : Circuit) (s : Stepping) (run : StartedRun) (rows : List Row) (step : ℕ) : Type 0 where
  pub row : Row
  pub next : drop step rows ≡ row ∷ drop (step + 1) rows
  pub bad : (row_of s).bad ≡ row.bad
  pub constraints : (row_of s).constraints ≡ row.constraints
  pub stands : StandsBefore c s run rows (step + 1)
