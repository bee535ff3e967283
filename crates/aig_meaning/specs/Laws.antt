-- What the definitions of this crate say of one another.
use Rattle.std.specs.Prelude.{◌≡◌, ◌↔◌, ℕ, List, [], ◌∷◌, ◌++◌, length}
use Rattle.std.specs.List.{AllZip, AllByRecursion}
use Rattle.aig_circuit.specs.declared.circuit.Circuit.{Circuit}
use Rattle.aig_circuit.specs.declared.value.Val.{Val}
use Rattle.aig_circuit.specs.Wellformed.{IsAmong, IsWellFormed, defined_variables}
use Rattle.aig_meaning.specs.Meaning.{IsRow, IsStepAssignment, MeansTheSame, Row}
use Rattle.aig_meaning.specs.Trace.{IsFirstState, IsTrace, reset_state, state_after}
use Rattle.aig_meaning.specs.Completion.{IsCompletion, RowStays, Stays}

-- A well-formed circuit has exactly one step assignment for each state and each vector of inputs: there is one, and no
-- other has another value for a variable that the circuit defines.
abbrev pub OneStepAssignment : Type 0
OneStepAssignment = (c : Circuit) (state given : List Val) → IsWellFormed c
    → length state ≡ length c.latches → length given ≡ length c.inputs
    → (a : ℕ → Val) × IsStepAssignment c state given a
    × ((b : ℕ → Val) → IsStepAssignment c state given b → (v : ℕ) → IsAmong v (defined_variables c) → b v ≡ a v)

-- so it has exactly one row
abbrev pub OneRow : Type 0
OneRow = (c : Circuit) (state given : List Val) → IsWellFormed c
    → length state ≡ length c.latches → length given ≡ length c.inputs
    → (row : Row) × (row.state ≡ state) × (row.inputs ≡ given) × IsRow c row
    × ((other : Row) → other.state ≡ state → other.inputs ≡ given → IsRow c other → other ≡ row)

-- and exactly one trace of each list of vectors, from each first state
abbrev pub OneTrace : Type 0
OneTrace = (c : Circuit) (first : List Val) (vectors : List (List Val)) → IsWellFormed c → IsFirstState c first
    → AllByRecursion (λ (vector : List Val). length vector ≡ length c.inputs) vectors
    → (rows : List Row) × IsTrace c first vectors rows
    × ((others : List Row) → IsTrace c first vectors others → others ≡ rows)

-- a trace may start in the state by the resets, x where a latch is uninitialised
abbrev pub ResetStateIsFirst : Type 0
ResetStateIsFirst = (c : Circuit) → IsFirstState c (reset_state c)

-- a trace goes on by any row from the state in which it ended
abbrev pub TraceGoesOn : Type 0
TraceGoesOn = (c : Circuit) (first : List Val) (vectors : List (List Val)) (rows : List Row) (row : Row)
    → IsTrace c first vectors rows → row.state ≡ state_after first rows → IsRow c row
    → IsTrace c first (vectors ++ (row.inputs ∷ [])) (rows ++ (row ∷ []))

-- circuits that mean the same have the same traces
abbrev pub SameMeaningSameTraces : Type 0
SameMeaningSameTraces = (c d : Circuit) → MeansTheSame c d
    → (first : List Val) (vectors : List (List Val)) (rows : List Row)
    → IsTrace c first vectors rows ↔ IsTrace d first vectors rows

-- where more is known of the first state and the stimulus, all that was known before stays
abbrev pub KnownValuesStay : Type 0
KnownValuesStay = (c : Circuit) (first known_first : List Val) (vectors known : List (List Val))
    (rows others : List Row) → IsWellFormed c
    → AllZip Stays first known_first → AllZip (AllZip Stays) vectors known
    → IsTrace c first vectors rows → IsTrace c known_first known others → AllZip RowStays rows others

-- wherever a trace shows 0 or 1, the trace of each completion shows it too
abbrev pub CompletionsKeepKnownValues : Type 0
CompletionsKeepKnownValues = (c : Circuit) (first completed_first : List Val) (vectors completed : List (List Val))
    (rows others : List Row) → IsWellFormed c → IsCompletion first vectors completed_first completed
    → IsTrace c first vectors rows → IsTrace c completed_first completed others → AllZip RowStays rows others
