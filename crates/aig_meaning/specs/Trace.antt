-- Traces: what can be seen of a circuit, step by step (the usual meaning of a circuit; resets are AIGER 1.9's).
use Rattle.std.specs.Prelude.{◌≡◌, List, [], ◌∷◌, map, ⊤}
use Rattle.std.specs.List.{AllZip}
use Rattle.aig_circuit.specs.declared.circuit.Latch.{Latch}
use Rattle.aig_circuit.specs.declared.circuit.Circuit.{Circuit}
use Rattle.aig_circuit.specs.declared.circuit.Reset.{Reset}
use Rattle.aig_circuit.specs.declared.circuit.Reset.TheVariants as resets
use Rattle.aig_circuit.specs.declared.value.Val.{Val}
use Rattle.aig_circuit.specs.declared.value.Val.TheVariants.{Zero, One, X}
use Rattle.aig_meaning.specs.Meaning.{IsRow, Row}

-- a latch may start at this value: an uninitialised one at any
abbrev pub MayStartAt : Reset → Val → Type 0
MayStartAt resets.Zero v = v ≡ Zero
MayStartAt resets.One v = v ≡ One
MayStartAt resets.Uninit v = ⊤

-- a state in which a trace may start
abbrev pub IsFirstState : Circuit → List Val → Type 0
IsFirstState c state = AllZip MayStartAt (map (λ (l : Latch). l.reset) c.latches) state

-- what is known of a latch at the start: x for an uninitialised one
abbrev pub reset_value : Reset → Val
reset_value resets.Zero = Zero
reset_value resets.One = One
reset_value resets.Uninit = X

-- the first state of a circuit where no other is named
abbrev pub reset_state : Circuit → List Val
reset_state c = map (λ (l : Latch). reset_value l.reset) c.latches

-- There is a row for each vector of inputs, in order. The first row has this state, each later one the next state of
-- the row before it.
abbrev pub Follow : Circuit → List Val → List (List Val) → List Row → Type 0
Follow c state [] [] = ⊤
Follow c state [] (row ∷ rows) = ⊥
Follow c state (vector ∷ vectors) [] = ⊥
Follow c state (vector ∷ vectors) (row ∷ rows) =
    (row.state ≡ state) × (row.inputs ≡ vector) × IsRow c row × Follow c row.next vectors rows

-- the rows are the circuit's trace of these vectors of inputs, from this first state
abbrev pub IsTrace : Circuit → List Val → List (List Val) → List Row → Type 0
IsTrace c first vectors rows = IsFirstState c first × Follow c first vectors rows

-- the state that comes after the rows: the next state of the last one, and this state where there is none
abbrev pub state_after : List Val → List Row → List Val
state_after state [] = state
state_after state (row ∷ rows) = state_after row.next rows
