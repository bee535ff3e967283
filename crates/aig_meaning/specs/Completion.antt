-- Completions: 0 or 1 for each x (the usual meaning of x). And what it is for known values to stay where more is known.
use Rattle.std.specs.Prelude.{◌≡◌, ◌⊎◌, List, ⊤}
use Rattle.std.specs.List.{AllZip}
use Rattle.aig_circuit.specs.declared.value.Val.{Val}
use Rattle.aig_circuit.specs.declared.value.Val.TheVariants.{Zero, One, X}
use Rattle.aig_meaning.specs.Meaning.{Row}

-- 0 and 1 stay, x becomes one of them
abbrev pub IsCompleted : Val → Val → Type 0
IsCompleted Zero y = y ≡ Zero
IsCompleted One y = y ≡ One
IsCompleted X y = (y ≡ Zero) ⊎ (y ≡ One)

-- A completion of a first state and a stimulus: as many vectors, of as many values, none of them x, and equal where
-- the stimulus has 0 or 1.
pub record IsCompletion (first : List Val) (vectors : List (List Val))
    (completed_first : List Val) (completed : List (List Val)) : Type 0 where
  pub first_completed : AllZip IsCompleted first completed_first
  pub vectors_completed : AllZip (AllZip IsCompleted) vectors completed

-- 0 and 1 stay; in the place of x any value may stand
abbrev pub Stays : Val → Val → Type 0
Stays Zero y = y ≡ Zero
Stays One y = y ≡ One
Stays X y = ⊤

-- wherever the row shows 0 or 1, the other one shows it too
pub record RowStays (row other : Row) : Type 0 where
  pub state : AllZip Stays row.state other.state
  pub inputs : AllZip Stays row.inputs other.inputs
  pub outputs : AllZip Stays row.outputs other.outputs
  pub next : AllZip Stays row.next other.next
  pub bad : AllZip Stays row.bad other.bad
  pub constraints : AllZip Stays row.constraints other.constraints
