-- How what a function of the reader returned is compared with what is read: seen by a view, and unless memory was
-- refused.
use Rattle.std.specs.Prelude.{◌≡◌, ◌+◌, ◌*◌, ◌≤◌, ◌⊎◌, ℕ, List, slice_index, Option, None, Some, Result, Ok}
use Rattle.std.specs.Prelude.{Err, get_or, ⊤}
use Rattle.aig_rows.specs.declared.row.Role.TheVariants as roles
use Rattle.aig_rows.specs.Rows.{Role, Form}
use Rattle.aig_fault.specs.declared.stopped.Stopped.{Stopped}
use Rattle.aig_fault.specs.declared.stopped.Stopped.TheVariants.{OutOfMemory, Refused}
use Rattle.aig_rows.specs.Reading.{Found}

-- What a function returned, seen by view, is what reading gives.
abbrev pub Gives : {X Y : Type 0} → (X → Y) → Option X → Option Y → Type 0
Gives view None read = read ≡ None
Gives view (Some x) read = read ≡ Some (view x)

-- The same, where reading may fail.
abbrev pub GivesOrFails : {X Y E : Type 0} → (X → Y) → Result X E → Result Y E → Type 0
GivesOrFails view (Ok x) read = read ≡ Ok (view x)
GivesOrFails view (Err e) read = read ≡ Err e

-- The same, unless memory was refused.
abbrev pub GivesOrMemory : {X Y : Type 0} → (X → Y) → Result X Stopped → Result Y Stopped → Type 0
GivesOrMemory view (Ok x) read = read ≡ Ok (view x)
GivesOrMemory view (Err e) read = (e ≡ OutOfMemory) ⊎ (read ≡ Err e)

-- something is read, or the input is refused: memory and devices are none of it
abbrev pub IsRefusal : Stopped → Type 0
IsRefusal (Refused fault) = ⊤
IsRefusal stopped = ⊥

abbrev pub IsReadOrRefused : {X : Type 0} → Result X Stopped → Type 0
IsReadOrRefused (Ok x) = ⊤
IsReadOrRefused (Err stopped) = IsRefusal stopped

-- what the next row means, and what is ahead after it
abbrev pub row_meant : {A : Type 0} → (List ℕ → A) → Found (List ℕ) → Found A
row_meant tell (Ok x) = Ok (tell x.0, x.1)
row_meant tell (Err e) = Err e

-- a number is not above the largest literal, unless it is a reset
abbrev pub IsBounded : ℕ → Role → ℕ → Type 0
IsBounded bound roles.Definition n = n ≤ 2 * bound + 1
IsBounded bound roles.Literal n = n ≤ 2 * bound + 1
IsBounded bound roles.Reset n = ⊤
IsBounded bound roles.Size n = n ≤ 2 * bound + 1

-- no number of a row is above the largest literal, unless it is a reset, also where a number is left out
abbrev pub AreBounded : Form → ℕ → ℕ → List ℕ → Type 0
AreBounded form bound first others =
    IsBounded bound form.first first
    × ((k : ℕ) → IsBounded bound (get_or form.others k roles.Reset) (slice_index others k))
