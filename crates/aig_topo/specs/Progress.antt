-- How far an order of gates has come.
use Rattle.std.specs.Prelude.{ℕ, ◌≡◌, ◌≢◌, ◌==◌, ◌+◌, ◌*◌, ◌<◌, ◌≤◌, List, Bool, length, take, refl, slice_index}
use Rattle.std.specs.List.{AllByRecursion, list_any, sum}
use Rattle.std.specs.Coded.{Coded, code_by, coded×, coded_ℕ, coded_list}
use Rattle.aig_circuit.specs.declared.circuit.TheConstants.{LARGEST}
use Rattle.aig_circuit.specs.Wellformed.{AreDistinct}
use Rattle.aig_tables.specs.Parts.Marks.{is_marked}

-- the gates that are taken, how many operands each gate waits for, and how many steps were made
pub record Progress : Type 0 where
  pub list : List ℕ
  pub waiting : List ℕ
  pub steps : ℕ

abbrev pub progress_code : Coded Progress
progress_code =
    code_by (List ℕ × (List ℕ × ℕ)) (coded× (coded_list coded_ℕ) (coded× (coded_list coded_ℕ) coded_ℕ))
    (λ p. (p.list, (p.waiting, p.steps)))
    (λ p. record { list = p.0; waiting = p.1.0; steps = p.1.1 }) (λ _. refl)

-- whether a list has the gate
abbrev pub has_gate : List ℕ → ℕ → Bool
has_gate list gate = list_any (λ g. g == gate) list

-- There is room for each gate, none is taken twice, and the marks tell which are. At most two operands of each gate
-- were counted down.
pub record IsCounted (positions : List ℕ) (taken : ℕ) (marks waiting : List ℕ) (counted : ℕ) : Type 0 where
  pub room : length positions ≡ length waiting
  pub marked : length waiting ≤ 64 * length marks
  pub few : length waiting ≤ LARGEST
  pub within : taken ≤ length positions
  pub once : AreDistinct (take taken positions)
  pub below : AllByRecursion (λ g. g < length waiting) (take taken positions)
  pub told : (g : ℕ) → is_marked marks g ≡ has_gate (take taken positions) g
  pub paid : counted + sum waiting ≤ 2 * length waiting

-- the steps that were made, and one for each operand that is waited for
abbrev pub due : Progress → ℕ
due p = p.steps + sum p.waiting

-- operands of gates were counted down
pub record CountsDown (old new : Progress) : Type 0 where
  pub list : new.list ≡ old.list
  pub as_many : length new.waiting ≡ length old.waiting
  pub paid : due new ≡ due old

-- operands of one gate alone
pub record CountsFor (gate : ℕ) (old new : Progress) : Type 0 where
  pub down : CountsDown old new
  pub others : (u : ℕ) → u ≢ gate → slice_index new.waiting u ≡ slice_index old.waiting u
