-- What each entry of a section is to its row: one record of facts for each kind.
use Rattle.std.proofs.Common.{rules}
use Rattle.std.proofs.Common.{◌≡◌, ℕ, suc, ◌+◌, ◌*◌, ◌<◌, ◌≤◌, ◌/◌, ◌%◌, List, [], ◌∷◌, map, get_or, refl, ap}
use Rattle.std.proofs.Common.{ap₂, sym, arith, ◌⊎◌, inl, inr, ◌++◌}
use Rattle.std.specs.List.{AllByRecursion, AllZip, sum}
use Rattle.std.proofs.lemmas.Bool.{ne_eqb}
use Rattle.aig_circuit.specs.declared.circuit.Reset.{Reset}
use Rattle.aig_circuit.specs.declared.circuit.Reset.TheVariants as resets
use Rattle.aig_circuit.specs.declared.circuit.Latch.{Latch}
use Rattle.aig_circuit.specs.declared.circuit.Gate.{Gate}
use Rattle.aig_circuit.specs.Wellformed.{IsVariableUpTo, operands}
use Rattle.aig_circuit.specs.Form.{AreInRange}
pub use Rattle.aig_circuit.specs.Form.{IsLiteralUpTo}
use Rattle.std.proofs.lemmas.List.Sums.{sum_by-cons}
use Rattle.aig_rows.specs.declared.row.Role.TheVariants as roles
use Rattle.aig_rows.specs.Rows.{Role, Form, roles_of, input_form, latch_form, literal_form, size_form, gate_form}
use Rattle.aig_rows.specs.Rows.{reset_number, reset_of, input_row, latch_row, literal_row, size_row, gate_row, input_of}
use Rattle.aig_rows.specs.Rows.{latch_of, literal_in, size_of, gate_of, row}
use Rattle.aig_rows.specs.Reading.{own_literal, carried_on}

pub zips_joined : {A B : Type 0} (R : A → B → Type 0) (us vs : List A) (ys zs : List B) → AllZip R us ys
    → AllZip R vs zs → AllZip R (us ++ vs) (ys ++ zs)
zips_joined R [] vs [] zs g h = h
zips_joined R (u ∷ us) vs (y ∷ ys) zs g h = (g.0, zips_joined R us vs ys zs g.1 h)
zips_joined R us vs ys zs g h = absurd g

-- a literal that may stand where a variable of this circuit is defined
pub record IsDefinition (max_var n : ℕ) : Type 0 where
  pub even : n % 2 ≡ 0
  pub no_constant : 2 ≤ n
  pub within : n ≤ 2 * max_var + 1

-- a number that may stand in its role, in a row for the variable with this own literal, beside what is carried
abbrev pub MayStand : ℕ → ℕ → ℕ → Role → ℕ → Type 0
MayStand bound carried own roles.Definition n = IsDefinition bound n
MayStand bound carried own roles.Literal n = IsLiteralUpTo bound n
MayStand bound carried own roles.Reset n = (n < 2) ⊎ (n ≡ own)
MayStand bound carried own roles.Size n = carried + n ≤ bound

-- a row that may stand in a section, beside what is carried
abbrev pub IsGoodRow : Form → ℕ → ℕ → List ℕ → Type 0
IsGoodRow form bound carried ns =
    AllZip (MayStand bound carried (own_literal form.first carried (get_or ns 0 0))) (roles_of form) ns

-- rows that may stand in a section one after the other
abbrev pub AreGoodRows : Form → ℕ → ℕ → List (List ℕ) → Type 0
AreGoodRows form bound carried [] = Unit {0}
AreGoodRows form bound carried (ns ∷ rows) =
    IsGoodRow form bound carried ns × AreGoodRows form bound (carried_on form.first carried (get_or ns 0 0)) rows

-- an entry and its row: each tells the other, and the one may stand in a circuit where the other may stand in a file
pub record IsEntry {X : Type 0} (form : Form) (row : X → List ℕ) (found : List ℕ → X)
    (IsUpTo : ℕ → X → Type 0) : Type 0 where
  pub again : (m : ℕ) (x : X) → IsUpTo m x → found (row x) ≡ x
  pub back : (m k : ℕ) (ns : List ℕ) → IsGoodRow form m k ns → (row (found ns) ≡ ns) × IsUpTo m (found ns)

-- the row of an entry may stand in a file, whatever is carried
abbrev pub HasGoodRow : {X : Type 0} → Form → (X → List ℕ) → (ℕ → X → Type 0) → Type 0
HasGoodRow {X} form row IsUpTo = (m k : ℕ) (x : X) → IsUpTo m x → IsGoodRow form m k (row x)

-- what an entry defines and uses is in range
abbrev pub IsInputUpTo : ℕ → ℕ → Type 0
IsInputUpTo m v = AreInRange m (v ∷ []) []

abbrev pub IsLatchUpTo : ℕ → Latch → Type 0
IsLatchUpTo m l = AreInRange m (l.var ∷ []) (l.next ∷ [])

abbrev pub IsSizeUpTo : ℕ → ℕ → Type 0
IsSizeUpTo m n = n ≤ m

abbrev pub IsGateUpTo : ℕ → Gate → Type 0
IsGateUpTo m g = AreInRange m (g.var ∷ []) (operands g)

twice_half : (n : ℕ) → n % 2 ≡ 0 → 2 * (n / 2) ≡ n
twice_half n even = omega arith

half_of_twice : (v : ℕ) → 2 * v / 2 ≡ v
half_of_twice v = omega arith

definition : (m v : ℕ) → IsVariableUpTo m v → IsDefinition m (2 * v)
definition m v h = search rules

variable_up_to : (m n : ℕ) → IsDefinition m n → IsVariableUpTo m (n / 2)
variable_up_to m n h = search rules

input_back : (m k : ℕ) (ns : List ℕ) → IsGoodRow input_form m k ns
    → (input_row (input_of ns) ≡ ns) × IsInputUpTo m (input_of ns)
input_back m k [] g = absurd g
input_back m k (n ∷ []) g = (ap (λ (k : ℕ). k ∷ []) (twice_half n g.0.even), ((variable_up_to m n g.0, tt), tt))
input_back m k (n ∷ o ∷ ns) g = absurd g.1

pub input_entry : IsEntry input_form input_row input_of IsInputUpTo
input_entry = record { again = λ m v h. half_of_twice v; back = input_back }

pub good_input : HasGoodRow input_form input_row IsInputUpTo
good_input m k v h = (definition m v h.0.0, tt)

-- a reset and its number
pub reset_told : (own : ℕ) (reset : Reset) → 2 ≤ own → reset_of (reset_number own reset) ≡ reset
reset_told own resets.Uninit low = rw (ne_eqb own 0 (λ e. omega arith), ne_eqb own 1 (λ e. omega arith)) refl
reset_told own r low = refl

pub reset_again : (own n : ℕ) → (n < 2) ⊎ (n ≡ own) → reset_number own (reset_of n) ≡ n
reset_again own (suc (suc n)) (inl small) = absurd (omega arith)
reset_again own (suc (suc n)) (inr same) =
    rw (ne_eqb (suc (suc n)) 0 (λ e. omega arith), ne_eqb (suc (suc n)) 1 (λ e. omega arith)) (sym same)
reset_again own n h = refl

pub good_reset : (own : ℕ) (reset : Reset) → (reset_number own reset < 2) ⊎ (reset_number own reset ≡ own)
good_reset own resets.Uninit = inr refl
good_reset own r = inl (omega arith)

latch_told : (m : ℕ) (l : Latch) → IsLatchUpTo m l → latch_of (latch_row l) ≡ l
latch_told m l h = search (rules, half_of_twice, reset_told)

latch_back : (m k : ℕ) (ns : List ℕ) → IsGoodRow latch_form m k ns
    → (latch_row (latch_of ns) ≡ ns) × IsLatchUpTo m (latch_of ns)
latch_back m k [] g = absurd g
latch_back m k (n ∷ []) g = absurd g.1
latch_back m k (n ∷ o ∷ []) g = absurd g.1.1
latch_back m k (n ∷ o ∷ r ∷ []) g = (
  search (rules, twice_half, reset_again),
  ((variable_up_to m n g.0, tt), (g.1.0, tt)),
)
latch_back m k (n ∷ o ∷ r ∷ p ∷ ns) g = absurd g.1.1.1

pub latch_entry : IsEntry latch_form latch_row latch_of IsLatchUpTo
latch_entry = record { again = latch_told; back = latch_back }

pub good_latch : HasGoodRow latch_form latch_row IsLatchUpTo
good_latch m k l h = (definition m l.var h.0.0, (h.1.0, (good_reset (2 * l.var) l.reset, tt)))

literal_back : (m k : ℕ) (ns : List ℕ) → IsGoodRow literal_form m k ns
    → (literal_row (literal_in ns) ≡ ns) × IsLiteralUpTo m (literal_in ns)
literal_back m k [] g = absurd g
literal_back m k (n ∷ []) g = (refl, g.0)
literal_back m k (n ∷ o ∷ ns) g = absurd g.1

pub literal_entry : IsEntry literal_form literal_row literal_in IsLiteralUpTo
literal_entry = record { again = λ m n h. refl; back = literal_back }

pub good_literal : HasGoodRow literal_form literal_row IsLiteralUpTo
good_literal m k n h = (h, tt)

size_back : (m k : ℕ) (ns : List ℕ) → IsGoodRow size_form m k ns
    → (size_row (size_of ns) ≡ ns) × IsSizeUpTo m (size_of ns)
size_back m k [] g = absurd g
size_back m k (n ∷ []) g = (refl, omega (arith, g.0))
size_back m k (n ∷ o ∷ ns) g = absurd g.1

pub size_entry : IsEntry size_form size_row size_of IsSizeUpTo
size_entry = record { again = λ m n h. refl; back = size_back }

-- the rows of sizes may stand in a file where the sum of them all is within the limit
pub good_sizes : (m before : ℕ) (sizes : List ℕ) → before + sum sizes ≤ m
    → AreGoodRows size_form m before (map size_row sizes)
good_sizes m before [] h = tt
good_sizes m before (n ∷ ns) h =
    let whole : sum (n ∷ ns) ≡ n + sum ns = sum_by-cons (λ (k : ℕ). k) n ns in
    ((omega arith, tt), good_sizes m (before + n) ns (omega arith))

pub sizes_within : (m before : ℕ) (rows : List (List ℕ)) → before ≤ m → AreGoodRows size_form m before rows
    → before + sum (map size_of rows) ≤ m
sizes_within m before [] low good = omega arith
sizes_within m before ([] ∷ rows) low good = absurd good.0
sizes_within m before ((n ∷ ns) ∷ rows) low good =
    let whole = sum_by-cons (λ (k : ℕ). k) n (map size_of rows) in
    let rest : before + n + sum (map size_of rows) ≤ m = sizes_within m (before + n) rows good.0.0 good.1 in
    omega arith

gate_back : (m k : ℕ) (ns : List ℕ) → IsGoodRow gate_form m k ns
    → (gate_row (gate_of ns) ≡ ns) × IsGateUpTo m (gate_of ns)
gate_back m k [] g = absurd g
gate_back m k (n ∷ []) g = absurd g.1
gate_back m k (n ∷ o ∷ []) g = absurd g.1.1
gate_back m k (n ∷ o ∷ p ∷ []) g = (
  ap (λ (k : ℕ). k ∷ o ∷ p ∷ []) (twice_half n g.0.even),
  ((variable_up_to m n g.0, tt), (g.1.0, (g.1.1.0, tt))),
)
gate_back m k (n ∷ o ∷ p ∷ q ∷ ns) g = absurd g.1.1.1

pub gate_entry : IsEntry gate_form gate_row gate_of IsGateUpTo
gate_entry = search (rules, half_of_twice, gate_back)

pub good_gate : HasGoodRow gate_form gate_row IsGateUpTo
good_gate m k g h = (definition m g.var h.0.0, (h.1.0, (h.1.1.0, tt)))

-- the same of lists
pub all_again : {X : Type 0} (P : X → Type 0) (row : X → List ℕ) (found : List ℕ → X)
    → ((x : X) → P x → found (row x) ≡ x) → (xs : List X) → AllByRecursion P xs → map found (map row xs) ≡ xs
all_again P row found again [] h = refl
all_again P row found again (x ∷ xs) h =
    ap₂ (λ (y : _) (ys : List _). y ∷ ys) (again x h.0) (all_again P row found again xs h.1)

pub entries_back : {X : Type 0} (form : Form) (row : X → List ℕ) (found : List ℕ → X) (IsUpTo : ℕ → X → Type 0)
    → IsEntry form row found IsUpTo → (m carried : ℕ) (rows : List (List ℕ)) → AreGoodRows form m carried rows
    → (map row (map found rows) ≡ rows) × AllByRecursion (IsUpTo m) (map found rows)
entries_back form row found IsUpTo entry m carried [] good = (refl, tt)
entries_back form row found IsUpTo entry m carried (ns ∷ rows) good =
    let here = entry.back m carried ns good.0 in
    let next : ℕ = carried_on form.first carried (get_or ns 0 0) in
    let later = entries_back form row found IsUpTo entry m next rows good.1 in
    (ap₂ (λ (os : List ℕ) (oss : List (List ℕ)). os ∷ oss) here.0 later.0, (here.1, later.1))

pub all_mapped : {X Y : Type 0} (P : X → Type 0) (Q : Y → Type 0) (f : X → Y) → ((x : X) → P x → Q (f x))
    → (xs : List X) → AllByRecursion P xs → AllByRecursion Q (map f xs)
all_mapped P Q f h [] all = tt
all_mapped P Q f h (x ∷ xs) all = (h x all.0, all_mapped P Q f h xs all.1)

-- the rows of entries may stand in a file
pub all_good : {X : Type 0} (form : Form) (row : X → List ℕ) (IsUpTo : ℕ → X → Type 0) → HasGoodRow form row IsUpTo
    → (m k : ℕ) (xs : List X) → AllByRecursion (IsUpTo m) xs → AreGoodRows form m k (map row xs)
all_good form row IsUpTo good m k [] h = tt
all_good form row IsUpTo good m k (x ∷ xs) h =
    (good m k x h.0, all_good form row IsUpTo good m (carried_on form.first k (get_or (row x) 0 0)) xs h.1)
