-- The set of the gates that may be taken: the least one, and a tree of words with the others, 64 bits each. Below bit b
-- stands word b + 1, so the levels follow each other from the top, and the bits of the lowest level are the gates.
use Rattle.std.specs.Prelude.{ℕ, zero, suc, ◌≡◌, ◌+◌, ◌-◌, ◌*◌, ◌<◌, ◌≤◌, ◌^◌, List, Bool, ◌==◌, ◌||◌, length}
use Rattle.std.specs.Prelude.{nat_lt, true, false, Option, None, Some, slice_index, refl}
use Rattle.std.specs.Coded.{Coded, code_by, coded×, coded_ℕ, coded_list, coded_option}
use Rattle.aig_tables.specs.Parts.Marks.{is_marked}

-- the least gate, the words of the tree of the others, and the bit of its first gate
pub record Tree : Type 0 where
  pub least : Option ℕ
  pub words : List ℕ
  pub first : ℕ

abbrev pub tree_code : Coded Tree
tree_code = code_by (Option ℕ × (List ℕ × ℕ)) (coded× (coded_option coded_ℕ) (coded× (coded_list coded_ℕ) coded_ℕ))
    (λ t. (t.least, (t.words, t.first))) (λ p. record { least = p.0; words = p.1.0; first = p.1.1 }) (λ _. refl)

-- the first bit below so many levels
unfoldable pub first_bit : ℕ → ℕ
first_bit zero = 0
first_bit (suc levels) = 64 * first_bit levels + 64

-- a bit tells whether the word below it has any
abbrev pub Tells : List ℕ → ℕ → Type 0
Tells words bit = is_marked words bit ≡ nat_lt 0 (slice_index words (bit + 1))

-- each bit above the gates tells of the word below it
pub record IsTree (words : List ℕ) (first : ℕ) (levels : ℕ) : Type 0 where
  pub first_is : first ≡ first_bit levels
  pub some : 0 < length words
  pub within : length words ≤ first + 1
  pub few : first + 64 * length words ≤ 2 ^ 40
  pub fit : 64 * length words ≤ first + 2 ^ 32
  pub told : (bit : ℕ) → bit < first → Tells words bit

-- whether the tree has the gate
abbrev pub is_in_tree : List ℕ → ℕ → ℕ → Bool
is_in_tree words first gate = is_marked words (first + gate)

-- whether it is the gate that stands apart
abbrev pub is_least : Option ℕ → ℕ → Bool
is_least None gate = false
is_least (Some least) gate = gate == least

-- where no gate stands apart the tree has none, and otherwise it has later ones alone, and a bit for that one
abbrev pub IsBefore : Option ℕ → List ℕ → ℕ → Type 0
IsBefore None words first = (gate : ℕ) → is_in_tree words first gate ≡ false
IsBefore (Some least) words first =
    (first + least < 64 * length words) × ((gate : ℕ) → is_in_tree words first gate ≡ true → least < gate)

-- a tree, and the least gate before it
pub record IsReady (least : Option ℕ) (words : List ℕ) (first : ℕ) (levels : ℕ) : Type 0 where
  pub tree : IsTree words first levels
  pub before : IsBefore least words first

-- whether the set has the gate
unfoldable pub has : Tree → ℕ → Bool
has ready gate = is_least ready.least gate || is_in_tree ready.words ready.first gate

-- how many gates there are bits for
abbrev pub room : Tree → ℕ
room ready = 64 * length ready.words - ready.first
