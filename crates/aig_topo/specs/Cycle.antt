-- The search for a gate that depends on a cycle, depth first.
use Rattle.std.specs.Prelude.{ℕ, zero, suc, ◌≡◌, ◌≢◌, ◌==◌, ◌+◌, ◌-◌, ◌<◌, ◌≤◌, List, [], ◌++◌, Bool, true, false}
use Rattle.std.specs.Prelude.{Option, Some, None, map, length, slice_index, slice_index_or, nat_lt, cond}
use Rattle.std.specs.List.{count_by, list_all}
use Rattle.std.specs.Option.{option_to_list, unwrap_or}
use Rattle.aig_circuit.specs.declared.circuit.Gate.{Gate}
use Rattle.aig_topo.specs.declared.cycle.Pair.{Pair}
use Rattle.aig_topo.specs.declared.cycle.Search.{Search}
use Rattle.aig_circuit.specs.Literal.{variable_of}
use Rattle.aig_circuit.specs.Wellformed.{IsAmong}
use Rattle.aig_topo.specs.Order.{gate_of}

-- the position of the gate that an operand is over, or the number of gates where it is over none
abbrev pub place_of : List Gate → ℕ → ℕ
place_of gates literal = unwrap_or (gate_of gates (variable_of literal)) (length gates)

abbrev pub pair_of : List Gate → Gate → Pair
pair_of gates g = record { left = place_of gates g.left; right = place_of gates g.right }

-- a place that is a gate's, of so many gates
abbrev pub gate_at : ℕ → ℕ → Option ℕ
gate_at count place = cond (nat_lt place count) (Some place) None

-- the gates of a pair, the left operand's first
abbrev pub over_pair : ℕ → Pair → List ℕ
over_pair count p = option_to_list (gate_at count p.left) ++ option_to_list (gate_at count p.right)

-- the same, by the gate's position
abbrev pub needs_in : List Pair → ℕ → List ℕ
needs_in pairs gate = slice_index_or (map (over_pair (length pairs)) pairs) gate []

-- the pair of a gate; past the last gate it does not matter
abbrev pub pair_at : List Pair → ℕ → Pair
pair_at pairs gate = slice_index_or pairs gate (record { left = 0; right = 0 })

-- where gates need these, following what they need comes to an end within so many
unfoldable pub comes_to_end : ℕ → (ℕ → List ℕ) → ℕ → Bool
comes_to_end zero needs gate = false
comes_to_end (suc n) needs gate = list_all (comes_to_end n needs) (needs gate)

-- how many are done
abbrev pub how_many_done : List ℕ → ℕ
how_many_done states = count_by (λ s. s == 2) states

-- How far a search has come, of so many gates that need these. The state of a gate is 0 where it was not looked at yet,
-- 1 on the way, and 2 where it is done, so that following what it needs comes to an end. Behind the last gate's state
-- is that of no gate, which is done. Each gate on the way needs the next one.
pub record IsSearching (count : ℕ) (needs : ℕ → List ℕ) (states way : List ℕ) : Type 0 where
  pub as_many : length states ≡ count + 1
  pub none : slice_index states count ≡ 2
  pub small : (g : ℕ) → slice_index states g ≤ 2
  pub met : (i : ℕ) → i < length way → slice_index states (slice_index way i) ≡ 1
  pub apart : (i j : ℕ) → i < j → j < length way → slice_index way i ≢ slice_index way j
  pub uses : (i : ℕ) → i + 1 < length way → IsAmong (slice_index way (i + 1)) (needs (slice_index way i))
  pub on_way : (g : ℕ) → slice_index states g ≡ 1 → (i : ℕ) × (i < length way) × (slice_index way i ≡ g)
  pub ended : (g : ℕ) → g < count → slice_index states g ≡ 2 → comes_to_end (how_many_done states) needs g ≡ true

-- each place of a pair is a gate's or that of no gate
abbrev pub AreWithin : List Pair → Type 0
AreWithin pairs = (g : ℕ) → ((pair_at pairs g).left ≤ length pairs) × ((pair_at pairs g).right ≤ length pairs)

pub record IsSearch (search : Search) : Type 0 where
  pub within : AreWithin search.operands.items
  pub searching : IsSearching (length search.operands.items) (needs_in search.operands.items) search.states.items
      search.way.items

-- the last one of a way
pub record IsAtEnd (way : List ℕ) (gate : ℕ) : Type 0 where
  pub some : 0 < length way
  pub last : slice_index way (length way - 1) ≡ gate

-- nothing that is known of a gate is forgotten
abbrev pub IsRisen : List ℕ → List ℕ → Type 0
IsRisen old new = (g : ℕ) → slice_index old g ≤ slice_index new g
