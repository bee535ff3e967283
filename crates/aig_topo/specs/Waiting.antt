-- How a search for the least ready order stands, where each gate that is left waits in the list of a gate that it
-- needs.
use Rattle.std.specs.Prelude.{ℕ, suc, ◌≡◌, ◌≢◌, ◌+◌, ◌<◌, ◌≤◌, ◌⊎◌, List, [], ◌∷◌, true, false, Option, None, Some}
use Rattle.std.specs.Prelude.{length, map, slice_index, slice_index_or}
use Rattle.std.specs.List.{sum}
use Rattle.aig_circuit.specs.declared.circuit.TheConstants.{LARGEST}
use Rattle.aig_topo.specs.declared.lists.GateNode.{GateNode}
use Rattle.aig_topo.specs.declared.operands.Needs.{Needs}
use Rattle.aig_topo.specs.declared.least_ready.taking.Search.{Search}
use Rattle.aig_circuit.specs.Wellformed.{IsAmong}
use Rattle.aig_topo.specs.Order.{left_over, TakesLeast}
use Rattle.aig_topo.specs.Needs.{linked, needs_at, no_needs, how_many, AreThere}
use Rattle.aig_topo.specs.Lists.{Link, needs_in, links_in, list_of, list_in, AreLists}
use Rattle.aig_topo.specs.Progress.{due}
use Rattle.aig_topo.specs.Ready.{has, room}

-- what the gate of a position needs, by its row, if it was not looked at
abbrev pub needs_by : List GateNode → ℕ → List ℕ
needs_by rows = needs_at (needs_in rows)

-- what a gate that waits needs beside the one that it waits for, by its row
abbrev pub rest_by : List GateNode → ℕ → List ℕ
rest_by rows gate = linked (slice_index_or (needs_in rows) gate no_needs).right

-- a list has all that another one has
abbrev pub HasAll : (list more : List ℕ) → Type 0
HasAll list more = (g : ℕ) → IsAmong g list → IsAmong g more

-- once all of this list are listed, as many of some gates are left over as of others
abbrev pub Suffices : (list needs asked : List ℕ) → Type 0
Suffices list needs asked = (more : List ℕ) → HasAll list more → left_over more needs ≡ left_over more asked

-- no gate is in two lists
abbrev pub AreApart : List Link → Type 0
AreApart links = (m n u : ℕ) → IsAmong u (list_of links m) → IsAmong u (list_of links n) → m ≡ n

-- there is a row, a count and a bit for each gate
pub record IsRoomy (gates : ℕ) (rows : List GateNode) (counts bits : ℕ) : Type 0 where
  pub few : gates ≤ LARGEST
  pub many : length rows ≡ gates
  pub there : AreThere (needs_in rows)
  pub counted : counts ≡ gates
  pub ready : gates ≤ bits
  pub lists : AreLists (links_in rows)
  pub apart : AreApart (links_in rows)

-- a gate that was looked at waits for nothing: all that it needs is listed, and was counted
pub record IsServed (seen gate : ℕ) (list needs : List ℕ) (count : ℕ) : Type 0 where
  pub below : gate < seen
  pub none : left_over list needs ≡ 0
  pub counted : count ≡ 0

-- a gate that was looked at waits for one, and counts it and the rest of what it needs beside what is listed
pub record WaitsFor (gate_needed seen gate : ℕ) (list needs rest : List ℕ) (count : ℕ) : Type 0 where
  pub below : gate < seen
  pub enough : Suffices list needs (gate_needed ∷ rest)
  pub counted : count ≡ suc (length rest)

-- Gates that need all this are searched, and those that were looked at are listed, or ready, or wait in the list of a
-- gate that they need; but for one that is taken out. Of a gate that waits the row has the rest of what it needs; of
-- one that was not looked at, all that it needs. Each listed gate is one step, and so is each operand that was counted.
pub record RowsWait (all : List Needs) (out : Option ℕ) (s : Search) : Type 0 where
  pub room : IsRoomy (length all) s.lists.rows.items (length s.order.waiting) (room s.ready)
  pub within : s.seen ≤ length all
  pub in_turn : TakesLeast (length all) (needs_at all) [] s.order.list
  pub paid : due s.order ≡ length s.order.list + sum (map how_many all)
  pub listed : (u : ℕ) → IsAmong u s.order.list
      → IsServed s.seen u s.order.list (needs_at all u) (slice_index s.order.waiting u)
  pub ready : (u : ℕ) → has s.ready u ≡ true
      → IsServed s.seen u s.order.list (needs_at all u) (slice_index s.order.waiting u) × (¬ IsAmong u s.order.list)
  pub waits : (m u : ℕ) → IsAmong u (list_in s.lists.rows.items m)
      → WaitsFor m s.seen u s.order.list (needs_at all u) (rest_by s.lists.rows.items u) (slice_index s.order.waiting u)
  pub each : (u : ℕ) → u < s.seen → IsAmong u s.order.list ⊎ (has s.ready u ≡ true)
      ⊎ ((m : ℕ) × IsAmong u (list_in s.lists.rows.items m)) ⊎ (out ≡ Some u)
  pub taken_out : (u : ℕ) → out ≡ Some u → (u < s.seen) × (¬ IsAmong u s.order.list) × (has s.ready u ≡ false)
      × ((m : ℕ) → ¬ IsAmong u (list_in s.lists.rows.items m))
  pub unasked : (u : ℕ) → s.seen ≤ u
      → (needs_by s.lists.rows.items u ≡ needs_at all u) × (slice_index s.order.waiting u ≡ length (needs_at all u))

-- none is taken out, and none waits for a listed gate, but for one that is being served
pub record Stands (all : List Needs) (served : Option ℕ) (s : Search) : Type 0 where
  pub waits : RowsWait all None s
  pub lacks : (m u : ℕ) → served ≢ Some m → IsAmong u (list_in s.lists.rows.items m) → ¬ IsAmong m s.order.list
