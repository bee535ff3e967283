-- Gates that are looked up by their operands: the places of those with the same mark are a chain.
use Rattle.std.specs.Prelude.{◌≡◌, ◌+◌, ◌-◌, ◌*◌, ◌/◌, ◌%◌, ◌^◌, ◌<◌, ◌≤◌, ℕ, suc, List, length, slice_index_or}
use Rattle.std.specs.Int.Bits.{bit_and, bit_xor}
use Rattle.aig_circuit.specs.declared.circuit.Gate.{Gate}
use Rattle.aig_simplify.specs.declared.finder.Finder.{Finder}
use Rattle.aig_simplify.specs.Folded.{HasSameOperands, NeedsGate}
use Rattle.aig_simplify.specs.Parts.Folding.{IsFirst, gate_at}

abbrev pub mixed : Gate → ℕ
mixed g = (g.left * 2654435769 % 2 ^ 32 + g.right) % 2 ^ 32

abbrev pub spread : Gate → ℕ
spread g = bit_xor (mixed g) (mixed g / 2 ^ 15) * 2246822519 % 2 ^ 32

-- the mark of a gate: that of its operands, of which no two that are near one another should have the same
abbrev pub mark_of : Gate → ℕ
mark_of g = bit_xor (spread g) (spread g / 2 ^ 13)

-- a link: one more than a place, or 0
abbrev pub link_at : List ℕ → ℕ → ℕ
link_at links k = slice_index_or links k 0

-- the place of a gate's mark
abbrev pub place_of : List ℕ → Gate → ℕ
place_of last g = bit_and (mark_of g) (length last - 1)

-- the link to the last gate that has the mark of this one
abbrev pub link_for : List ℕ → Gate → ℕ
link_for last g = link_at last (place_of last g)

-- One comes from a link to a place: to the one that it names, and on from there by the link of that.
pub data IsReached (before : List ℕ) : ℕ → ℕ → Type 0 where
  here : {place : ℕ} → IsReached before (suc place) place
  on : {other place : ℕ} → IsReached before (link_at before other) place → IsReached before (suc other) place

-- a gate with the operands of this one is reached
abbrev pub ReachesLike : List ℕ → ℕ → List Gate → Gate → Type 0
ReachesLike before link gates g = (j : ℕ) × IsReached before link j × HasSameOperands (gate_at gates j) g

-- The gates before a place are known: whichever needs a gate, one with its operands is reached from the link of its
-- mark, and what is reached is the first with its operands.
pub record KnowsBy (last before : List ℕ) (gates : List Gate) (at : ℕ) : Type 0 where
  pub marks : 0 < length last
  pub room : length before ≡ length gates
  pub falls : (k : ℕ) → link_at before k ≤ k
  pub firsts : (mark j : ℕ) → IsReached before (link_at last mark) j → (j < at) × IsFirst gates j
  pub known : (k : ℕ) → k < at → NeedsGate (gate_at gates k).left (gate_at gates k).right
      → ReachesLike before (link_for last (gate_at gates k)) gates (gate_at gates k)

abbrev pub Knows : Finder → List Gate → ℕ → Type 0
Knows finder gates at = KnowsBy finder.last.items finder.before.items gates at
