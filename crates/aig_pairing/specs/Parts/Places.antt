-- Where names stand, as a search tree.
use Rattle.std.specs.Prelude.{◌≡◌, ℕ, List, Option}
use Rattle.std.specs.BTreeMap.{BTreeMap, get_by}
use Rattle.std.specs.Cmp.Lexicographic.{slice_cmp}
use Rattle.std.specs.List.{position}
use Rattle.std.specs.Ordering.{nat_cmp}
use denote.Ref.{Bor}
use Rattle.aig_pairing.specs.Names.{Name, has_name}

-- what the tree has at these bytes
abbrev pub place_in : BTreeMap (Bor (List ℕ)) ℕ → List ℕ → Option ℕ
place_in tree bytes = get_by (λ k. slice_cmp nat_cmp bytes k.now) tree

-- the tree has of each name where it first stands
abbrev pub AreAt : List Name → BTreeMap (Bor (List ℕ)) ℕ → Type 0
AreAt names tree = (bytes : List ℕ) → place_in tree bytes ≡ position (has_name bytes) names
