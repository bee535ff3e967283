-- Relabelling composes, and gates are changed one by one and taken in an order in either turn.
use Rattle.std.proofs.Common.{◌≡◌, ◌∷◌, ◌∙◌, ◌+◌, ◌*◌, ◌%◌, ◌<◌, ℕ, zero, suc, List, [], get_or, map, refl, sym, ap₂}
use Rattle.std.proofs.Common.{rules, ap, arith, Bool, true, false, cond, ltb, length, max, min}
use Rattle.std.specs.List.{AllByRecursion, concat, flat_map}
use Rattle.std.proofs.lemmas.List.{map-id, length-map, get_or-map, ext_get_or}
use Rattle.std.proofs.lemmas.Simd.{map-map}
use Rattle.std.proofs.Math.Nat.{max_comm, min_comm}
use Rattle.aig_circuit.specs.declared.circuit.Latch.{Latch}
use Rattle.aig_circuit.specs.declared.circuit.Gate.{Gate}
use Rattle.aig_circuit.specs.declared.circuit.Circuit.{Circuit}
use Rattle.aig_circuit.specs.Literal.{variable_of}
use Rattle.aig_circuit.specs.Wellformed.{literal_lists, IsKnown, IsWellFormed, defined_variables, operands}
use Rattle.aig_circuit.proofs.Alike.{latch, gate, gates_alike}
use Rattle.aig_circuit.proofs.Checking.{each, all_weaker, front, back}
use Rattle.aig_topo.proofs.Ordering.Ranked.{variables}
use Rattle.aig_image.specs.Relabelled.{relabelled_literal, relabelled_latch, relabelled_gate, relabelled, GateNames}
use Rattle.aig_image.specs.Relabelled.{NamesOnly, LatchNames}
use Rattle.aig_image.specs.Reordered.{no_gate, taken, reordered, operands_sorted, has_smaller_first, exchanged_if}
use Rattle.aig_image.specs.Reordered.{exchanged_by, with_operands_exchanged, ArePlaces}

module _ {X Y : Type 0} where
  -- two maps agree where they agree on each element
  pub map_each : (h k : X → Y) → ((x : X) → h x ≡ k x) → (xs : List X) → map h xs ≡ map k xs
  map_each h k same [] = refl
  map_each h k same (x ∷ xs) = ap₂ (λ (y : Y) (ys : List Y). y ∷ ys) (same x) (map_each h k same xs)

  -- the same where P holds of each element
  pub map_where : (P : X → Type 0) (h k : X → Y) → ((x : X) → P x → h x ≡ k x)
      → (xs : List X) → AllByRecursion P xs → map h xs ≡ map k xs
  map_where P h k same [] all = refl
  map_where P h k same (x ∷ xs) all =
      ap₂ (λ (y : Y) (ys : List Y). y ∷ ys) (same x all.0) (map_where P h k same xs all.1)

  -- a map that keeps the value read outside is read anywhere
  pub read_mapped : (h : X → Y) (d : X) (e : Y) → h d ≡ e → (xs : List X) (i : ℕ)
      → get_or (map h xs) i e ≡ h (get_or xs i d)
  read_mapped h d e kept [] i = sym kept
  read_mapped h d e kept (x ∷ xs) zero = refl
  read_mapped h d e kept (x ∷ xs) (suc i) = read_mapped h d e kept xs i

-- a map after a map
pub map_twice : {X Y Z : Type 0} (h : X → Y) (k : Y → Z) (m : X → Z) → ((x : X) → k (h x) ≡ m x)
    → (xs : List X) → map k (map h xs) ≡ map m xs
map_twice h k m same xs = map-map k h xs ∙ map_each (λ x. k (h x)) m same xs

-- a map that changes nothing
pub map_nothing : {X : Type 0} (h : X → X) → ((x : X) → h x ≡ x) → (xs : List X) → map h xs ≡ xs
map_nothing h same xs = map_each h (λ x. x) same xs ∙ map-id xs

-- Relabelling composes, and only the variables that are named matter.

-- the circuit with other sections; the lists of literals stand in the order of `literal_lists`
abbrev sections : Circuit → List ℕ → List Latch → List (List ℕ) → List Gate → Circuit
sections c inputs latches lists gates = record c {
  inputs = inputs;
  latches = latches;
  outputs = get_or lists 0 [];
  bad = get_or lists 1 [];
  constraints = get_or lists 2 [];
  justice = record c.justice { literals = get_or lists 3 [] };
  fairness = get_or lists 4 [];
  gates = gates;
}

abbrev pub with_gates : List Gate → Circuit → Circuit
with_gates gates c = record c { gates = gates }

alike : (c : Circuit) {i j : List ℕ} {l m : List Latch} {n o : List (List ℕ)} {g h : List Gate}
    → i ≡ j → l ≡ m → n ≡ o → g ≡ h → sections c i l n g ≡ sections c j m o h
alike c i l n g = ap₂ (λ f x. f x) (ap₂ (λ f x. f x) (ap₂ (sections c) i l) n) g

-- each list of literals is relabelled by itself
pub lists_there : (f : ℕ → ℕ) (c : Circuit)
    → literal_lists (relabelled f c) ≡ map (map (relabelled_literal f)) (literal_lists c)
lists_there f c = refl

module _ (f g : ℕ → ℕ) where
  literal_twice : (l : ℕ) → relabelled_literal g (relabelled_literal f l) ≡ relabelled_literal (λ v. g (f v)) l
  literal_twice l = search rules

  latch_twice : (l : Latch) → relabelled_latch g (relabelled_latch f l) ≡ relabelled_latch (λ v. g (f v)) l
  latch_twice l = ap (λ next. latch (g (f l.var)) next l.reset) (literal_twice l.next)

  pub gate_twice : (h : Gate) → relabelled_gate g (relabelled_gate f h) ≡ relabelled_gate (λ v. g (f v)) h
  gate_twice h = ap₂ (gate (g (f h.var))) (literal_twice h.left) (literal_twice h.right)

pub relabellings_compose : (f g : ℕ → ℕ) (c : Circuit) → relabelled g (relabelled f c) ≡ relabelled (λ v. g (f v)) c
relabellings_compose f g c = search (rules, alike, map-map, map_twice, latch_twice, literal_twice, gate_twice)

module _ (f g : ℕ → ℕ) where
  same_literal : (l : ℕ) → f (variable_of l) ≡ g (variable_of l) → relabelled_literal f l ≡ relabelled_literal g l
  same_literal l e = ap (λ v. 2 * v + l % 2) e

  abbrev Same : ℕ → Type 0
  Same v = f v ≡ g v

  pub same_gate : (h : Gate) → GateNames Same h → relabelled_gate f h ≡ relabelled_gate g h
  same_gate h e = gates_alike e.0 (same_literal h.left e.1) (same_literal h.right e.2)

  pub only_names_matter : (c : Circuit) → NamesOnly Same c → relabelled f c ≡ relabelled g c
  only_names_matter c same = search (rules, alike, map_where, latch, same_literal, same_gate)

-- a gate that is relabelled and then by the way back
pub gate_back : (f g : ℕ → ℕ) (h : Gate) → GateNames (λ v. f (g v) ≡ v) h
    → relabelled_gate f (relabelled_gate g h) ≡ h
gate_back f g h back = search rules

-- each name for itself
abbrev self : ℕ → ℕ
self v = v

own_literal : (l : ℕ) → relabelled_literal self l ≡ l
own_literal l = omega arith

own_names : (c : Circuit) → relabelled self c ≡ c
own_names c = search (rules, alike, map-id, map_nothing, latch, own_literal, gate)

pub names_kept_keep_all : (f : ℕ → ℕ) (c : Circuit) → NamesOnly (λ v. f v ≡ v) c → relabelled f c ≡ c
names_kept_keep_all f c kept = only_names_matter f self c kept ∙ own_names c

module _ (P : ℕ → Type 0) (c : Circuit) (constant : P 0) (defined : AllByRecursion P (defined_variables c)) where
  abbrev Known : ℕ → Type 0
  Known = IsKnown (defined_variables c)

  of_literal : (l : ℕ) → Known l → P (variable_of l)
  of_literal l known = search (rules, each)

  of_latches : (ls : List Latch) → AllByRecursion P (map (λ (l : Latch). l.var) ls)
      → AllByRecursion Known (map (λ (l : Latch). l.next) ls) → AllByRecursion (LatchNames P) ls
  of_latches [] vars known = tt
  of_latches (l ∷ ls) vars known = ((vars.0, of_literal l.next known.0), of_latches ls vars.1 known.1)

  of_lists : (lists : List (List ℕ)) → AllByRecursion Known (concat lists)
      → AllByRecursion (AllByRecursion (λ l. P (variable_of l))) lists
  of_lists [] known = tt
  of_lists (ls ∷ lists) known = (
    all_weaker Known (λ l. P (variable_of l)) of_literal ls (front Known ls (concat lists) known),
    of_lists lists (back Known ls (concat lists) known),
  )

  of_gates : (gs : List Gate) → AllByRecursion P (variables gs) → AllByRecursion Known (flat_map operands gs)
      → AllByRecursion (GateNames P) gs
  of_gates [] vars known = tt
  of_gates (g ∷ gs) vars known =
      ((vars.0, of_literal g.left known.0, of_literal g.right known.1.0), of_gates gs vars.1 known.1.1)

  pub names_only : IsWellFormed c → NamesOnly P c
  names_only good = search (rules, front, variables, of_latches, back, of_lists, of_gates)

-- Gates are changed one by one and taken in an order in either turn; sorted operands are exchanged back.

-- what keeps the gate that stands nowhere is done to gates before or after they are taken
pub taken_mapped : (h : Gate → Gate) → h no_gate ≡ no_gate → (gates : List Gate) (order : List ℕ)
    → map h (taken gates order) ≡ taken (map h gates) order
taken_mapped h kept gates order = search (rules, map-map, map_each, read_mapped)

pub order_commutes : (f : ℕ → ℕ) (order : List ℕ) (c : Circuit) → f 0 ≡ 0
    → relabelled f (reordered order c) ≡ reordered order (relabelled f c)
order_commutes f order c constant = search (rules, with_gates, taken_mapped, gate)

-- gates taken in an order, then at their places, are the gates
pub taken_back : (gates : List Gate) (order places : List ℕ) → ArePlaces order places (length gates)
    → taken (taken gates order) places ≡ gates
taken_back gates order places are =
    let long = length-map places (λ p. get_or (taken gates order) p no_gate) ∙ are.0 in
    ext_get_or no_gate (taken (taken gates order) places) gates long (λ i below.
    let here : i < length gates = omega (arith, below, long) in
    get_or-map (λ p. get_or (taken gates order) p no_gate) places i 0 no_gate (omega (arith, here, are.0))
    ∙ get_or-map (λ p. get_or gates p no_gate) order (get_or places i 0) 0 no_gate (are.1 i here).0
    ∙ ap (λ p. get_or gates p no_gate) (are.1 i here).1)

-- the larger and the smaller of two numbers, in the order that they had
left_kept : (a b : ℕ) → cond (ltb a b) (min a b) (max a b) ≡ a
left_kept a b = search rules

right_kept : (a b : ℕ) → cond (ltb a b) (max a b) (min a b) ≡ b
right_kept a b = search rules

pub sorted_operands_go_back : (g : Gate) → exchanged_if (has_smaller_first g) (operands_sorted g) ≡ g
sorted_operands_go_back g = ap₂ (gate g.var) (left_kept g.left g.right) (right_kept g.left g.right)

pub all_go_back : (gs : List Gate) → exchanged_by (map has_smaller_first gs) (map operands_sorted gs) ≡ gs
all_go_back [] = refl
all_go_back (g ∷ gs) = ap₂ (λ (h : Gate) (hs : List Gate). h ∷ hs) (sorted_operands_go_back g) (all_go_back gs)

-- operands are exchanged before or after they are relabelled
all_relabelled : (f : ℕ → ℕ) (flags : List Bool) (gs : List Gate)
    → map (relabelled_gate f) (exchanged_by flags gs) ≡ exchanged_by flags (map (relabelled_gate f) gs)
all_relabelled f [] gs = refl
all_relabelled f (e ∷ es) [] = refl
all_relabelled f (true ∷ es) (g ∷ gs) =
    ap (λ (hs : List Gate). relabelled_gate f (exchanged_if true g) ∷ hs) (all_relabelled f es gs)
all_relabelled f (false ∷ es) (g ∷ gs) =
    ap (λ (hs : List Gate). relabelled_gate f (exchanged_if false g) ∷ hs) (all_relabelled f es gs)

pub exchange_commutes : (f : ℕ → ℕ) (flags : List Bool) (c : Circuit)
    → relabelled f (with_operands_exchanged flags c) ≡ with_operands_exchanged flags (relabelled f c)
exchange_commutes f flags c = ap (λ gs. with_gates gs (relabelled f c)) (all_relabelled f flags c.gates)

-- operands are sorted alike, exchanged or not
sorted_again : (e : Bool) (g : Gate) → operands_sorted (exchanged_if e g) ≡ operands_sorted g
sorted_again true g = ap₂ (gate g.var) (max_comm g.right g.left) (min_comm g.right g.left)
sorted_again false g = refl

pub all_sorted_again : (flags : List Bool) (gs : List Gate)
    → map operands_sorted (exchanged_by flags gs) ≡ map operands_sorted gs
all_sorted_again [] gs = refl
all_sorted_again (e ∷ es) [] = refl
all_sorted_again (e ∷ es) (g ∷ gs) =
    ap₂ (λ (h : Gate) (hs : List Gate). h ∷ hs) (sorted_again e g) (all_sorted_again es gs)
