-- A circuit with its cone alone is well formed.
use Rattle.std.proofs.Common.{◌≡◌, ◌∷◌, ◌++◌, ◌∙◌, ℕ, zero, suc, List, [], map, Bool, true, false}
use Rattle.std.proofs.Common.{cond, refl, sym, ap, ap₂, subst, inl, inr, ⊎_elim, arith, ◌⊎◌}
use Rattle.std.specs.List.{AllByRecursion, Contains, concat, filter, flat_map}
use Rattle.std.proofs.lemmas.List.Elements.{filter-append}
use Rattle.aig_circuit.specs.declared.circuit.Latch.{Latch}
use Rattle.aig_circuit.specs.declared.circuit.Gate.{Gate}
use Rattle.aig_circuit.specs.declared.circuit.Circuit.{Circuit}
use Rattle.aig_circuit.specs.Literal.{variable_of}
use Rattle.aig_circuit.specs.Wellformed.{AreDistinct, IsAmong, IsKnown, IsVariableUpTo, IsWellFormed, HasGoodSymbols}
use Rattle.aig_circuit.specs.Wellformed.{defined_variables, literal_lists, operands, used_literals}
use Rattle.aig_circuit.proofs.Checking.{back, front, joined}
use Rattle.aig_meaning.specs.Meaning.{latch_variables, next_literals}
use Rattle.aig_meaning.proofs.Related.{of_operands, variables_of}
use Rattle.aig_cone.specs.Cone.IsInCone.{root, operand, next}
use Rattle.aig_select.specs.Cone.{IsCone, shown_variables, with_only}
use Rattle.aig_select.proofs.Lists.{all_staying, contained_later, filter_is, left_contained, left_fewer, left_passes}

module _ {X : Type 0} where
  pub all_of_each : (P : X → Type 0) (xs : List X) → ((x : X) → Contains xs x → P x) → AllByRecursion P xs
  all_of_each P [] each = tt
  all_of_each P (x ∷ xs) each =
      (each x (zero, omega arith, refl), all_of_each P xs (λ y there. each y (contained_later x y xs there)))

  -- a filter of what a map gives
  map_one : {Y : Type 0} (f : X → Y) (b : Bool) (x : X) (xs : List X)
      → map f (cond b (x ∷ xs) xs) ≡ cond b (f x ∷ map f xs) (map f xs)
  map_one f true x xs = refl
  map_one f false x xs = refl

  pub filter_map_is : {Y : Type 0} (f : X → Y) (p : Y → Bool) (xs : List X)
      → map f (filter (λ (x : X). p (f x)) xs) ≡ filter p (map f xs)
  filter_map_is f p [] = refl
  filter_map_is f p (x ∷ xs) =
      map_one f (p (f x)) x (filter (λ (y : X). p (f y)) xs)
      ∙ ap (λ ys. cond (p (f x)) (f x ∷ ys) ys) (filter_map_is f p xs)

-- of a list that a map gives
pub all_of_map : {X : Type 0} (f : X → ℕ) (P : ℕ → Type 0) (xs : List X) → ((x : X) → Contains xs x → P (f x))
    → AllByRecursion P (map f xs)
all_of_map f P [] each = tt
all_of_map f P (x ∷ xs) each =
    (each x (zero, omega arith, refl), all_of_map f P xs (λ y there. each y (contained_later x y xs there)))

pub each_of_map : {X : Type 0} (f : X → ℕ) (P : ℕ → Type 0) (xs : List X) → AllByRecursion P (map f xs)
    → (x : X) → Contains xs x → P (f x)
each_of_map f P [] all x (k, below, is) = absurd (omega (arith, below))
each_of_map f P (y ∷ xs) all x (zero, below, is) = subst (λ z. P (f z)) is all.0
each_of_map f P (y ∷ xs) all x (suc k, below, is) = each_of_map f P xs all.1 x (k, omega (arith, below), is)

pub all_among : (f : ℕ → ℕ) (P : ℕ → Type 0) (xs : List ℕ) → ((v : ℕ) → IsAmong v (map f xs) → P v)
    → AllByRecursion (λ x. P (f x)) xs
all_among f P [] each = tt
all_among f P (x ∷ xs) each = (each (f x) (inl refl), all_among f P xs (λ v a. each v (inr a)))

pub all_both : (P Q R : ℕ → Type 0) → ((x : ℕ) → P x → Q x → R x) → (xs : List ℕ) → AllByRecursion P xs
    → AllByRecursion Q xs → AllByRecursion R xs
all_both P Q R both [] all all_too = tt
all_both P Q R both (x ∷ xs) all all_too = (both x all.0 all_too.0, all_both P Q R both xs all.1 all_too.1)

pub all_operands : (P : ℕ → Type 0) (gs : List Gate) → ((g : Gate) → Contains gs g → P g.left × P g.right)
    → AllByRecursion P (flat_map operands gs)
all_operands P [] each = tt
all_operands P (g ∷ gs) each =
    let here = each g (zero, omega arith, refl) in
    (here.0, (here.1, all_operands P gs (λ h there. each h (contained_later g h gs there))))

-- Numbers that pass.
module _ (p : ℕ → Bool) where
  one_among : (b : Bool) (v x : ℕ) (xs : List ℕ) → p x ≡ b → p v ≡ true → (v ≡ x) ⊎ IsAmong v xs
      → IsAmong v (cond b (x ∷ xs) xs)
  one_among true v x xs is passes a = a
  one_among false v x xs is passes (inl same) = absurd (cc (ap p same))
  one_among false v x xs is passes (inr a) = a

  one_before : (b : Bool) (v x : ℕ) (xs : List ℕ) → IsAmong v (cond b (x ∷ xs) xs) → (v ≡ x) ⊎ IsAmong v xs
  one_before true v x xs a = a
  one_before false v x xs a = inr a

  pub among_before : (v : ℕ) (xs : List ℕ) → IsAmong v (filter p xs) → IsAmong v xs
  among_before v [] a = a
  among_before v (x ∷ xs) a =
      ⊎_elim (λ (e : v ≡ x). inl e) (λ (b : IsAmong v (filter p xs)). inr (among_before v xs b))
      (one_before (p x) v x (filter p xs) a)

  pub among_still : (v : ℕ) (xs : List ℕ) → p v ≡ true → IsAmong v xs → IsAmong v (filter p xs)
  among_still v [] passes a = a
  among_still v (x ∷ xs) passes a =
      one_among (p x) v x (filter p xs) refl passes
      (⊎_elim (λ (e : v ≡ x). inl e) (λ (b : IsAmong v xs). inr (among_still v xs passes b)) a)

  one_distinct : (b : Bool) (x : ℕ) (xs : List ℕ) → (¬ IsAmong x xs) → AreDistinct xs → AreDistinct (cond b (x ∷ xs) xs)
  one_distinct true x xs new once = (new, once)
  one_distinct false x xs new once = once

  pub distinct_still : (xs : List ℕ) → AreDistinct xs → AreDistinct (filter p xs)
  distinct_still [] once = tt
  distinct_still (x ∷ xs) once =
      one_distinct (p x) x (filter p xs) (λ a. once.0 (among_before x xs a)) (distinct_still xs once.1)

  pub passing : (v : ℕ) (xs : List ℕ) → IsAmong v (filter p xs) → p v ≡ true
  passing v [] a = absurd a
  passing v (x ∷ xs) a = one_passing (p x) v x (filter p xs) refl (passing v xs) a where
    one_passing : (b : Bool) (v x : ℕ) (xs : List ℕ) → p x ≡ b → (IsAmong v xs → p v ≡ true)
        → IsAmong v (cond b (x ∷ xs) xs) → p v ≡ true
    one_passing true v x xs is before (inl same) = ap p same ∙ is
    one_passing true v x xs is before (inr a) = before a
    one_passing false v x xs is before a = before a

module _ (keeps : ℕ → Bool) (c : Circuit) where
  abbrev d : Circuit
  d = with_only keeps c

  pub defined_left : defined_variables d ≡ filter keeps (defined_variables c)
  defined_left =
      ap₂ (λ (ls gs : List ℕ). filter keeps c.inputs ++ ls ++ gs)
      (filter_map_is (λ (l : Latch). l.var) keeps c.latches) (filter_map_is (λ (g : Gate). g.var) keeps c.gates)
      ∙ ap (λ (vs : List ℕ). vs ++ filter keeps (variables_of c.gates))
      (sym (filter-append keeps c.inputs (latch_variables c)))
      ∙ sym (filter-append keeps (c.inputs ++ latch_variables c) (variables_of c.gates))

  module _ (cone : IsCone c (shown_variables c) keeps) where
    pub shown_kept : (v : ℕ) → IsAmong v (shown_variables c) → keeps v ≡ true
    shown_kept v a = (cone v).1 (root a)

    pub operand_kept : (g : Gate) (v : ℕ) → Contains c.gates g → keeps g.var ≡ true
        → IsAmong v (map variable_of (operands g)) → keeps v ≡ true
    operand_kept g v there kept a = (cone v).1 (operand there ((cone g.var).0 kept) a)

    pub next_kept : (l : Latch) → Contains c.latches l → keeps l.var ≡ true → keeps (variable_of l.next) ≡ true
    next_kept l there kept = (cone (variable_of l.next)).1 (next tt there ((cone l.var).0 kept) refl)

    module _ (good : IsWellFormed c) where
      abbrev vs : List ℕ
      vs = defined_variables c

      still_known : (literal : ℕ) → IsKnown vs literal → keeps (variable_of literal) ≡ true
          → IsKnown (filter keeps vs) literal
      still_known literal known kept =
          ⊎_elim (λ (zero_is : variable_of literal ≡ 0). inl zero_is)
          (λ (a : IsAmong (variable_of literal) vs). inr (among_still keeps (variable_of literal) vs kept a)) known

      known_left : AllByRecursion (IsKnown (filter keeps vs)) (used_literals d)
      known_left =
          let P : ℕ → Type 0 = IsKnown vs in
          let Q : ℕ → Type 0 = IsKnown (filter keeps vs) in
          let nexts : List ℕ = next_literals c in
          let lists : List ℕ = concat (literal_lists c) in
          let first : AllByRecursion P (nexts ++ lists) = front P (nexts ++ lists) (flat_map operands c.gates) good.known in
          let ands : AllByRecursion P (flat_map operands c.gates) =
          back P (nexts ++ lists) (flat_map operands c.gates) good.known in
          joined Q (next_literals d ++ lists) (flat_map operands d.gates)
          (joined Q (next_literals d) lists
          (all_of_map (λ (l : Latch). l.next) Q d.latches (λ l there.
          let before : Contains c.latches l = left_contained (λ (m : Latch). keeps m.var) c.latches l there in
          still_known l.next
          (each_of_map (λ (m : Latch). m.next) P c.latches (front P nexts lists first) l before)
          (next_kept l before (left_passes (λ (m : Latch). keeps m.var) c.latches l there))))
          (all_both P (λ x. keeps (variable_of x) ≡ true) Q still_known lists (back P nexts lists first)
          (all_among variable_of (λ v. keeps v ≡ true) lists shown_kept)))
          (all_operands Q d.gates (λ g there.
          let before : Contains c.gates g = left_contained (λ (h : Gate). keeps h.var) c.gates g there in
          let kept : keeps g.var ≡ true = left_passes (λ (h : Gate). keeps h.var) c.gates g there in
          let known = of_operands P c.gates ands g before in (
            still_known g.left known.0 (operand_kept g (variable_of g.left) before kept (inl refl)),
            still_known g.right known.1 (operand_kept g (variable_of g.right) before kept (inr (inl refl))),
          )))

      pub coned_well_formed : HasGoodSymbols d → IsWellFormed d
      coned_well_formed symbols =
          let old = good.limits in
          let InRange : ℕ → Type 0 = IsVariableUpTo c.max_var in
          record {
            limits = record {
              max_var = old.max_var;
              inputs = omega (arith, old.inputs, left_fewer keeps c.inputs);
              latches = omega (arith, old.latches, left_fewer (λ (l : Latch). keeps l.var) c.latches);
              literals = old.literals;
              justice = old.justice;
              sizes = old.sizes;
              gates = omega (arith, old.gates, left_fewer (λ (g : Gate). keeps g.var) c.gates);
            };
            in_range = subst (AllByRecursion InRange) (sym defined_left)
                (subst (AllByRecursion InRange) (sym (filter_is keeps vs))
                (all_staying InRange (map keeps vs) vs good.in_range));
            once = subst AreDistinct (sym defined_left) (distinct_still keeps vs good.once);
            known = subst (λ (ws : List ℕ). AllByRecursion (IsKnown ws) (used_literals d)) (sym defined_left) known_left;
            symbols = symbols;
            ranked = (
              good.ranked.0,
              λ g h g_in h_in.
                  good.ranked.1 g h (left_contained (λ (x : Gate). keeps x.var) c.gates g g_in)
                  (left_contained (λ (x : Gate). keeps x.var) c.gates h h_in),
            );
          }
