-- The first repeat, the first unknown literal and the first fault, without the set of what was seen.
use Rattle.std.proofs.Common.{◌≡◌, ◌<◌, ◌*◌, ◌∷◌, ◌++◌, ◌∙◌, ◌↔◌, rules, ℕ, List, [], Bool, true, false, cond, Option}
use Rattle.std.proofs.Common.{None, Some, length, refl, sym, ap, subst, ⊎_elim, arith, true≢false}
use Rattle.std.specs.List.{AllByRecursion, position, position_or_len, slice_get}
use Rattle.std.specs.Option.{option_map, option_or}
use Rattle.std.specs.Ordering.{nat_cmp}
use Rattle.std.specs.FinSet as set
use Rattle.std.specs.FinSet.{FinSet}
use Rattle.std.proofs.lemmas.Bool.{cases_lt, lt-ltb}
use Rattle.std.proofs.lemmas.List.Folds.{find_at}
use Rattle.std.proofs.lemmas.List.Quantifiers.{position-Some}
use Rattle.std.proofs.lemmas.List.Sums.{position_or_len_is}
use Rattle.std.proofs.lemmas.Option.{slice_get-get_or, slice_get_past, slice_get_within}
use Rattle.aig_circuit.specs.declared.circuit.Circuit.{Circuit}
use Rattle.aig_circuit.specs.declared.circuit.Gate.{Gate}
use Rattle.aig_fault.specs.declared.kind.Kind.{Kind}
use Rattle.aig_fault.specs.declared.kind.Kind.TheVariants.{Redefined, Undefined, Cyclic}
use Rattle.aig_fault.specs.declared.stopped.Stopped.{Stopped}
use Rattle.aig_fault.specs.declared.stopped.Stopped.TheVariants.{Refused}
use Rattle.aig_core.specs.Fault.{redefined, undefined, cyclic}
use Rattle.aig_circuit.specs.Wellformed.{IsAmong, AreDistinct, IsKnown, HasRank, defined_variables, used_literals}
use Rattle.aig_core.specs.Fault.{first_repeat, first_unknown, with_all, is_known, first_structural_fault}
use Rattle.aig_topo.specs.Order.{gate_operands, TakesLeast, IsFull, IsLeastReadyOrder, depends_on_cycle, first_cyclic}
use Rattle.aig_core.specs.Laws.{IsFirstRepeat, IsFirstUnknown, IsFirstLeftOut, IsFullyDefined}
use Rattle.aig_core.proofs.Checking.Sections.{repeat_append, unknown_append}
use Rattle.aig_core.proofs.Checking.Faultless.{distinct, nothing_repeats, none_in_empty, not_true, found, taken}
use Rattle.aig_core.proofs.Checking.Faultless.{known_is, known_told, all_known, none_unknown, ranked_where_none_cyclic}
use Rattle.aig_topo.proofs.Ordering.LeastReady.{a_least_ready_order}
use Rattle.aig_topo.proofs.Ordering.Ranked.{no_gate, at, rank_exactly_where_all_are_ordered}
use Rattle.aig_topo.proofs.Ordering.Cyclic.{free, placed_where_free, none_cyclic}

some_same : (x y : ℕ) → Some x ≡ Some y → x ≡ y
some_same x y is = cc

not_false_is_true : (b : Bool) → ¬ (b ≡ false) → b ≡ true
not_false_is_true true h = refl
not_false_is_true false h = absurd (h refl)

-- the first repeat, where these were seen before
record RepeatIn (s : FinSet nat_cmp) (xs : List ℕ) (x : ℕ) : Type 0 where
  pub front : List ℕ
  pub rest : List ℕ
  pub parts : xs ≡ front ++ x ∷ rest
  pub none : first_repeat s front ≡ None
  pub had : set.contains (with_all s front) x ≡ true

repeat_in : (s : FinSet nat_cmp) (xs : List ℕ) (x : ℕ) → first_repeat s xs ≡ Some x → RepeatIn s xs x
repeat_in s [] x h = cc
repeat_in s (y ∷ ys) x h =
    elim (set.contains s y) as (λ b. set.contains s y ≡ b → cond b (Some y) (first_repeat (set.insert s y) ys) ≡ Some x
    → RepeatIn s (y ∷ ys) x) [
      | true ↦ λ seen is. let same : y ≡ x = some_same y x is in record {
        front = [];
        rest = ys;
        parts = ap (λ z. z ∷ ys) same;
        none = refl;
        had = subst (λ z. set.contains s z ≡ true) same seen;
      }
      | false ↦ λ new is. let later : RepeatIn (set.insert s y) ys x = repeat_in (set.insert s y) ys x is in record {
        front = y ∷ later.front;
        rest = later.rest;
        parts = ap (λ zs. y ∷ zs) later.parts;
        none = ap (λ b. cond b (Some y) (first_repeat (set.insert s y) later.front)) new ∙ later.none;
        had = later.had;
      }
    ] refl h

repeat_out : (s : FinSet nat_cmp) (xs : List ℕ) (x : ℕ) → RepeatIn s xs x → first_repeat s xs ≡ Some x
repeat_out s xs x r = search (rules, repeat_append)

pub no_repeat_where_distinct : (xs : List ℕ) → (first_repeat set.empty xs ≡ None) ↔ AreDistinct xs
no_repeat_where_distinct xs =
    (distinct set.empty xs, λ once. nothing_repeats set.empty xs once (λ y _ h. none_in_empty y h))

among_front : (xs : List ℕ) (x : ℕ) → set.contains (with_all set.empty xs) x ≡ true → IsAmong x xs
among_front xs x h =
    ⊎_elim (λ (n : set.contains (set.empty {R = nat_cmp}) x ≡ true). absurd (none_in_empty x n))
    (λ (a : IsAmong x xs). a) (found set.empty xs x h)

pub repeats_are_found : (xs : List ℕ) (x : ℕ) → (first_repeat set.empty xs ≡ Some x) ↔ IsFirstRepeat xs x
repeats_are_found xs x = (
  λ h. let r : RepeatIn set.empty xs x = repeat_in set.empty xs x h in record {
    front = r.front;
    rest = r.rest;
    parts = r.parts;
    once = (no_repeat_where_distinct r.front).0 r.none;
    again = among_front r.front x r.had;
  },
  λ f. repeat_out set.empty xs x (record {
    front = f.front;
    rest = f.rest;
    parts = f.parts;
    none = (no_repeat_where_distinct f.front).1 f.once;
    had = taken set.empty f.front x f.again;
  }),
)

-- the first unknown literal, where these are known
record UnknownIn (s : FinSet nat_cmp) (xs : List ℕ) (x : ℕ) : Type 0 where
  pub front : List ℕ
  pub rest : List ℕ
  pub parts : xs ≡ front ++ x ∷ rest
  pub none : first_unknown s front ≡ None
  pub out : is_known s x ≡ false

unknown_in : (s : FinSet nat_cmp) (xs : List ℕ) (x : ℕ) → first_unknown s xs ≡ Some x → UnknownIn s xs x
unknown_in s [] x h = cc
unknown_in s (y ∷ ys) x h =
    elim (is_known s y) as (λ b. is_known s y ≡ b → cond b (first_unknown s ys) (Some y) ≡ Some x
    → UnknownIn s (y ∷ ys) x) [
      | true ↦ λ known is. let later : UnknownIn s ys x = unknown_in s ys x is in record {
        front = y ∷ later.front;
        rest = later.rest;
        parts = ap (λ zs. y ∷ zs) later.parts;
        none = ap (λ b. cond b (first_unknown s later.front) (Some y)) known ∙ later.none;
        out = later.out;
      }
      | false ↦ λ unknown is. let same : y ≡ x = some_same y x is in record {
        front = [];
        rest = ys;
        parts = ap (λ z. z ∷ ys) same;
        none = refl;
        out = subst (λ z. is_known s z ≡ false) same unknown;
      }
    ] refl h

unknown_out : (s : FinSet nat_cmp) (xs : List ℕ) (x : ℕ) → UnknownIn s xs x → first_unknown s xs ≡ Some x
unknown_out s xs x u = search (rules, unknown_append)

pub none_unknown_where_known : (variables xs : List ℕ)
    → (first_unknown (with_all set.empty variables) xs ≡ None) ↔ AllByRecursion (IsKnown variables) xs
none_unknown_where_known variables xs = (all_known variables xs, none_unknown variables xs)

pub unknowns_are_found : (variables xs : List ℕ) (x : ℕ)
    → (first_unknown (with_all set.empty variables) xs ≡ Some x) ↔ IsFirstUnknown variables xs x
unknowns_are_found variables xs x =
    let s : FinSet nat_cmp = with_all set.empty variables in (
      λ h. let u : UnknownIn s xs x = unknown_in s xs x h in record {
        front = u.front;
        rest = u.rest;
        parts = u.parts;
        known = all_known variables u.front u.none;
        unknown = λ k. true≢false (sym (known_told variables x k) ∙ u.out);
      },
      λ f. unknown_out s xs x (record {
        front = f.front;
        rest = f.rest;
        parts = f.parts;
        none = none_unknown variables f.front f.known;
        out = not_true (is_known s x) (λ t. f.unknown (known_is variables x t));
      }),
    )

-- the gate that is reported, by the order of gates
module _ (gates : List Gate) (list : List ℕ) (full : IsFull (length gates) (gate_operands gates) list)
    (in_turn : TakesLeast (length gates) (gate_operands gates) [] list) where
  abbrev own : Gate → ℕ
  own g = 2 * g.var

  abbrev first_place : ℕ
  first_place = position_or_len (depends_on_cycle gates) gates

  at_first_place : (literal : ℕ) → first_cyclic gates ≡ Some literal
      → option_map own (slice_get gates first_place) ≡ Some literal
  at_first_place literal h = ap (option_map own) (sym (find_at (depends_on_cycle gates) gates)) ∙ h

  is_there : (literal : ℕ) → first_cyclic gates ≡ Some literal → first_place < length gates
  is_there literal h = search (rules, slice_get_past, at_first_place, cases_lt)

  pub left_out_where_cyclic : (literal : ℕ) → first_cyclic gates ≡ Some literal → IsFirstLeftOut gates list literal
  left_out_where_cyclic literal h =
      let there : first_place < length gates = is_there literal h in
      let some : position (depends_on_cycle gates) gates ≡ Some first_place =
      ap (λ b. cond b (Some first_place) None) (lt-ltb first_place (length gates) there) in
      let told = position-Some (depends_on_cycle gates) gates first_place no_gate some in
      let here : slice_get gates first_place ≡ Some (at gates first_place) =
      slice_get-get_or gates first_place no_gate there in record {
        position = first_place;
        gate = at gates first_place;
        there = here;
        left_out = λ a. true≢false (sym told.1 ∙ free gates list full in_turn first_place there a);
        first = λ earlier before.
            placed_where_free gates list full in_turn earlier (omega (arith, before, there)) (told.2 earlier before);
        own = sym (some_same (own (at gates first_place)) literal
            (ap (option_map own) (sym here) ∙ at_first_place literal h));
      }

  pub cyclic_where_left_out : (literal : ℕ) → IsFirstLeftOut gates list literal → first_cyclic gates ≡ Some literal
  cyclic_where_left_out literal f =
      let there : f.position < length gates = slice_get_within gates f.position f.gate f.there in
      let depends : depends_on_cycle gates (at gates f.position) ≡ true =
      not_false_is_true (depends_on_cycle gates (at gates f.position))
      (λ e. f.left_out (placed_where_free gates list full in_turn f.position there e)) in
      let place : first_place ≡ f.position =
      position_or_len_is (depends_on_cycle gates) gates f.position no_gate (omega (arith, there))
      (λ k before. free gates list full in_turn k (omega (arith, before, there)) (f.first k before)) (λ _. depends) in
      ap (option_map own) (find_at (depends_on_cycle gates) gates ∙ ap (slice_get gates) place ∙ f.there)
      ∙ ap Some (sym f.own)

-- which of the three is reported
abbrev reported : Option ℕ → Option ℕ → Option ℕ → Option Stopped
reported repeat unknown cycle =
    option_or (option_map redefined repeat) (option_or (option_map undefined unknown) (option_map cyclic cycle))

-- what is told, and of what
abbrev kind_told : Option Stopped → Option Kind
kind_told (Some (Refused fault)) = Some fault.kind
kind_told told = None

abbrev subject_told : Option Stopped → Option ℕ
subject_told (Some (Refused fault)) = Some fault.subject
subject_told told = None

is_redefined : (repeat unknown cycle : Option ℕ) (v : ℕ) → reported repeat unknown cycle ≡ Some (redefined v)
    → repeat ≡ Some v
is_redefined (Some x) unknown cycle v h = ap subject_told h
is_redefined None (Some x) cycle v h = let k : Some Undefined ≡ Some Redefined = ap kind_told h in cc
is_redefined None None (Some x) v h = let k : Some Cyclic ≡ Some Redefined = ap kind_told h in cc
is_redefined None None None v h = cc

is_undefined : (repeat unknown cycle : Option ℕ) (l : ℕ) → reported repeat unknown cycle ≡ Some (undefined l)
    → (repeat ≡ None) × (unknown ≡ Some l)
is_undefined (Some x) unknown cycle l h = let k : Some Redefined ≡ Some Undefined = ap kind_told h in cc
is_undefined None (Some x) cycle l h = (refl, ap subject_told h)
is_undefined None None (Some x) l h = let k : Some Cyclic ≡ Some Undefined = ap kind_told h in cc
is_undefined None None None l h = cc

is_cyclic : (repeat unknown cycle : Option ℕ) (l : ℕ) → reported repeat unknown cycle ≡ Some (cyclic l)
    → (repeat ≡ None) × (unknown ≡ None) × (cycle ≡ Some l)
is_cyclic (Some x) unknown cycle l h = let k : Some Redefined ≡ Some Cyclic = ap kind_told h in cc
is_cyclic None (Some x) cycle l h = let k : Some Undefined ≡ Some Cyclic = ap kind_told h in cc
is_cyclic None None (Some x) l h = (refl, refl, ap subject_told h)
is_cyclic None None None l h = cc

module _ (c : Circuit) where
  abbrev repeat : Option ℕ
  repeat = first_repeat set.empty (defined_variables c)

  abbrev unknown : Option ℕ
  unknown = first_unknown (with_all set.empty (defined_variables c)) (used_literals c)

  pub redefined_exactly : (v : ℕ) → (first_structural_fault c ≡ Some (redefined v))
      ↔ IsFirstRepeat (defined_variables c) v
  redefined_exactly v = (
    λ h. (repeats_are_found (defined_variables c) v).0 (is_redefined repeat unknown (first_cyclic c.gates) v h),
    λ f. ap (λ o. reported o unknown (first_cyclic c.gates)) ((repeats_are_found (defined_variables c) v).1 f),
  )

  pub undefined_exactly : (l : ℕ) → (first_structural_fault c ≡ Some (undefined l))
      ↔ (AreDistinct (defined_variables c) × IsFirstUnknown (defined_variables c) (used_literals c) l)
  undefined_exactly l = (
    λ h. let is = is_undefined repeat unknown (first_cyclic c.gates) l h in (
      (no_repeat_where_distinct (defined_variables c)).0 is.0,
      (unknowns_are_found (defined_variables c) (used_literals c) l).0 is.1,
    ),
    λ f.
        ap (λ o. reported o unknown (first_cyclic c.gates)) ((no_repeat_where_distinct (defined_variables c)).1 f.0)
        ∙ ap (λ o. reported None o (first_cyclic c.gates))
        ((unknowns_are_found (defined_variables c) (used_literals c) l).1 f.1),
  )

  -- where there is neither of the other two
  cyclic_where : (l : ℕ) → (first_structural_fault c ≡ Some (cyclic l))
      ↔ (IsFullyDefined c × (first_cyclic c.gates ≡ Some l))
  cyclic_where l = search (rules, is_cyclic, no_repeat_where_distinct, all_known, none_unknown)

  pub cyclic_exactly : (list : List ℕ) (l : ℕ) → IsLeastReadyOrder c list
      → (first_structural_fault c ≡ Some (cyclic l)) ↔ (IsFullyDefined c × IsFirstLeftOut c.gates list l)
  cyclic_exactly list l order = (
    λ h. let is = (cyclic_where l).0 h in
        (is.0, left_out_where_cyclic c.gates list order.full order.in_turn l is.1),
    λ f. (cyclic_where l).1 (f.0, cyclic_where_left_out c.gates list order.full order.in_turn l f.1),
  )

  no_rank : AreDistinct (defined_variables c) → (l : ℕ) → first_cyclic c.gates ≡ Some l → ¬ HasRank c.gates
  no_rank once l some ranked =
      let order = a_least_ready_order c in
      let none : first_cyclic c.gates ≡ None = none_cyclic c.gates order.0 order.1.full order.1.in_turn
      ((rank_exactly_where_all_are_ordered c order.0 once order.1).0 ranked) in
      let both : None ≡ Some l = sym none ∙ some in cc

  pub cycle_exactly_where_no_rank :
      ((l : ℕ) × (first_structural_fault c ≡ Some (cyclic l))) ↔ (IsFullyDefined c × (¬ HasRank c.gates))
  cycle_exactly_where_no_rank = (
    λ h. let is = (cyclic_where h.0).0 h.1 in (is.0, no_rank is.0.0 h.0 is.1),
    λ f.
        elim (first_cyclic c.gates) as (λ o. first_cyclic c.gates ≡ o
        → (l : ℕ) × (first_structural_fault c ≡ Some (cyclic l))) [
          | None ↦ λ none. absurd (f.1 (ranked_where_none_cyclic c f.0.0 none))
          | Some l ↦ λ some. (l, (cyclic_where l).1 (f.0, some))
        ] refl,
  )
