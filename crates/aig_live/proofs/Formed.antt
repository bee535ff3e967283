-- The circuit with a loop is well formed where its largest index is within limits.
use Rattle.std.proofs.Common.{◌≡◌, ◌<◌, ◌≤◌, ◌+◌, ◌*◌, ◌%◌, ◌++◌, ◌∷◌, ◌∙◌, ◌⊎◌, ℕ, List, [], ap, ap₂, arith}
use Rattle.std.proofs.Common.{⊎_elim, inl, inr, length, length-append, map, max, min, nat_le, refl, subst, sym, zero}
use Rattle.std.proofs.Common.{if◌then◌else◌, get_or, rules, suc}
use Rattle.std.specs.List.{AllByRecursion, Contains, concat, flat_map}
use Rattle.std.proofs.lemmas.Bool.{cases_lt}
use Rattle.std.proofs.lemmas.Grind.{flat_map-append}
use Rattle.std.proofs.lemmas.List.{length-map, map-append}
use Rattle.std.proofs.lemmas.List.Elements.{All-contains, All-from_recursion, Contains-append_cases}
use Rattle.aig_circuit.specs.declared.circuit.Circuit.{Circuit}
use Rattle.aig_circuit.specs.declared.circuit.Gate.{Gate}
use Rattle.aig_circuit.specs.declared.circuit.Latch.{Latch}
use Rattle.aig_circuit.specs.Literal.{literal_of, negation_of, variable_of}
use Rattle.aig_circuit.specs.Wellformed.{AreDistinct, IsAmong, IsKnown, IsRank, IsVariableUpTo, IsWellFormed}
use Rattle.aig_circuit.specs.Wellformed.{defined_variables, largest_index, operands, used_literals}
use Rattle.aig_circuit.proofs.Checking.{definitions_fit, each, joined}
use Rattle.aig_topo.proofs.Ordering.Counted.{among_first, among_either}
use Rattle.aig_topo.proofs.Ordering.Cyclic.{among_last}
use Rattle.aig_meaning.specs.Meaning.{latch_variables, next_literals}
use Rattle.aig_meaning.proofs.Related.{AreDefined, IsDefined, distinct_apart, distinct_front, known_bad}
use Rattle.aig_meaning.proofs.Related.{known_constraints, known_next, known_operands, known_outputs, variables_of}
use Rattle.aig_unroll.specs.Unrolled.{chain_behind, chained, gate_of}
use Rattle.aig_lasso.specs.Goals.{with_goals}
use Rattle.aig_lasso.proofs.GoalsShown.{goals_are_well_formed}
use Rattle.aig_live.specs.Laws.{MadeIsWellFormed, live}
use Rattle.aig_live.specs.WithLoop.{alike, alike_literals, closed, closing_gates, closing_literals, comparing_gates}
use Rattle.aig_live.specs.WithLoop.{compared, copied, copying, entered, first_closed, first_compared, first_copied}
use Rattle.aig_live.specs.WithLoop.{first_copy, first_here, first_met, first_noted, here, here_gates, inside, negated}
use Rattle.aig_live.specs.WithLoop.{new_gates, new_latches, noted, noting, one_for_each, outside, save, saving}
use Rattle.aig_live.specs.WithLoop.{with_loop}
use Rattle.aig_live.proofs.Sizes.{alike_many, mets_many}

-- ---- numbers one behind the other, from this one up to that

abbrev IsRun : ℕ → ℕ → List ℕ → Type 0
IsRun u w [] = u ≡ w
IsRun u w (x ∷ xs) = (x ≡ u) × IsRun (u + 1) w xs

run_same : (u v w z : ℕ) (xs : List ℕ) → u ≡ v → w ≡ z → IsRun u w xs → IsRun v z xs
run_same u v w z xs first second run =
    subst (λ (s : ℕ). IsRun s z xs) first (subst (λ (t : ℕ). IsRun u t xs) second run)

run_upto : (u w : ℕ) (xs : List ℕ) → IsRun u w xs → u ≤ w
run_upto u w [] run = omega (arith, run)
run_upto u w (x ∷ xs) run = let rest = run_upto (u + 1) w xs run.1 in omega (arith, rest)

run_length : (u w : ℕ) (xs : List ℕ) → IsRun u w xs → u + length xs ≡ w
run_length u w [] run = omega (arith, run)
run_length u w (x ∷ xs) run = let rest = run_length (u + 1) w xs run.1 in omega (arith, rest)

in_run : (u w x : ℕ) (xs : List ℕ) → IsRun u w xs → u ≤ x → x < w → IsAmong x xs
in_run u w x [] run low high = absurd (omega (arith, run, low, high))
in_run u w x (y ∷ ys) run low high = elim (cases_lt u x) [
  | inl later ↦ inr (in_run (u + 1) w x ys run.1 (omega (arith, later)) high)
  | inr first ↦ inl (omega (arith, run.0, low, first))
]

of_run : (u w x : ℕ) (xs : List ℕ) → IsRun u w xs → IsAmong x xs → (u ≤ x) × (x < w)
of_run u w x [] run among = absurd among
of_run u w x (y ∷ ys) run among =
    let rest = run_upto (u + 1) w ys run.1 in
    ⊎_elim (λ (e : x ≡ y). (omega (arith, e, run.0), omega (arith, e, run.0, rest)))
    (λ (later : IsAmong x ys).
    let there = of_run (u + 1) w x ys run.1 later in (omega (arith, there.0), there.1)) among

run_distinct : (u w : ℕ) (xs : List ℕ) → IsRun u w xs → AreDistinct xs
run_distinct u w [] run = tt
run_distinct u w (x ∷ xs) run = (
  λ among. let there = of_run (u + 1) w x xs run.1 among in omega (arith, there.0, run.0),
  run_distinct (u + 1) w xs run.1,
)

-- lists of latches and gates whose variables are runs
latches_join : (u v w : ℕ) (xs ys : List Latch) → IsRun u v (map (λ (l : Latch). l.var) xs)
    → IsRun v w (map (λ (l : Latch). l.var) ys) → IsRun u w (map (λ (l : Latch). l.var) (xs ++ ys))
latches_join u v w [] ys first second =
    subst (λ (t : ℕ). IsRun t w (map (λ (l : Latch). l.var) ys)) (sym first) second
latches_join u v w (x ∷ xs) ys first second = (first.0, latches_join (u + 1) v w xs ys first.1 second)

gates_join : (u v w : ℕ) (xs ys : List Gate) → IsRun u v (variables_of xs) → IsRun v w (variables_of ys)
    → IsRun u w (variables_of (xs ++ ys))
gates_join u v w [] ys first second = subst (λ (t : ℕ). IsRun t w (variables_of ys)) (sym first) second
gates_join u v w (x ∷ xs) ys first second = (first.0, gates_join (u + 1) v w xs ys first.1 second)

copying_run : (v q : ℕ) (xs : List ℕ) → IsRun q (q + length xs) (map (λ (l : Latch). l.var) (copying v q xs))
copying_run v q [] = omega arith
copying_run v q (x ∷ xs) = (
  refl,
  run_same (q + 1) (q + 1) (q + 1 + length xs) (q + length (x ∷ xs))
      (map (λ (l : Latch). l.var) (copying (v + 3) (q + 1) xs)) refl (omega arith) (copying_run (v + 3) (q + 1) xs),
)

noting_run : (v m : ℕ) (gs : List ℕ) → IsRun m (m + length gs) (map (λ (l : Latch). l.var) (noting v m gs))
noting_run v m [] = omega arith
noting_run v m (g ∷ gs) = (
  refl,
  run_same (m + 1) (m + 1) (m + 1 + length gs) (m + length (g ∷ gs))
      (map (λ (l : Latch). l.var) (noting (v + 2) (m + 1) gs)) refl (omega arith) (noting_run (v + 2) (m + 1) gs),
)

compared_run : (v q : ℕ) (xs : List ℕ) → IsRun v (v + 3 * length xs) (variables_of (compared v q xs))
compared_run v q [] = omega arith
compared_run v q (x ∷ xs) =
    let rest : IsRun (v + 1 + 1 + 1) (v + 3 * length (x ∷ xs)) (variables_of (compared (v + 3) (q + 1) xs)) =
    run_same (v + 3) (v + 1 + 1 + 1) (v + 3 + 3 * length xs) (v + 3 * length (x ∷ xs))
    (variables_of (compared (v + 3) (q + 1) xs)) (omega arith) (omega arith) (compared_run (v + 3) (q + 1) xs) in
    (refl, (refl, (omega arith, rest)))

copied_run : (v q now : ℕ) (xs : List ℕ) → IsRun v (v + 3 * length xs) (variables_of (copied v q now xs))
copied_run v q now [] = omega arith
copied_run v q now (x ∷ xs) =
    let rest : IsRun (v + 1 + 1 + 1) (v + 3 * length (x ∷ xs)) (variables_of (copied (v + 3) (q + 1) now xs)) =
    run_same (v + 3) (v + 1 + 1 + 1) (v + 3 + 3 * length xs) (v + 3 * length (x ∷ xs))
    (variables_of (copied (v + 3) (q + 1) now xs)) (omega arith) (omega arith)
    (copied_run (v + 3) (q + 1) now xs) in
    (refl, (refl, (omega arith, rest)))

noted_run : (v m i : ℕ) (gs : List ℕ) → IsRun v (v + 2 * length gs) (variables_of (noted v m i gs))
noted_run v m i [] = omega arith
noted_run v m i (g ∷ gs) =
    let rest : IsRun (v + 1 + 1) (v + 2 * length (g ∷ gs)) (variables_of (noted (v + 2) (m + 1) i gs)) =
    run_same (v + 2) (v + 1 + 1) (v + 2 + 2 * length gs) (v + 2 * length (g ∷ gs))
    (variables_of (noted (v + 2) (m + 1) i gs)) (omega arith) (omega arith) (noted_run (v + 2) (m + 1) i gs) in
    (refl, (refl, rest))

chained_run : (v ch : ℕ) (ls : List ℕ) → IsRun v (v + length ls) (variables_of (chained v ch ls))
chained_run v ch [] = omega arith
chained_run v ch (l ∷ ls) = (
  refl,
  run_same (v + 1) (v + 1) (v + 1 + length ls) (v + length (l ∷ ls)) (variables_of (chained (v + 1) (literal_of v) ls))
      refl (omega arith) (chained_run (v + 1) (literal_of v) ls),
)

-- ---- lists of distinct numbers

distinct_back : (xs ys : List ℕ) → AreDistinct (xs ++ ys) → AreDistinct ys
distinct_back [] ys once = once
distinct_back (x ∷ xs) ys once = distinct_back xs ys once.1

distinct_join : (xs ys : List ℕ) → AreDistinct xs → AreDistinct ys → ((v : ℕ) → IsAmong v xs → ¬ IsAmong v ys)
    → AreDistinct (xs ++ ys)
distinct_join [] ys first second apart = second
distinct_join (x ∷ xs) ys first second apart = (
  λ a. ⊎_elim (λ (i : IsAmong x xs). first.0 i) (λ (j : IsAmong x ys). apart x (inl refl) j) (among_either x xs ys a),
  distinct_join xs ys first.1 second (λ v i. apart v (inr i)),
)

all_of : (P : ℕ → Type 0) (xs : List ℕ) → ((x : ℕ) → IsAmong x xs → P x) → AllByRecursion P xs
all_of P [] holds = tt
all_of P (x ∷ xs) holds = (holds x (inl refl), all_of P xs (λ y i. holds y (inr i)))

-- ---- literals

of_literal : (v : ℕ) → variable_of (literal_of v) ≡ v
of_literal v = omega arith

negation_variable : (l : ℕ) → variable_of (negation_of l) ≡ variable_of l
negation_variable l = elim (cases_lt 0 (l % 2)) [
  | inl odd ↦ let sign : l % 2 ≡ 1 = omega arith in rw sign (omega arith)
  | inr even ↦ let sign : l % 2 ≡ 0 = omega arith in rw sign (omega arith)
]

of_negated : (v : ℕ) → variable_of (negated v) ≡ v
of_negated v = negation_variable (literal_of v) ∙ of_literal v

of_larger : (P : ℕ → Type 0) (a b : ℕ) → P a → P b → P (max a b)
of_larger P a b of_a of_b = elim (cases_lt a b) [
  | inl less ↦ let e : max a b ≡ b = omega arith in rw e of_b
  | inr more ↦ let e : max a b ≡ a = omega arith in rw e of_a
]

of_smaller : (P : ℕ → Type 0) (a b : ℕ) → P a → P b → P (min a b)
of_smaller P a b of_a of_b = elim (cases_lt a b) [
  | inl less ↦ let e : min a b ≡ a = omega arith in rw e of_a
  | inr more ↦ let e : min a b ≡ b = omega arith in rw e of_b
]

chain_holds : (P : ℕ → Type 0) (v ch : ℕ) (ls : List ℕ) → P ch
    → ((k : ℕ) → v ≤ k → k < v + length ls → P (literal_of k)) → P (chain_behind v ch ls)
chain_holds P v ch [] first each_one_too = first
chain_holds P v ch (l ∷ ls) first each_one_too =
    chain_holds P (v + 1) (literal_of v) ls (each_one_too v (omega arith) (omega arith))
    (λ k low high. each_one_too k (omega (arith, low)) (omega (arith, high)))

-- a gate's variable stands among those of the gates
named : (gates : List Gate) (g : Gate) → Contains gates g → IsAmong g.var (variables_of gates)
named gates g is = at gates is.0 is.1 is.2 where
  at : (gs : List Gate) (i : ℕ) → i < length gs → get_or gs i g ≡ g → IsAmong g.var (variables_of gs)
  at [] i below same = absurd (omega arith)
  at (x ∷ xs) zero below same = inl (ap (λ (h : Gate). h.var) (sym same))
  at (x ∷ xs) (suc i) below same = inr (at xs i (omega arith) same)

-- the ranks of gates are at most their sum
abbrev total : (ℕ → ℕ) → List Gate → ℕ
total rank [] = 0
total rank (g ∷ gs) = rank g.var + total rank gs

within_total : (rank : ℕ → ℕ) (gates : List Gate) (g : Gate) → Contains gates g → rank g.var ≤ total rank gates
within_total rank gates g is = at gates is.0 is.1 is.2 where
  at : (gs : List Gate) (i : ℕ) → i < length gs → get_or gs i g ≡ g → rank g.var ≤ total rank gs
  at [] i below same = absurd (omega arith)
  at (x ∷ xs) zero below same =
      let e : rank x.var ≡ rank g.var = ap (λ (h : Gate). rank h.var) same in omega (arith, e)
  at (x ∷ xs) (suc i) below same = let rest = at xs i (omega arith) same in omega (arith, rest)

abbrev rank_behind : (ℕ → ℕ) → ℕ → ℕ → ℕ → ℕ
rank_behind rank n top x = if nat_le x n then rank x else top + x

rank_stays : (rank : ℕ → ℕ) (n top x : ℕ) → x ≤ n → rank_behind rank n top x ≡ rank x
rank_stays rank n top x low = search (rules, cases_lt)

rank_is_new : (rank : ℕ → ℕ) (n top x : ℕ) → n < x → rank_behind rank n top x ≡ top + x
rank_is_new rank n top x high = search (rules, cases_lt)

-- ---- operands

module _ (c : Circuit) (good : IsWellFormed c) where
  -- a literal that a gate of this variable may have as operand: one that there was, or a new one before it
  abbrev MayUse : ℕ → ℕ → Type 0
  MayUse v l = IsDefined c l ⊎ ((c.max_var < variable_of l) × (variable_of l < v))

  later : (v w l : ℕ) → v ≤ w → MayUse v l → MayUse w l
  later v w l order (inl old) = inl old
  later v w l order (inr new) = inr (new.0, omega (arith, new.1, order))

  all_later : (v w : ℕ) (ls : List ℕ) → v ≤ w → AllByRecursion (MayUse v) ls → AllByRecursion (MayUse w) ls
  all_later v w [] order uses = tt
  all_later v w (l ∷ ls) order uses = (later v w l order uses.0, all_later v w ls order uses.1)

  plain : (v q : ℕ) → c.max_var < q → q < v → MayUse v (literal_of q)
  plain v q low high = inr (omega (arith, of_literal q, low), omega (arith, of_literal q, high))

  minus : (v q : ℕ) → c.max_var < q → q < v → MayUse v (negated q)
  minus v q low high = inr (omega (arith, of_negated q, low), omega (arith, of_negated q, high))

  old_negation : (v l : ℕ) → MayUse v l → MayUse v (negation_of l)
  old_negation v l (inl old) =
      inl (subst (λ (x : ℕ). (x ≡ 0) ⊎ IsAmong x (defined_variables c)) (sym (negation_variable l)) old)
  old_negation v l (inr new) = inr
      (omega (arith, negation_variable l, new.0), omega (arith, negation_variable l, new.1))

  abbrev UsesRight : Gate → Type 0
  UsesRight g = MayUse g.var g.left × MayUse g.var g.right

  right_gate : (v a b : ℕ) → MayUse v a → MayUse v b → UsesRight (gate_of v a b)
  right_gate v a b of_a of_b = (of_larger (MayUse v) a b of_a of_b, of_smaller (MayUse v) a b of_a of_b)

  compared_right : (v q : ℕ) (xs : List ℕ) → c.max_var < q → q + length xs ≤ v
      → AllByRecursion (λ (x : ℕ). IsDefined c (literal_of x)) xs → AllByRecursion UsesRight (compared v q xs)
  compared_right v q [] low room known = tt
  compared_right v q (x ∷ xs) low room known = (
    right_gate v (literal_of x) (literal_of q) (inl known.0) (plain v q low (omega (arith, room))),
    (
      right_gate (v + 1) (negated x) (negated q) (old_negation (v + 1) (literal_of x) (inl known.0))
          (minus (v + 1) q low (omega (arith, room))),
      (
        right_gate (v + 2) (negated v) (negated (v + 1)) (minus (v + 2) v (omega (arith, low, room)) (omega arith))
            (minus (v + 2) (v + 1) (omega (arith, low, room)) (omega arith)),
        compared_right (v + 3) (q + 1) xs (omega (arith, low)) (omega (arith, room)) known.1,
      ),
    ),
  )

  copied_right : (v q now : ℕ) (xs : List ℕ) → c.max_var < q → q + length xs ≤ v → MayUse v now
      → AllByRecursion (λ (x : ℕ). IsDefined c (literal_of x)) xs → AllByRecursion UsesRight (copied v q now xs)
  copied_right v q now [] low room uses known = tt
  copied_right v q now (x ∷ xs) low room uses known = (
    right_gate v now (literal_of x) uses (inl known.0),
    (
      right_gate (v + 1) (negation_of now) (literal_of q)
          (old_negation (v + 1) now (later v (v + 1) now (omega arith) uses))
          (plain (v + 1) q low (omega (arith, room))),
      (
        right_gate (v + 2) (negated v) (negated (v + 1)) (minus (v + 2) v (omega (arith, low, room)) (omega arith))
            (minus (v + 2) (v + 1) (omega (arith, low, room)) (omega arith)),
        copied_right (v + 3) (q + 1) now xs (omega (arith, low)) (omega (arith, room))
            (later v (v + 3) now (omega arith) uses) known.1,
      ),
    ),
  )

  noted_right : (v m i : ℕ) (gs : List ℕ) → c.max_var < m → m + length gs ≤ v → MayUse v i
      → AreDefined c gs → AllByRecursion UsesRight (noted v m i gs)
  noted_right v m i [] low room uses known = tt
  noted_right v m i (g ∷ gs) low room uses known = (
    right_gate v i g uses (inl known.0),
    (
      right_gate (v + 1) (negated v) (negated m) (minus (v + 1) v (omega (arith, low, room)) (omega arith))
          (minus (v + 1) m low (omega (arith, room))),
      noted_right (v + 2) (m + 1) i gs (omega (arith, low)) (omega (arith, room)) (later v (v + 2) i (omega arith) uses)
          known.1,
    ),
  )

  chained_right : (v ch : ℕ) (ls : List ℕ) → c.max_var < v → MayUse v ch → AllByRecursion (MayUse v) ls
      → AllByRecursion UsesRight (chained v ch ls)
  chained_right v ch [] low uses known = tt
  chained_right v ch (l ∷ ls) low uses known = (
    right_gate v ch l uses known.0,
    chained_right (v + 1) (literal_of v) ls (omega (arith, low)) (plain (v + 1) v low (omega arith))
        (all_later v (v + 1) ls (omega arith) known.1),
  )

  alike_right : (v w : ℕ) (xs : List ℕ) → c.max_var < v → v + 3 * length xs ≤ w → AllByRecursion (MayUse w) (alike v xs)
  alike_right v w [] low room = tt
  alike_right v w (x ∷ xs) low room = (
    minus w (v + 2) (omega (arith, low)) (omega (arith, room)),
    alike_right (v + 3) w xs (omega (arith, low)) (omega (arith, room)),
  )

  ones_right : (m w : ℕ) (gs : List ℕ) → c.max_var < m → m + length gs ≤ w
      → AllByRecursion (MayUse w) (map literal_of (one_for_each m gs))
  ones_right m w [] low room = tt
  ones_right m w (g ∷ gs) low room = (
    plain w m low (omega (arith, room)),
    ones_right (m + 1) w gs (omega (arith, low)) (omega (arith, room)),
  )

  one_right : (v : ℕ) → MayUse v 1
  one_right v = inl (inl refl)

  copying_right : (v q w : ℕ) (xs : List ℕ) → c.max_var < v → v + 3 * length xs ≤ w
      → AllByRecursion (MayUse w) (map (λ (l : Latch). l.next) (copying v q xs))
  copying_right v q w [] low room = tt
  copying_right v q w (x ∷ xs) low room = (
    minus w (v + 2) (omega (arith, low)) (omega (arith, room)),
    copying_right (v + 3) (q + 1) w xs (omega (arith, low)) (omega (arith, room)),
  )

  noting_right : (v m w : ℕ) (gs : List ℕ) → c.max_var < v → v + 2 * length gs ≤ w
      → AllByRecursion (MayUse w) (map (λ (l : Latch). l.next) (noting v m gs))
  noting_right v m w [] low room = tt
  noting_right v m w (g ∷ gs) low room = (
    minus w (v + 1) (omega (arith, low)) (omega (arith, room)),
    noting_right (v + 2) (m + 1) w gs (omega (arith, low)) (omega (arith, room)),
  )

  -- the operands of gates are such literals, each below a bound of theirs
  operands_right : (u w : ℕ) (gs : List Gate) → IsRun u w (variables_of gs) → AllByRecursion UsesRight gs
      → AllByRecursion (MayUse w) (flat_map operands gs)
  operands_right u w [] run uses = tt
  operands_right u w (g ∷ gs) run uses =
      let rest = run_upto (u + 1) w (variables_of gs) run.1 in (
        later g.var w g.left (omega (arith, run.0, rest)) uses.0.0,
        (
          later g.var w g.right (omega (arith, run.0, rest)) uses.0.1,
          operands_right (u + 1) w gs run.1 uses.1,
        ),
      )

  state_known : AllByRecursion (λ (x : ℕ). IsDefined c (literal_of x)) (latch_variables c)
  state_known =
      all_of (λ (x : ℕ). IsDefined c (literal_of x)) (latch_variables c)
      (λ x i. inr (subst (λ (y : ℕ). IsAmong y (defined_variables c)) (sym (of_literal x))
      (among_first x (c.inputs ++ latch_variables c) (variables_of c.gates)
      (among_last c.inputs (latch_variables c) x i))))

  low : (v : ℕ) → IsAmong v (defined_variables c) → (1 ≤ v) × (v ≤ c.max_var)
  low v i = each (IsVariableUpTo c.max_var) (defined_variables c) good.in_range v i

  low_known : (l : ℕ) → IsDefined c l → variable_of l ≤ c.max_var
  low_known l (inl is) = omega (arith, is)
  low_known l (inr i) = (low (variable_of l) i).1

-- ---- the whole

module _ (n : ℕ) (c₀ : Circuit) (good : IsWellFormed (with_goals n c₀))
    (room : (with_loop (with_goals n c₀)).max_var ≤ largest_index) where
  abbrev c : Circuit
  c = with_goals n c₀

  abbrev made : Circuit
  made = with_loop c

  abbrev end : ℕ
  end = first_closed c + 1 + length c.bad + 1

  latch_count : length (latch_variables c) ≡ length c.latches
  latch_count = length-map c.latches (λ (l : Latch). l.var)

  closing_count : length (closing_literals c) ≡ length c.bad + 2
  closing_count = omega (arith, mets_many (first_met c) c.bad)

  abbrev part_noted : List Gate
  part_noted = noted (first_noted c) (first_met c) (inside c) c.bad

  abbrev part_copied : List Gate
  part_copied = copied (first_copied c) (first_copy c) (literal_of (saving c)) (latch_variables c)

  closed_run : IsRun (first_closed c) end (variables_of (closing_gates c))
  closed_run =
      run_same (first_closed c) (first_closed c) (first_closed c + length (closing_literals c)) end
      (variables_of (closing_gates c)) refl (omega (arith, closing_count))
      (chained_run (first_closed c) 1 (closing_literals c))

  noted_on : IsRun (first_noted c) end (variables_of (part_noted ++ closing_gates c))
  noted_on =
      gates_join (first_noted c) (first_closed c) end part_noted (closing_gates c)
      (noted_run (first_noted c) (first_met c) (inside c) c.bad) closed_run

  abbrev from_outside : List Gate
  from_outside = gate_of (outside c) (negated (entered c)) (negated (save c)) ∷ (part_noted ++ closing_gates c)

  outside_on : IsRun (outside c) end (variables_of from_outside)
  outside_on = (refl, noted_on)

  here_on : IsRun (first_here c) end (variables_of (here_gates c ++ from_outside))
  here_on =
      gates_join (first_here c) (outside c) end (here_gates c) from_outside
      (run_same (first_here c) (first_here c) (first_here c + length (alike_literals c)) (outside c)
      (variables_of (here_gates c)) refl (omega (arith, alike_many (first_compared c) c.latches))
      (chained_run (first_here c) 1 (alike_literals c))) outside_on

  compared_on : IsRun (first_compared c) end (variables_of (comparing_gates c ++ (here_gates c ++ from_outside)))
  compared_on =
      gates_join (first_compared c) (first_here c) end (comparing_gates c) (here_gates c ++ from_outside)
      (run_same (first_compared c) (first_compared c) (first_compared c + 3 * length (latch_variables c)) (first_here c)
      (variables_of (comparing_gates c)) refl (omega (arith, latch_count))
      (compared_run (first_compared c) (first_copy c) (latch_variables c))) here_on

  copied_on : IsRun (first_copied c) end
      (variables_of (part_copied ++ (comparing_gates c ++ (here_gates c ++ from_outside))))
  copied_on =
      gates_join (first_copied c) (first_compared c) end part_copied
      (comparing_gates c ++ (here_gates c ++ from_outside))
      (run_same (first_copied c) (first_copied c) (first_copied c + 3 * length (latch_variables c)) (first_compared c)
      (variables_of part_copied) refl (omega (arith, latch_count))
      (copied_run (first_copied c) (first_copy c) (literal_of (saving c)) (latch_variables c))) compared_on

  gates_run : IsRun (saving c) end (variables_of (new_gates c))
  gates_run = (refl, copied_on)

  abbrev new_vars : List ℕ
  new_vars = map (λ (l : Latch). l.var) (new_latches c)

  latches_run : IsRun (entered c) (saving c) new_vars
  latches_run =
      let copies_run =
      run_same (first_copy c) (entered c + 1) (first_copy c + length (latch_variables c)) (first_met c)
      (map (λ (l : Latch). l.var) (copying (first_copied c) (first_copy c) (latch_variables c))) (omega arith)
      (omega (arith, latch_count)) (copying_run (first_copied c) (first_copy c) (latch_variables c)) in (
        refl,
        latches_join (entered c + 1) (first_met c) (saving c)
            (copying (first_copied c) (first_copy c) (latch_variables c)) (noting (first_noted c) (first_met c) c.bad)
            copies_run (noting_run (first_noted c) (first_met c) c.bad),
      )

  abbrev own : List ℕ
  own = c.inputs ++ latch_variables c

  abbrev own_gates : List ℕ
  own_gates = variables_of c.gates

  abbrev front_all : List ℕ
  front_all = (c.inputs ++ (save c ∷ [])) ++ (latch_variables c ++ new_vars)

  abbrev back_all : List ℕ
  back_all = own_gates ++ variables_of (new_gates c)

  defined_is : defined_variables made ≡ front_all ++ back_all
  defined_is =
      ap₂ (λ (ls gs : List ℕ). ((c.inputs ++ (save c ∷ [])) ++ ls) ++ gs)
      (map-append (λ (l : Latch). l.var) c.latches (new_latches c))
      (map-append (λ (g : Gate). g.var) c.gates (new_gates c))

  -- who stands in front, and who behind
  of_front : (v : ℕ) → IsAmong v front_all → IsAmong v own ⊎ ((c.max_var < v) × (v < saving c))
  of_front v i =
      ⊎_elim (λ (first : IsAmong v (c.inputs ++ (save c ∷ []))).
      ⊎_elim (λ (a : IsAmong v c.inputs). inl (among_first v c.inputs (latch_variables c) a))
      (λ (s : IsAmong v (save c ∷ [])).
      ⊎_elim (λ (e : v ≡ save c). inr (omega (arith, e), omega (arith, e))) (λ (none : ⊥). absurd none) s)
      (among_either v c.inputs (save c ∷ []) first))
      (λ (second : IsAmong v (latch_variables c ++ new_vars)).
      ⊎_elim (λ (a : IsAmong v (latch_variables c)). inl (among_last c.inputs (latch_variables c) v a))
      (λ (new : IsAmong v new_vars).
      let there = of_run (entered c) (saving c) v new_vars latches_run new in
      inr (omega (arith, there.0), there.1))
      (among_either v (latch_variables c) new_vars second))
      (among_either v (c.inputs ++ (save c ∷ [])) (latch_variables c ++ new_vars) i)

  of_back : (v : ℕ) → IsAmong v back_all → IsAmong v own_gates ⊎ ((saving c ≤ v) × (v < end))
  of_back v i =
      ⊎_elim (λ (a : IsAmong v own_gates). inl a)
      (λ (new : IsAmong v (variables_of (new_gates c))).
      inr (of_run (saving c) end v (variables_of (new_gates c)) gates_run new))
      (among_either v own_gates (variables_of (new_gates c)) i)

  in_own : (v : ℕ) → IsAmong v own → IsAmong v (defined_variables c)
  in_own v i = among_first v own own_gates i

  in_gates : (v : ℕ) → IsAmong v own_gates → IsAmong v (defined_variables c)
  in_gates v i = among_last own own_gates v i

  low_there : (v : ℕ) → IsAmong v (defined_variables c) → (1 ≤ v) × (v ≤ c.max_var)
  low_there v i = low c good v i

  input_in : (v : ℕ) → IsAmong v c.inputs → IsAmong v (defined_variables c)
  input_in v i = in_own v (among_first v c.inputs (latch_variables c) i)

  latch_in : (v : ℕ) → IsAmong v (latch_variables c) → IsAmong v (defined_variables c)
  latch_in v i = in_own v (among_last c.inputs (latch_variables c) v i)

  own_once : AreDistinct own
  own_once = distinct_front own own_gates good.once

  inputs_once : AreDistinct (c.inputs ++ (save c ∷ []))
  inputs_once =
      distinct_join c.inputs (save c ∷ []) (distinct_front c.inputs (latch_variables c) own_once) ((λ a. a), tt)
      (λ v i j. ⊎_elim (λ (e : v ≡ save c). let r = low_there v (input_in v i) in omega (arith, r.1, e))
      (λ (none : ⊥). none) j)

  latches_once : AreDistinct (latch_variables c ++ new_vars)
  latches_once =
      distinct_join (latch_variables c) new_vars (distinct_back c.inputs (latch_variables c) own_once)
      (run_distinct (entered c) (saving c) new_vars latches_run)
      (λ v i j.
      let r = low_there v (latch_in v i) in
      let there = of_run (entered c) (saving c) v new_vars latches_run j in omega (arith, r.1, there.0))

  front_once : AreDistinct front_all
  front_once =
      distinct_join (c.inputs ++ (save c ∷ [])) (latch_variables c ++ new_vars) inputs_once latches_once
      (λ v i j.
      ⊎_elim (λ (a : IsAmong v c.inputs).
      ⊎_elim (λ (b : IsAmong v (latch_variables c)). distinct_apart c.inputs (latch_variables c) own_once v a b)
      (λ (b : IsAmong v new_vars).
      let r = low_there v (input_in v a) in
      let there = of_run (entered c) (saving c) v new_vars latches_run b in omega (arith, r.1, there.0))
      (among_either v (latch_variables c) new_vars j))
      (λ (s : IsAmong v (save c ∷ [])).
      ⊎_elim (λ (e : v ≡ save c).
      ⊎_elim (λ (b : IsAmong v (latch_variables c)).
      let r = low_there v (latch_in v b) in omega (arith, r.1, e))
      (λ (b : IsAmong v new_vars).
      let there = of_run (entered c) (saving c) v new_vars latches_run b in omega (arith, e, there.0))
      (among_either v (latch_variables c) new_vars j)) (λ (none : ⊥). none) s)
      (among_either v c.inputs (save c ∷ []) i))

  back_once : AreDistinct back_all
  back_once =
      distinct_join own_gates (variables_of (new_gates c)) (distinct_back own own_gates good.once)
      (run_distinct (saving c) end (variables_of (new_gates c)) gates_run)
      (λ v i j.
      let r = low_there v (in_gates v i) in
      let there = of_run (saving c) end v (variables_of (new_gates c)) gates_run j in omega (arith, r.1, there.0))

  all_once : AreDistinct (front_all ++ back_all)
  all_once =
      distinct_join front_all back_all front_once back_once
      (λ v i j.
      ⊎_elim (λ (a : IsAmong v own).
      ⊎_elim (λ (b : IsAmong v own_gates). distinct_apart own own_gates good.once v a b)
      (λ (b : (saving c ≤ v) × (v < end)). let r = low_there v (in_own v a) in omega (arith, r.1, b.0)) (of_back v j))
      (λ (a : (c.max_var < v) × (v < saving c)).
      ⊎_elim (λ (b : IsAmong v own_gates). let r = low_there v (in_gates v b) in omega (arith, r.1, a.0))
      (λ (b : (saving c ≤ v) × (v < end)). omega (arith, a.1, b.0)) (of_back v j)) (of_front v i))

  in_range : AllByRecursion (IsVariableUpTo made.max_var) (front_all ++ back_all)
  in_range =
      all_of (IsVariableUpTo made.max_var) (front_all ++ back_all)
      (λ v i.
      ⊎_elim (λ (first : IsAmong v front_all).
      ⊎_elim (λ (a : IsAmong v own). let r = low_there v (in_own v a) in (r.0, omega (arith, r.1)))
      (λ (a : (c.max_var < v) × (v < saving c)). (omega (arith, a.0), omega (arith, a.1))) (of_front v first))
      (λ (second : IsAmong v back_all).
      ⊎_elim (λ (b : IsAmong v own_gates). let r = low_there v (in_gates v b) in (r.0, omega (arith, r.1)))
      (λ (b : (saving c ≤ v) × (v < end)). (omega (arith, b.0), omega (arith, b.1))) (of_back v second))
      (among_either v front_all back_all i))

  -- what was known is, and so is what is new
  old_there : (v : ℕ) → IsAmong v (defined_variables c) → IsAmong v (front_all ++ back_all)
  old_there v i =
      ⊎_elim (λ (a : IsAmong v own).
      among_first v front_all back_all
      (⊎_elim (λ (b : IsAmong v c.inputs).
      among_first v (c.inputs ++ (save c ∷ [])) (latch_variables c ++ new_vars)
      (among_first v c.inputs (save c ∷ []) b))
      (λ (b : IsAmong v (latch_variables c)).
      among_last (c.inputs ++ (save c ∷ [])) (latch_variables c ++ new_vars) v
      (among_first v (latch_variables c) new_vars b))
      (among_either v c.inputs (latch_variables c) a)))
      (λ (a : IsAmong v own_gates).
      among_last front_all back_all v (among_first v own_gates (variables_of (new_gates c)) a))
      (among_either v own own_gates i)

  new_there : (v : ℕ) → c.max_var < v → v < end → IsAmong v (front_all ++ back_all)
  new_there v above below = elim (cases_lt v (saving c)) [
    | inl in_front ↦ elim (cases_lt v (entered c)) [
      | inl first ↦
          let same : v ≡ save c = omega (arith, above, first) in
          among_first v front_all back_all
          (among_first v (c.inputs ++ (save c ∷ [])) (latch_variables c ++ new_vars)
          (among_last c.inputs (save c ∷ []) v (inl same)))
      | inr later_one ↦
          among_first v front_all back_all
          (among_last (c.inputs ++ (save c ∷ [])) (latch_variables c ++ new_vars) v
          (among_last (latch_variables c) new_vars v
          (in_run (entered c) (saving c) v new_vars latches_run later_one in_front)))
    ]
    | inr in_back ↦
        among_last front_all back_all v
        (among_last own_gates (variables_of (new_gates c)) v
        (in_run (saving c) end v (variables_of (new_gates c)) gates_run in_back below))
  ]

  abbrev Known : ℕ → Type 0
  Known l = IsKnown (front_all ++ back_all) l

  known_by : (l : ℕ) → MayUse c good end l → Known l
  known_by l (inl (inl is)) = inl is
  known_by l (inl (inr i)) = inr (old_there (variable_of l) i)
  known_by l (inr new) = inr (new_there (variable_of l) new.0 new.1)

  all_known_by : (ls : List ℕ) → AllByRecursion (MayUse c good end) ls → AllByRecursion Known ls
  all_known_by [] uses = tt
  all_known_by (l ∷ ls) uses = (known_by l uses.0, all_known_by ls uses.1)

  old_known : (ls : List ℕ) → AreDefined c ls → AllByRecursion Known ls
  old_known [] known = tt
  old_known (l ∷ ls) known = (known_by l (inl known.0), old_known ls known.1)

  -- the new gates use what they may
  here_right : MayUse c good (first_closed c) (here c)
  here_right =
      chain_holds (MayUse c good (first_closed c)) (first_here c) 1 (alike_literals c)
      (one_right c good (first_closed c))
      (λ k low_k high_k.
      plain c good (first_closed c) k (omega (arith, low_k))
      (omega (arith, high_k, alike_many (first_compared c) c.latches)))

  closing_right : AllByRecursion (MayUse c good (first_closed c)) (closing_literals c)
  closing_right = (
    plain c good (first_closed c) (entered c) (omega arith) (omega arith),
    (here_right, ones_right c good (first_met c) (first_closed c) c.bad (omega arith) (omega arith)),
  )

  gates_right : AllByRecursion (UsesRight c good) (new_gates c)
  gates_right =
      let part_1 = chained_right c good (first_closed c) 1 (closing_literals c) (omega arith)
      (one_right c good (first_closed c)) closing_right in
      let part_2 = noted_right c good (first_noted c) (first_met c) (inside c) c.bad (omega arith) (omega arith)
      (minus c good (first_noted c) (outside c) (omega arith) (omega arith)) (known_bad c good) in
      let part_3 = right_gate c good (outside c) (negated (entered c)) (negated (save c))
      (minus c good (outside c) (entered c) (omega arith) (omega arith))
      (minus c good (outside c) (save c) (omega arith) (omega arith)) in
      let part_4 = chained_right c good (first_here c) 1 (alike_literals c) (omega arith)
      (one_right c good (first_here c))
      (alike_right c good (first_compared c) (first_here c) (latch_variables c) (omega arith)
      (omega (arith, latch_count))) in
      let part_5 = compared_right c good (first_compared c) (first_copy c) (latch_variables c) (omega arith)
      (omega (arith, latch_count)) (state_known c good) in
      let part_6 = copied_right c good (first_copied c) (first_copy c) (literal_of (saving c)) (latch_variables c)
      (omega arith) (omega (arith, latch_count))
      (plain c good (first_copied c) (saving c) (omega arith) (omega arith)) (state_known c good) in
      let part_7 = right_gate c good (saving c) (literal_of (save c)) (negated (entered c))
      (plain c good (saving c) (save c) (omega arith) (omega arith))
      (minus c good (saving c) (entered c) (omega arith) (omega arith)) in (
        part_7,
        together part_copied (comparing_gates c ++ (here_gates c ++ from_outside)) part_6
            (together (comparing_gates c) (here_gates c ++ from_outside) part_5
            (together (here_gates c) from_outside part_4
            (part_3, together part_noted (closing_gates c) part_2 part_1))),
      )
    where
      together : (xs ys : List Gate) → AllByRecursion (UsesRight c good) xs → AllByRecursion (UsesRight c good) ys
          → AllByRecursion (UsesRight c good) (xs ++ ys)
      together [] ys first second = second
      together (x ∷ xs) ys first second = (first.0, together xs ys first.1 second)

  -- ---- the ranks

  module _ (rank : ℕ → ℕ) (is_rank : IsRank rank c.gates) where
    abbrev top : ℕ
    top = 1 + total rank c.gates

    abbrev rank_now : ℕ → ℕ
    rank_now = rank_behind rank c.max_var top

    low_gate : (g : Gate) → Contains c.gates g → g.var ≤ c.max_var
    low_gate g is = (low_there g.var (in_gates g.var (named c.gates g is))).1

    new_gate : (g : Gate) → Contains (new_gates c) g → saving c ≤ g.var
    new_gate g is =
        (of_run (saving c) end g.var (variables_of (new_gates c)) gates_run (named (new_gates c) g is)).0

    low_operand : (g : Gate) → Contains c.gates g → (v : ℕ) → IsAmong v (map variable_of (operands g)) → v ≤ c.max_var
    low_operand g is v among =
        let known = known_operands c good g is in
        ⊎_elim (λ (e : v ≡ variable_of g.left). omega (arith, e, low_known c good g.left known.0))
        (λ (later_one : IsAmong v (variable_of g.right ∷ [])).
        ⊎_elim (λ (e : v ≡ variable_of g.right). omega (arith, e, low_known c good g.right known.1))
        (λ (none : ⊥). absurd none) later_one) among

    -- of an operand of a new gate
    abbrev IsBelow : ℕ → ℕ → Type 0
    IsBelow u v = (v ≤ c.max_var) ⊎ ((c.max_var < v) × (v < u))

    below_by : (u l : ℕ) → MayUse c good u l → IsBelow u (variable_of l)
    below_by u l (inl old) = inl (low_known c good l old)
    below_by u l (inr new) = inr new

    new_operand : (g : Gate) → UsesRight c good g → (v : ℕ) → IsAmong v (map variable_of (operands g))
        → IsBelow g.var v
    new_operand g uses v among =
        ⊎_elim (λ (e : v ≡ variable_of g.left). subst (IsBelow g.var) (sym e) (below_by g.var g.left uses.0))
        (λ (later_one : IsAmong v (variable_of g.right ∷ [])).
        ⊎_elim (λ (e : v ≡ variable_of g.right). subst (IsBelow g.var) (sym e) (below_by g.var g.right uses.1))
        (λ (none : ⊥). absurd none) later_one) among

    of_old : (g h : Gate) → Contains c.gates g → Contains (c.gates ++ new_gates c) h
        → IsAmong h.var (map variable_of (operands g)) → rank_now h.var < rank_now g.var
    of_old g h g_in h_in among =
        let small = low_operand g g_in h.var among in
        ⊎_elim (λ (old : Contains c.gates h).
        rw (rank_stays rank c.max_var top h.var small, rank_stays rank c.max_var top g.var (low_gate g g_in))
        (is_rank g h g_in old among))
        (λ (new : Contains (new_gates c) h). absurd (omega (arith, small, new_gate h new)))
        (Contains-append_cases c.gates (new_gates c) h h_in)

    of_new : (g h : Gate) → Contains (new_gates c) g → Contains (c.gates ++ new_gates c) h
        → IsAmong h.var (map variable_of (operands g)) → rank_now h.var < rank_now g.var
    of_new g h g_in h_in among =
        let large = new_gate g g_in in
        let high : c.max_var < g.var = omega (arith, large) in
        let uses : UsesRight c good g =
        All-contains (UsesRight c good) (new_gates c) g
        (All-from_recursion (UsesRight c good) (new_gates c) gates_right) g_in in
        let is_new = rank_is_new rank c.max_var top g.var high in
        ⊎_elim (λ (small : h.var ≤ c.max_var).
        ⊎_elim (λ (old : Contains c.gates h).
        let bound = within_total rank c.gates h old in
        omega (arith, is_new, rank_stays rank c.max_var top h.var small, bound))
        (λ (new : Contains (new_gates c) h). absurd (omega (arith, small, new_gate h new)))
        (Contains-append_cases c.gates (new_gates c) h h_in))
        (λ (there : (c.max_var < h.var) × (h.var < g.var)).
        omega (arith, is_new, rank_is_new rank c.max_var top h.var there.0, there.1))
        (new_operand g uses h.var among)

    ranked_now : IsRank rank_now (c.gates ++ new_gates c)
    ranked_now g h g_in h_in among =
        ⊎_elim (λ (old : Contains c.gates g). of_old g h old h_in among)
        (λ (new : Contains (new_gates c) g). of_new g h new h_in among)
        (Contains-append_cases c.gates (new_gates c) g g_in)

  -- ---- what is used is known

  nexts_known : AllByRecursion Known (next_literals made)
  nexts_known =
      subst (AllByRecursion Known) (sym (map-append (λ (l : Latch). l.next) c.latches (new_latches c)))
      (joined Known (next_literals c) (map (λ (l : Latch). l.next) (new_latches c))
      (old_known (next_literals c) (known_next c good)) (
        known_by (inside c) (minus c good end (outside c) (omega arith) (omega arith)),
        subst (AllByRecursion Known)
            (sym (map-append (λ (l : Latch). l.next) (copying (first_copied c) (first_copy c) (latch_variables c))
            (noting (first_noted c) (first_met c) c.bad)))
            (joined Known (map (λ (l : Latch). l.next) (copying (first_copied c) (first_copy c) (latch_variables c)))
            (map (λ (l : Latch). l.next) (noting (first_noted c) (first_met c) c.bad))
            (all_known_by (map (λ (l : Latch). l.next) (copying (first_copied c) (first_copy c) (latch_variables c)))
            (copying_right c good (first_copied c) (first_copy c) end (latch_variables c) (omega arith)
            (omega (arith, latch_count))))
            (all_known_by (map (λ (l : Latch). l.next) (noting (first_noted c) (first_met c) c.bad))
            (noting_right c good (first_noted c) (first_met c) end c.bad (omega arith) (omega arith)))),
      ))

  closed_known : Known (closed c)
  closed_known =
      known_by (closed c)
      (chain_holds (MayUse c good end) (first_closed c) 1 (closing_literals c) (one_right c good end)
      (λ k low_k high_k.
      plain c good end k (omega (arith, low_k)) (omega (arith, high_k, closing_count))))

  lists_known : AllByRecursion Known (c.outputs ++ (closed c ∷ (c.constraints ++ [])))
  lists_known =
      joined Known c.outputs (closed c ∷ (c.constraints ++ [])) (old_known c.outputs (known_outputs c good))
      (closed_known, joined Known c.constraints [] (old_known c.constraints (known_constraints c good)) tt)

  operands_known : AllByRecursion Known (flat_map operands made.gates)
  operands_known =
      subst (AllByRecursion Known) (sym (flat_map-append operands c.gates (new_gates c)))
      (joined Known (flat_map operands c.gates) (flat_map operands (new_gates c)) old_operands
      (all_known_by (flat_map operands (new_gates c))
      (operands_right c good (saving c) end (new_gates c) gates_run gates_right)))
    where
      old_operands : AllByRecursion Known (flat_map operands c.gates)
      old_operands =
          old_known (flat_map operands c.gates)
          (all_of (IsDefined c) (flat_map operands c.gates)
          (λ l i. each (IsDefined c) (used_literals c) good.known l
          (among_last
          (next_literals c ++ concat (c.outputs ∷ c.bad ∷ c.constraints ∷ c.justice.literals ∷ c.fairness ∷ []))
          (flat_map operands c.gates) l i)))

  gates_count : saving c + length (new_gates c) ≡ end
  gates_count =
      ap (λ (k : ℕ). saving c + k) (sym (length-map (new_gates c) (λ (g : Gate). g.var)))
      ∙ run_length (saving c) end (variables_of (new_gates c)) gates_run

  latches_many : entered c + length (new_latches c) ≡ saving c
  latches_many =
      ap (λ (k : ℕ). entered c + k) (sym (length-map (new_latches c) (λ (l : Latch). l.var)))
      ∙ run_length (entered c) (saving c) new_vars latches_run

  made_is_formed : IsWellFormed made
  made_is_formed =
      let fit = definitions_fit c good in
      record {
        limits = record {
          max_var = room;
          inputs = omega (arith, fit, room, length-append c.inputs (save c ∷ []));
          latches = omega (arith, fit, room, length-append c.latches (new_latches c), latches_many);
          literals =
              let before = good.limits.literals in
              (before.0, (omega (arith, room), (before.1.1.0, (omega arith, (omega arith, tt)))));
          justice = omega arith;
          sizes = refl;
          gates = omega (arith, fit, room, length-append c.gates (new_gates c), gates_count);
        };
        in_range = subst (AllByRecursion (IsVariableUpTo made.max_var)) (sym defined_is) in_range;
        once = subst AreDistinct (sym defined_is) all_once;
        known = subst (λ (vs : List ℕ). AllByRecursion (IsKnown vs) (used_literals made)) (sym defined_is)
            (joined Known (next_literals made ++ concat (c.outputs ∷ (closed c ∷ []) ∷ c.constraints ∷ [] ∷ [] ∷ []))
            (flat_map operands made.gates)
            (joined Known (next_literals made) (concat (c.outputs ∷ (closed c ∷ []) ∷ c.constraints ∷ [] ∷ [] ∷ []))
            nexts_known lists_known) operands_known);
        symbols = record { positions = tt; apart = tt; lines = tt };
        ranked = (rank_now good.ranked.0 good.ranked.1, ranked_now good.ranked.0 good.ranked.1);
      }

pub goals_within : (c : Circuit) (property : ℕ) → IsWellFormed c → (live property c).max_var ≤ largest_index
    → IsWellFormed (with_goals property c)
goals_within c property good room = goals_are_well_formed c property (omega (arith, room)) good

pub made_is_well_formed : MadeIsWellFormed
made_is_well_formed c property good room = made_is_formed property c (goals_within c property good room) room
