-- What satisfies the clauses by a plan is completed: each gate that is left out gets its value.
use Rattle.std.proofs.Common.{◌≡◌, ◌≢◌, ◌∙◌, ◌∷◌, ◌++◌, ◌%◌, ◌&&◌, ◌||◌, ℕ, zero, suc, List, [], Bool, true, false, not}
use Rattle.std.proofs.Common.{refl, sym, ap, ap₂, subst, inl, inr, ⊎_elim, arith, cond, eqb, get_or, map}
use Rattle.std.specs.List.{AllByRecursion, Contains, flat_map, list_any, zip}
use Rattle.std.proofs.lemmas.Bool.{cond_both}
use Rattle.std.proofs.lemmas.Bool.Decides.{Decides-eqb}
use Rattle.std.proofs.lemmas.List.Elements.{recursion_from_All}
use Rattle.std.proofs.lemmas.Simd.{map-map}
use Rattle.std.proofs.lemmas.Slice.Zip.{firsts-zip}
use Rattle.aig_circuit.specs.declared.circuit.Gate.{Gate}
use Rattle.aig_circuit.specs.declared.circuit.Circuit.{Circuit}
use Rattle.aig_circuit.specs.Literal.{literal_of, negation_of, variable_of}
use Rattle.aig_circuit.specs.Wellformed.{AreDistinct, IsAmong, IsVariableUpTo, IsWellFormed, defined_variables}
use Rattle.aig_circuit.proofs.Checking.{back, each, front, joined}
use Rattle.aig_topo.proofs.Ordering.Counted.{among_first}
use Rattle.aig_topo.proofs.Ordering.Cyclic.{among_last}
use Rattle.aig_meaning.specs.Meaning.{Holds, latch_variables}
use Rattle.aig_meaning.proofs.Related.{distinct_apart, map_same, variables_of}
use Rattle.aig_cnf.specs.Clauses.{HasTrue, Satisfies, gate_clauses, is_true, step_clauses, truths}
use Rattle.aig_cnf.proofs.Steps.{clauses_are_steps, gates_satisfied}
use Rattle.aig_cnf.proofs.Truths.{gate_holds, gate_satisfied, negation_true}
use Rattle.aig_cuts.specs.declared.cut.Multiplexer.{Multiplexer}
use Rattle.aig_cuts.specs.declared.cut.Cut.{Cut}
use Rattle.aig_cuts.specs.declared.cut.Cut.TheVariants.{Plain, Inner, Choice}
use Rattle.aig_cuts.specs.Cuts.{IsAndOf, IsChoice, IsCutOf, IsKept, Planned, clauses_as}
use Rattle.aig_cuts.specs.Cuts.{planned_clauses}
use Rattle.aig_cuts.specs.Laws.{CutsAreCompleted, CutsFollow}
use Rattle.aig_cuts.proofs.Choosing.{Evaluates, evaluates_where, from_choice, holds_where, into_choice, negated}
use Rattle.aig_cuts.proofs.Choosing.{unchosen, value, value_of}

here : {X : Type 0} (x : X) (xs : List X) → Contains (x ∷ xs) x
here x xs = (zero, omega arith, refl)

later : {X : Type 0} (x : X) (xs : List X) (y : X) → Contains xs y → Contains (x ∷ xs) y
later x xs y c = (suc c.0, omega (arith, c.1), c.2)

-- what is so of all that a list has is so all along it
all_along : {X : Type 0} (P : X → Type 0) (xs : List X) → ((x : X) → Contains xs x → P x) → AllByRecursion P xs
all_along P [] each = tt
all_along P (x ∷ xs) each = (each x (here x xs), all_along P xs (λ y i. each y (later x xs y i)))

among_here : {X : Type 0} (f : X → ℕ) (xs : List X) (y : X) → Contains xs y → IsAmong (f y) (map f xs)
among_here f [] y (k, below, is) = absurd (omega (arith, below))
among_here f (x ∷ xs) y (zero, below, is) = inl (ap f (sym is))
among_here f (x ∷ xs) y (suc k, below, is) = inr (among_here f xs y (k, omega (arith, below), is))

-- where what is read off is distinct, it tells the items apart
told_apart : {X : Type 0} (f : X → ℕ) (xs : List X) → AreDistinct (map f xs) → (x y : X) → Contains xs x
    → Contains xs y → f x ≡ f y → x ≡ y
told_apart f [] once x y (k, below, is) c e = absurd (omega (arith, below))
told_apart f (z ∷ zs) once x y (zero, below, is) (zero, below_too, is_too) e = sym is ∙ is_too
told_apart f (z ∷ zs) once x y (zero, below, is) (suc k, below_too, is_too) e =
    absurd (once.0 (subst (λ v. IsAmong v (map f zs)) (sym e ∙ ap f (sym is))
    (among_here f zs y (k, omega (arith, below_too), is_too))))
told_apart f (z ∷ zs) once x y (suc k, below, is) (zero, below_too, is_too) e =
    absurd (once.0 (subst (λ v. IsAmong v (map f zs)) (e ∙ ap f (sym is_too))
    (among_here f zs x (k, omega (arith, below), is))))
told_apart f (z ∷ zs) once x y (suc k, below, is) (suc j, below_too, is_too) e =
    told_apart f zs once.1 x y (k, omega (arith, below), is) (j, omega (arith, below_too), is_too) e

no_plain : Plain ≢ Inner
no_plain is = cc

no_choice : (m : Multiplexer) → Choice m ≢ Inner
no_choice m is = cc

module _ (a : ℕ → Bool) where
  -- values of gates that are left out, and else those of before
  completed : List Planned → ℕ → Bool
  completed [] v = a v
  completed ((g, Plain) ∷ ps) v = completed ps v
  completed ((g, Inner) ∷ ps) v = cond (eqb g.var v) (value a g) (completed ps v)
  completed ((g, Choice m) ∷ ps) v = completed ps v

  completed_kept : (ps : List Planned) (v : ℕ) → IsKept ps v → completed ps v ≡ a v
  unfolding completed
  completed_kept [] v out = refl
  completed_kept ((g, Plain) ∷ ps) v out = completed_kept ps v (λ h i. out h (later (g, Plain) ps (h, Inner) i))
  completed_kept ((g, Choice m) ∷ ps) v out =
      completed_kept ps v (λ h i. out h (later (g, Choice m) ps (h, Inner) i))
  completed_kept ((g, Inner) ∷ ps) v out =
      cond_both (eqb g.var v) (value a g) (completed ps v) (λ x. x ≡ a v)
      (λ e. absurd (out g (here (g, Inner) ps) ((Decides-eqb g.var v).0 e)))
      (λ _. completed_kept ps v (λ h i. out h (later (g, Inner) ps (h, Inner) i)))

  completed_inner : (ps : List Planned) (g : Gate) → Contains ps (g, Inner)
      → ((h : Gate) → Contains ps (h, Inner) → h.var ≡ g.var → h ≡ g) → completed ps g.var ≡ value a g
  unfolding completed
  completed_inner [] g (k, below, is) only = absurd (omega (arith, below))
  completed_inner ((h, Plain) ∷ ps) g (zero, below, is) only = absurd (no_plain (ap (λ (p : Planned). p.1) is))
  completed_inner ((h, Choice m) ∷ ps) g (zero, below, is) only = absurd (no_choice m (ap (λ (p : Planned). p.1) is))
  completed_inner ((h, Inner) ∷ ps) g (zero, below, is) only =
      let same : h ≡ g = ap (λ (p : Planned). p.0) is in
      cond_both (eqb h.var g.var) (value a h) (completed ps g.var) (λ x. x ≡ value a g) (λ _. ap (value a) same)
      (λ e. let no : false ≡ true = sym e ∙ (Decides-eqb h.var g.var).1 (ap (λ (x : Gate). x.var) same) in cc)
  completed_inner ((h, Plain) ∷ ps) g (suc k, below, is) only =
      completed_inner ps g (k, omega (arith, below), is) (λ x i. only x (later (h, Plain) ps (x, Inner) i))
  completed_inner ((h, Choice m) ∷ ps) g (suc k, below, is) only =
      completed_inner ps g (k, omega (arith, below), is) (λ x i. only x (later (h, Choice m) ps (x, Inner) i))
  completed_inner ((h, Inner) ∷ ps) g (suc k, below, is) only =
      cond_both (eqb h.var g.var) (value a h) (completed ps g.var) (λ x. x ≡ value a g)
      (λ e. ap (value a) (only h (here (h, Inner) ps) ((Decides-eqb h.var g.var).0 e)))
      (λ _. completed_inner ps g (k, omega (arith, below), is) (λ x i. only x (later (h, Inner) ps (x, Inner) i)))

-- Two gates of which a choice is made, where each has its value.
choice_value : (b : ℕ → Bool) (ps : List Planned) (g : Gate) (m : Multiplexer) (is : IsChoice ps g m)
    → Evaluates b is.at_one → Evaluates b is.at_zero → value b g ≡ unchosen b m
choice_value b ps g m is one zero_too =
    let s = is_true b m.selector in
    let t = is_true b m.if_one in
    let e = is_true b m.if_zero in
    let first : is_true b (negation_of (literal_of is.at_one.var)) ≡ not (s && t) =
    negated b is.at_one.var ∙ ap not (one ∙ value_of b is.at_one m.selector m.if_one is.if_one) in
    let second : is_true b (negation_of (literal_of is.at_zero.var)) ≡ not (not s && e) =
    negated b is.at_zero.var
    ∙ ap not (zero_too ∙ value_of b is.at_zero (negation_of m.selector) m.if_zero is.if_zero
    ∙ ap (λ x. x && e) (negation_true b m.selector)) in
    value_of b g (negation_of (literal_of is.at_one.var)) (negation_of (literal_of is.at_zero.var)) is.neither
    ∙ ap₂ (λ x y. x && y) first second

among_distinct : (xs ys : List ℕ) → AreDistinct (xs ++ ys) → AreDistinct ys
among_distinct [] ys once = once
among_distinct (x ∷ xs) ys once = among_distinct xs ys once.1

contains_first : (ps : List Planned) (p : Planned) → Contains ps p → Contains (map (λ (q : Planned). q.0) ps) p.0
contains_first [] p (k, below, is) = absurd (omega (arith, below))
contains_first (q ∷ qs) p (zero, below, is) = (zero, omega arith, ap (λ (x : Planned). x.0) is)
contains_first (q ∷ qs) p (suc k, below, is) =
    later q.0 (map (λ (x : Planned). x.0) qs) p.0 (contains_first qs p (k, omega (arith, below), is))

of_firsts : (P : Gate → Type 0) (ps : List Planned) → AllByRecursion (λ (p : Planned). P p.0) ps
    → AllByRecursion P (map (λ (p : Planned). p.0) ps)
of_firsts P [] all = tt
of_firsts P (p ∷ ps) all = (all.0, of_firsts P ps all.1)

module _ (a : ℕ → Bool) where
  planned_at : (ps : List Planned) → Satisfies a (planned_clauses ps) → (p : Planned) → Contains ps p
      → Satisfies a (clauses_as p.0 p.1)
  planned_at [] s p (k, below, is) = absurd (omega (arith, below))
  planned_at (q ∷ qs) s p (zero, below, is) =
      subst (λ (x : Planned). Satisfies a (clauses_as x.0 x.1)) is
      (front (HasTrue a) (clauses_as q.0 q.1) (planned_clauses qs) s)
  planned_at (q ∷ qs) s p (suc k, below, is) =
      planned_at qs (back (HasTrue a) (clauses_as q.0 q.1) (planned_clauses qs) s) p (k, omega (arith, below), is)

  planned_satisfied : (ps : List Planned) → AllByRecursion (λ (p : Planned). Satisfies a (clauses_as p.0 p.1)) ps
      → Satisfies a (planned_clauses ps)
  planned_satisfied [] all = tt
  planned_satisfied (p ∷ ps) all =
      joined (HasTrue a) (clauses_as p.0 p.1) (planned_clauses ps) all.0 (planned_satisfied ps all.1)

  same_any : (b : ℕ → Bool) (ls : List ℕ) → AllByRecursion (λ l. is_true b l ≡ is_true a l) ls
      → list_any (is_true b) ls ≡ list_any (is_true a) ls
  same_any b [] same = refl
  same_any b (l ∷ ls) same = ap₂ (λ x y. x || y) same.0 (same_any b ls same.1)

module _ (plan : List Cut) (c : Circuit) (right : IsCutOf plan c) where
  abbrev planned : List Planned
  planned = zip c.gates plan

  its_gates : map (λ (p : Planned). p.0) planned ≡ c.gates
  its_gates = firsts-zip c.gates plan right.many

  gate_in : (g : Gate) (cut : Cut) → Contains planned (g, cut) → Contains c.gates g
  gate_in g cut g_in = subst (λ (gs : List Gate). Contains gs g) its_gates (contains_first planned (g, cut) g_in)

  -- What satisfies the clauses of the circuit.
  module _ (a : ℕ → Bool) (steps : Satisfies a (step_clauses c)) where
    evaluates : (g : Gate) (cut : Cut) → Contains planned (g, cut) → Evaluates a g
    evaluates g cut g_in =
        let is = (clauses_are_steps c a).0 steps in
        evaluates_where a g (is.gates g (gate_in g cut g_in))

    written : (g : Gate) (cut : Cut) → Contains planned (g, cut) → Satisfies a (clauses_as g cut)
    written g Plain g_in = gate_satisfied a g (holds_where a g (evaluates g Plain g_in))
    written g Inner g_in = tt
    written g (Choice m) g_in =
        let is = right.gates g (Choice m) g_in in
        into_choice a g.var m
        (evaluates g (Choice m) g_in
        ∙ choice_value a planned g m is (evaluates is.at_one Inner is.one_out) (evaluates is.at_zero Inner is.zero_out))

    planned_too : Satisfies a (planned_clauses planned)
    planned_too =
        planned_satisfied a planned
        (all_along (λ (p : Planned). Satisfies a (clauses_as p.0 p.1)) planned (λ p p_in. written p.0 p.1 p_in))

  -- What satisfies those by the plan.
  module _ (formed : IsWellFormed c) (a : ℕ → Bool) (s : Satisfies a (planned_clauses planned)) where
    abbrev b : ℕ → Bool
    b = completed a planned

    abbrev name : Planned → ℕ
    name p = p.0.var

    its_names : map name planned ≡ variables_of c.gates
    its_names = sym (map-map (λ (g : Gate). g.var) (λ (p : Planned). p.0) planned) ∙ ap variables_of its_gates

    one_of_each : (p q : Planned) → Contains planned p → Contains planned q → name p ≡ name q → p ≡ q
    one_of_each =
        told_apart name planned
        (subst AreDistinct (sym its_names)
        (among_distinct (c.inputs ++ latch_variables c) (variables_of c.gates) formed.once))

    named : (p : Planned) → Contains planned p → IsAmong (name p) (variables_of c.gates)
    named p p_in = subst (IsAmong (name p)) its_names (among_here name planned p p_in)

    kept : (v : ℕ) → IsKept planned v → b v ≡ a v
    kept = completed_kept a planned

    kept_literal : (l : ℕ) → IsKept planned (variable_of l) → is_true b l ≡ is_true a l
    kept_literal l is = ap (λ x. cond (eqb (l % 2) 0) x (not x)) (kept (variable_of l) is)

    kept_value : (g : Gate) → IsKept planned (variable_of g.left) × IsKept planned (variable_of g.right)
        → value b g ≡ value a g
    kept_value g is = ap₂ (λ x y. x && y) (kept_literal g.left is.0) (kept_literal g.right is.1)

    -- both of the literals of which a gate is made are kept
    kept_both : (g : Gate) (l m : ℕ) → IsAndOf g l m
        → IsKept planned (variable_of g.left) × IsKept planned (variable_of g.right)
        → (is_true b l ≡ is_true a l) × (is_true b m ≡ is_true a m)
    kept_both g l m is are =
        ⊎_elim (λ (e : (g.left ≡ l) × (g.right ≡ m)). (
          subst (λ x. is_true b x ≡ is_true a x) e.0 (kept_literal g.left are.0),
          subst (λ x. is_true b x ≡ is_true a x) e.1 (kept_literal g.right are.1),
        )) (λ (e : (g.left ≡ m) × (g.right ≡ l)). (
          subst (λ x. is_true b x ≡ is_true a x) e.1 (kept_literal g.right are.1),
          subst (λ x. is_true b x ≡ is_true a x) e.0 (kept_literal g.left are.0),
        )) is

    inner_evaluates : (g : Gate) → Contains planned (g, Inner) → Evaluates b g
    inner_evaluates g g_in =
        completed_inner a planned g g_in
        (λ h h_in e. ap (λ (p : Planned). p.0) (one_of_each (h, Inner) (g, Inner) h_in g_in e))
        ∙ sym (kept_value g (right.gates g Inner g_in))

    kept_choice : (g : Gate) (m : Multiplexer) → IsChoice planned g m → unchosen b m ≡ unchosen a m
    kept_choice g m is =
        let ones = kept_both is.at_one m.selector m.if_one is.if_one (right.gates is.at_one Inner is.one_out) in
        let zeros = kept_both is.at_zero (negation_of m.selector) m.if_zero is.if_zero
        (right.gates is.at_zero Inner is.zero_out) in
        ap₂ (λ x y. not (x && y) && not (not x && is_true b m.if_zero)) ones.0 ones.1
        ∙ ap (λ z. not (is_true a m.selector && is_true a m.if_one) && not (not (is_true a m.selector) && z)) zeros.1

    -- other gates than those that are left out have the values of before
    kept_gate : (g : Gate) (cut : Cut) → Contains planned (g, cut) → cut ≢ Inner → b g.var ≡ a g.var
    kept_gate g cut g_in other =
        kept g.var (λ h h_in e. other
        (sym (ap (λ (p : Planned). p.1) (one_of_each (h, Inner) (g, cut) h_in g_in e))))

    evaluates_all : (g : Gate) (cut : Cut) → Contains planned (g, cut) → Evaluates b g
    evaluates_all g Plain g_in =
        kept_gate g Plain g_in no_plain ∙ evaluates_where a g (gate_holds a g (planned_at a planned s (g, Plain) g_in))
        ∙ sym (kept_value g (right.gates g Plain g_in))
    evaluates_all g Inner g_in = inner_evaluates g g_in
    evaluates_all g (Choice m) g_in =
        let is = right.gates g (Choice m) g_in in
        kept_gate g (Choice m) g_in (no_choice m) ∙ from_choice a g.var m (planned_at a planned s (g, Choice m) g_in)
        ∙ sym (kept_choice g m is)
        ∙ sym (choice_value b planned g m is (inner_evaluates is.at_one is.one_out)
        (inner_evaluates is.at_zero is.zero_out))

    gates_satisfied_too : Satisfies b (flat_map gate_clauses c.gates)
    gates_satisfied_too =
        gates_satisfied b c.gates
        (subst (AllByRecursion (Holds (truths b))) its_gates
        (of_firsts (Holds (truths b)) planned
        (all_along (λ (p : Planned). Holds (truths b) p.0) planned
        (λ p p_in. holds_where b p.0 (evaluates_all p.0 p.1 p_in)))))

    kept_constant : b 0 ≡ a 0
    kept_constant =
        kept 0 (λ h h_in e.
        let among : IsAmong h.var (defined_variables c) =
        among_last (c.inputs ++ latch_variables c) (variables_of c.gates) h.var (named (h, Inner) h_in) in
        let fits = each (IsVariableUpTo c.max_var) (defined_variables c) formed.in_range h.var among in
        absurd (omega (arith, fits.0, e)))

    kept_first : (v : ℕ) → IsAmong v (c.inputs ++ latch_variables c) → b v ≡ a v
    kept_first v among =
        kept v (λ h h_in e.
        distinct_apart (c.inputs ++ latch_variables c) (variables_of c.gates) formed.once v among
        (subst (λ x. IsAmong x (variables_of c.gates)) e (named (h, Inner) h_in)))

    kept_bad : list_any (is_true b) c.bad ≡ list_any (is_true a) c.bad
    kept_bad =
        same_any a b c.bad
        (recursion_from_All (λ l. is_true b l ≡ is_true a l) c.bad
        (λ k l below. kept_literal (get_or c.bad k l) (right.bad k l below)))

pub cuts_follow : CutsFollow
cuts_follow plan c right a s =
    let steps : Satisfies a (step_clauses c) = front (HasTrue a) (step_clauses c) (c.bad ∷ []) s in
    joined (HasTrue a) ((1 ∷ []) ∷ planned_clauses (zip c.gates plan)) (c.bad ∷ [])
    (steps.0, planned_too plan c right a steps) (back (HasTrue a) (step_clauses c) (c.bad ∷ []) s)

pub cuts_are_completed : CutsAreCompleted
cuts_are_completed plan c formed right a s =
    let ps = zip c.gates plan in
    let first = front (HasTrue a) ((1 ∷ []) ∷ planned_clauses ps) (c.bad ∷ []) s in
    let last = back (HasTrue a) ((1 ∷ []) ∷ planned_clauses ps) (c.bad ∷ []) s in
    let b = completed a ps in
    let constant : (not (b 0) || false) ≡ true =
    ap (λ x. not x || false) (kept_constant plan c right formed a first.1) ∙ first.0 in
    let same = kept_first plan c right formed a first.1 in (
      b,
      joined (HasTrue b) (step_clauses c) (c.bad ∷ [])
          (constant, gates_satisfied_too plan c right formed a first.1)
          (kept_bad plan c right formed a first.1 ∙ last.0, tt),
      completed_kept a ps,
      map_same b a c.inputs (λ v among. same v (among_first v c.inputs (latch_variables c) among)),
      map_same b a (latch_variables c) (λ v among. same v (among_last c.inputs (latch_variables c) v among)),
    )
