-- The circuit with the mark of a loop is well formed, and its runs are those of the circuit.
use Rattle.std.proofs.Common.{◌≡◌, ◌<◌, ◌≤◌, ◌+◌, ◌++◌, ◌∙◌, ◌∷◌, ◌⊎◌, ℕ, zero, suc, List, [], ap, ap₂, arith, codes}
use Rattle.std.proofs.Common.{⊎_elim, append_assoc, inl, inr, length, length-append, map, refl, subst, sym}
use Rattle.std.specs.List.{AllByRecursion}
use Rattle.std.proofs.lemmas.List.{map-append}
use Rattle.aig_circuit.specs.declared.circuit.Circuit.{Circuit}
use Rattle.aig_circuit.specs.declared.circuit.Gate.{Gate}
use Rattle.aig_circuit.specs.declared.circuit.Kind.{Kind}
use Rattle.aig_circuit.specs.declared.circuit.Kind.TheVariants as kinds
use Rattle.aig_circuit.specs.declared.circuit.Symbol.{Symbol}
use Rattle.aig_circuit.specs.declared.value.Val.{Val}
use Rattle.aig_circuit.specs.declared.value.Val.TheVariants.{Zero, One}
use Rattle.aig_circuit.specs.Wellformed.{AreDistinct, IsAmong, IsKnown, IsVariableUpTo, IsWellFormed, NameApart}
use Rattle.aig_circuit.specs.Wellformed.{NameTheSame, count_of, defined_variables, largest_index, used_literals}
use Rattle.aig_circuit.specs.Literal.{variable_of}
use Rattle.aig_circuit.proofs.Checking.{all_weaker, back, definitions_fit, each, front, joined}
use Rattle.aig_topo.proofs.Ordering.Counted.{among_either, among_first}
use Rattle.aig_topo.proofs.Ordering.Cyclic.{among_last}
use Rattle.aig_meaning.specs.Meaning.{IsRow, Row, latch_variables}
use Rattle.aig_meaning.specs.Trace.{Follow, IsTrace}
use Rattle.aig_claims.specs.LoopMark.{MarkedRunsAreRuns, loop_symbol, marked_from, marked_row, marked_rows, with_loop_mark}
use Rattle.aig_claims.specs.LoopMark.{with_mark}

-- one number more in a list
in_more : (x v : ℕ) (xs ys : List ℕ) → IsAmong x (xs ++ v ∷ ys) → (x ≡ v) ⊎ IsAmong x (xs ++ ys)
in_more x v xs ys among =
    ⊎_elim (λ (i : IsAmong x xs). inr (among_first x xs ys i))
    (λ (j : IsAmong x (v ∷ ys)).
    ⊎_elim (λ (e : x ≡ v). inl e) (λ (k : IsAmong x ys). inr (among_last xs ys x k)) j)
    (among_either x xs (v ∷ ys) among)

still_in : (x v : ℕ) (xs ys : List ℕ) → IsAmong x (xs ++ ys) → IsAmong x (xs ++ v ∷ ys)
still_in x v xs ys among =
    ⊎_elim (λ (i : IsAmong x xs). among_first x xs (v ∷ ys) i)
    (λ (j : IsAmong x ys). among_last xs (v ∷ ys) x (inr j)) (among_either x xs ys among)

once_more : (v : ℕ) (xs ys : List ℕ) → AreDistinct (xs ++ ys) → ¬ IsAmong v (xs ++ ys) → AreDistinct (xs ++ v ∷ ys)
once_more v [] ys once new = (new, once)
once_more v (x ∷ xs) ys once new = (
  λ among. ⊎_elim (λ (e : x ≡ v). new (inl (sym e))) (λ (a : IsAmong x (xs ++ ys)). once.0 a) (in_more x v xs ys among),
  once_more v xs ys once.1 (λ a. new (inr a)),
)

-- names
not_in_name : ¬ IsAmong 10 (codes "loop")
not_in_name among =
    ⊎_elim (λ (e : 10 ≡ 108). omega (arith, e))
    (λ (more : IsAmong 10 (codes "oop")).
    ⊎_elim (λ (e : 10 ≡ 111). omega (arith, e))
    (λ (rest : IsAmong 10 (codes "op")).
    ⊎_elim (λ (e : 10 ≡ 111). omega (arith, e))
    (λ (last : IsAmong 10 (codes "p")). ⊎_elim (λ (e : 10 ≡ 112). omega (arith, e)) (λ (n : ⊥). n) last) rest) more)
    among

still_apart : (ss : List Symbol) (s : Symbol) → NameApart ss → AllByRecursion (λ t. ¬ NameTheSame t s) ss
    → NameApart (ss ++ s ∷ [])
still_apart [] s apart other = (tt, tt)
still_apart (t ∷ ts) s apart other =
    (joined _ ts (s ∷ []) apart.0 (other.0, tt), still_apart ts s apart.1 other.1)

module _ (c : Circuit) (good : IsWellFormed c) where
  abbrev new : ℕ
  new = c.max_var + 1

  abbrev latches_and_gates : List ℕ
  latches_and_gates = latch_variables c ++ map (λ (g : Gate). g.var) c.gates

  old_is : defined_variables c ≡ c.inputs ++ latches_and_gates
  old_is = append_assoc c.inputs (latch_variables c) (map (λ (g : Gate). g.var) c.gates)

  more_is : defined_variables (with_loop_mark c) ≡ c.inputs ++ new ∷ latches_and_gates
  more_is =
      append_assoc (c.inputs ++ new ∷ []) (latch_variables c) (map (λ (g : Gate). g.var) c.gates)
      ∙ append_assoc c.inputs (new ∷ []) latches_and_gates

  range : AllByRecursion (IsVariableUpTo c.max_var) (c.inputs ++ latches_and_gates)
  range = subst (AllByRecursion (IsVariableUpTo c.max_var)) old_is good.in_range

  is_new : ¬ IsAmong new (c.inputs ++ latches_and_gates)
  is_new among =
      let there = each (IsVariableUpTo c.max_var) (c.inputs ++ latches_and_gates) range new among in
      omega (arith, there.1)

  in_range_more : AllByRecursion (IsVariableUpTo new) (c.inputs ++ new ∷ latches_and_gates)
  in_range_more =
      let wider : AllByRecursion (IsVariableUpTo new) (c.inputs ++ latches_and_gates) =
      all_weaker (IsVariableUpTo c.max_var) (IsVariableUpTo new) (λ x r. (r.0, omega (arith, r.1)))
      (c.inputs ++ latches_and_gates) range in
      joined (IsVariableUpTo new) c.inputs (new ∷ latches_and_gates)
      (front (IsVariableUpTo new) c.inputs latches_and_gates wider)
      ((omega arith, omega arith), back (IsVariableUpTo new) c.inputs latches_and_gates wider)

  known_more : (l : ℕ) → IsKnown (defined_variables c) l → IsKnown (defined_variables (with_loop_mark c)) l
  known_more l (inl is) = inl is
  known_more l (inr among) = inr
      (subst (IsAmong (variable_of l)) (sym more_is)
      (still_in (variable_of l) new c.inputs latches_and_gates (subst (IsAmong (variable_of l)) old_is among)))

  one_more_input : length (with_loop_mark c).inputs ≡ length c.inputs + 1
  one_more_input = length-append c.inputs (new ∷ [])

  no_fewer : (kind : Kind) → count_of c kind ≤ count_of (with_loop_mark c) kind
  no_fewer kinds.Input = omega (arith, one_more_input)
  no_fewer kinds.Latch = omega arith
  no_fewer kinds.Output = omega arith
  no_fewer kinds.Bad = omega arith
  no_fewer kinds.Constraint = omega arith
  no_fewer kinds.Justice = omega arith
  no_fewer kinds.Fairness = omega arith

  in_place : (ss : List Symbol) → AllByRecursion (λ (s : Symbol). s.position < count_of c s.kind) ss
      → AllByRecursion (λ (s : Symbol). s.position < count_of (with_loop_mark c) s.kind) ss
  in_place [] all = tt
  in_place (s ∷ ss) all = (omega (arith, all.0, no_fewer s.kind), in_place ss all.1)

  other_name : (s : Symbol) → s.position < count_of c s.kind → ¬ NameTheSame s (loop_symbol c)
  other_name s low same =
      let there : s.position < count_of c kinds.Input =
      subst (λ (k : Kind). s.position < count_of c k) same.0 low in
      omega (arith, there, same.1)

  other_names : (ss : List Symbol) → AllByRecursion (λ (s : Symbol). s.position < count_of c s.kind) ss
      → AllByRecursion (λ t. ¬ NameTheSame t (loop_symbol c)) ss
  other_names [] all = tt
  other_names (s ∷ ss) all = (other_name s all.0, other_names ss all.1)

  pub marked_is_well_formed : c.max_var < largest_index → IsWellFormed (with_loop_mark c)
  marked_is_well_formed room = record {
    limits = record {
      max_var = omega (arith, room);
      inputs = omega (arith, one_more_input, definitions_fit c good, room);
      latches = good.limits.latches;
      literals = good.limits.literals;
      justice = good.limits.justice;
      sizes = good.limits.sizes;
      gates = good.limits.gates;
    };
    in_range = subst (AllByRecursion (IsVariableUpTo new)) (sym more_is) in_range_more;
    once = subst AreDistinct (sym more_is)
        (once_more new c.inputs latches_and_gates (subst AreDistinct old_is good.once) is_new);
    known = all_weaker (IsKnown (defined_variables c)) (IsKnown (defined_variables (with_loop_mark c))) known_more
        (used_literals c) good.known;
    symbols = record {
      positions = joined _ c.symbols (loop_symbol c ∷ []) (in_place c.symbols good.symbols.positions)
          (omega (arith, one_more_input), tt);
      apart = still_apart c.symbols (loop_symbol c) good.symbols.apart (other_names c.symbols good.symbols.positions);
      lines = joined _ c.symbols (loop_symbol c ∷ []) good.symbols.lines (not_in_name, tt);
    };
    ranked = good.ranked;
  }

-- ---- runs

long_with_mark : (n start : ℕ) (steps : List (List Val))
    → AllByRecursion (λ (given : List Val). length given ≡ n) steps
    → AllByRecursion (λ (given : List Val). length given ≡ n + 1) (marked_from start steps)
long_with_mark n start [] each = tt
long_with_mark n zero (given ∷ steps) each =
    (length-append given (One ∷ []) ∙ ap (λ (k : ℕ). k + 1) each.0, long_with_mark n zero steps each.1)
long_with_mark n (suc start) (given ∷ steps) each =
    (length-append given (Zero ∷ []) ∙ ap (λ (k : ℕ). k + 1) each.0, long_with_mark n start steps each.1)

-- steps with the mark have a value for each input, where those without it do
pub marked_long : (c : Circuit) (start : ℕ) (steps : List (List Val))
    → AllByRecursion (λ (given : List Val). length given ≡ length c.inputs) steps
    → AllByRecursion (λ (given : List Val). length given ≡ length (with_loop_mark c).inputs) (marked_from start steps)
marked_long c start steps each =
    subst (λ (n : ℕ). AllByRecursion (λ (given : List Val). length given ≡ n) (marked_from start steps))
    (sym (length-append c.inputs ((c.max_var + 1) ∷ []))) (long_with_mark (length c.inputs) start steps each)

last_same : {X : Type 0} (xs ys : List X) (x y : X) → xs ++ x ∷ [] ≡ ys ++ y ∷ [] → xs ≡ ys
last_same [] [] x y is = refl
last_same [] (w ∷ []) x y is = cc
last_same [] (w ∷ u ∷ us) x y is = cc
last_same (z ∷ []) [] x y is = cc
last_same (z ∷ w ∷ ws) [] x y is = cc
last_same (z ∷ zs) (w ∷ ws) x y is =
    let rest : zs ++ x ∷ [] ≡ ws ++ y ∷ [] = cc in
    let same = last_same zs ws x y rest in
    cc

module _ (c : Circuit) where
  -- a row of the one is a row of the other, with the mark
  own_row : (mark : Val) (given : List Val) (row : Row) → row.inputs ≡ with_mark mark given → IsRow (with_loop_mark c) row
      → IsRow c (record row { inputs = given })
  own_row mark given row is (a, r) = (
    a,
    record {
      assigned = record {
        constant = r.assigned.constant;
        inputs = last_same (map a c.inputs) given (a (c.max_var + 1)) mark
            (sym (map-append a c.inputs ((c.max_var + 1) ∷ [])) ∙ r.assigned.inputs ∙ is);
        latches = r.assigned.latches;
        gates = r.assigned.gates;
      };
      outputs_shown = r.outputs_shown;
      next_shown = r.next_shown;
      bad_shown = r.bad_shown;
      constraints_shown = r.constraints_shown;
    },
  )

  row_back : (mark : Val) (given : List Val) (row : Row) → row.inputs ≡ with_mark mark given
      → row ≡ marked_row mark (record row { inputs = given })
  row_back mark given row is = ap (λ (vs : List Val). record row { inputs = vs }) is

  abbrev Own : ℕ → List Val → List (List Val) → List Row → Type 0
  Own start state steps rows = (own : List Row) × Follow c state steps own × (rows ≡ marked_rows start own)

  own_run : (start : ℕ) (state : List Val) (steps : List (List Val)) (rows : List Row)
      → Follow (with_loop_mark c) state (marked_from start steps) rows → Own start state steps rows
  own_run start state [] [] follow = ([], tt, refl)
  own_run start state [] (r ∷ rs) follow = absurd follow
  own_run zero state (given ∷ steps) [] follow = absurd follow
  own_run (suc start) state (given ∷ steps) [] follow = absurd follow
  own_run zero state (given ∷ steps) (r ∷ rs) follow =
      let rest = own_run zero r.next steps rs follow.3 in (
        record r { inputs = given } ∷ rest.0,
        (follow.0, refl, own_row One given r follow.1 follow.2, rest.1),
        ap₂ (λ (row : Row) (more : List Row). row ∷ more) (row_back One given r follow.1) rest.2,
      )
  own_run (suc start) state (given ∷ steps) (r ∷ rs) follow =
      let rest = own_run start r.next steps rs follow.3 in (
        record r { inputs = given } ∷ rest.0,
        (follow.0, refl, own_row Zero given r follow.1 follow.2, rest.1),
        ap₂ (λ (row : Row) (more : List Row). row ∷ more) (row_back Zero given r follow.1) rest.2,
      )

pub marked_runs_are_runs : MarkedRunsAreRuns
marked_runs_are_runs c claim start rows trace =
    let own = own_run c start claim.first claim.steps rows trace.1 in (own.0, (trace.0, own.1), own.2)
