-- The levels of variables, while gates are taken after those that they use.
use Rattle.std.proofs.Common.{◌≡◌, ◌≢◌, ◌<◌, ◌≤◌, ◌+◌, ◌⊎◌, ◌∷◌, ◌++◌, ◌∙◌, ℕ, suc, List, [], Option, None, Some, Bool}
use Rattle.std.proofs.Common.{length, map, max, unwrap_or, get_or, drop, drop-cons, eqb, true, false, true≢false, cond}
use Rattle.std.proofs.Common.{refl, sym, ap, ap₂, subst, add-one, inl, inr, ⊎_elim, arith, Contains, nat_cmp}
use Rattle.std.specs.List.{AllByRecursion}
use Rattle.std.specs.Option.{option_or}
use Rattle.std.specs.FinMap.{FinMap, get, empty, get-empty}
use Rattle.std.proofs.lemmas.Bool.{cases_lt}
use Rattle.std.proofs.lemmas.Bool.Decides.{Decides-eqb}
use Rattle.std.proofs.lemmas.List.{get_or_default}
use Rattle.std.proofs.Math.Seq.{drop-length}
use Rattle.aig_circuit.specs.declared.circuit.Gate.{Gate}
use Rattle.aig_circuit.specs.declared.circuit.Circuit.{Circuit}
use Rattle.aig_circuit.specs.declared.circuit.Latch.{Latch}
use Rattle.aig_circuit.specs.Literal.{variable_of}
use Rattle.aig_circuit.specs.Wellformed.{IsAmong, IsWellFormed, AreDistinct, operands}
use Rattle.aig_circuit.proofs.Checking.{each}
use Rattle.aig_tables.specs.VarMap.{with_new}
use Rattle.aig_tables.proofs.Tables.Maps.{get-with_new}
use Rattle.aig_topo.specs.Order.{IsLeastReadyOrder, TakesLeast, gate_of, gate_operands}
use Rattle.aig_topo.proofs.Ordering.Ranked.{at, no_gate, variables, gate_here, needed_by, distinct_back}
use Rattle.aig_topo.proofs.Ordering.Ranked.{rank_exactly_where_all_are_ordered}
use Rattle.aig_topo.proofs.Ordering.LeastReady.{no_longer}
use Rattle.aig_info.specs.Depth.{IsDepth, IsPath}

-- the longest path from a variable has so many gates
pub record IsLevel (gates : List Gate) (v level : ℕ) : Type 0 where
  pub path : List Gate
  pub is_path : IsPath gates v path
  pub size : length path ≡ level
  pub longest : (other : List Gate) → IsPath gates v other → length other ≤ level

-- each gate that is taken has a level, and levels are right and not above the depth
pub record AreLevels (gates : List Gate) (taken : List ℕ) (levels : FinMap nat_cmp ℕ) (depth : ℕ) : Type 0 where
  pub known : (p : ℕ) → IsAmong p taken → get levels (at gates p).var ≢ None
  pub right : (v level : ℕ) → get levels v ≡ Some level → IsLevel gates v level × (level ≤ depth)

none_before : (o : Option ℕ) (b : Bool) (n : ℕ) → option_or o (cond b (Some n) None) ≡ None → (o ≡ None) × (b ≡ false)
none_before None true n e = cc
none_before None false n e = (refl, refl)
none_before (Some old) b n e = cc

found_in : (o : Option ℕ) (b : Bool) (n found : ℕ) → option_or o (cond b (Some n) None) ≡ Some found
    → (o ≡ Some found) ⊎ ((b ≡ true) × (n ≡ found))
found_in None true n found e = inr (refl, cc)
found_in None false n found e = cc
found_in (Some old) b n found e = inl e

stands : (gates : List Gate) (g : Gate) (g_in : Contains gates g) → at gates g_in.0 ≡ g
stands gates g g_in = get_or_default gates g_in.0 no_gate g g_in.1 ∙ g_in.2

module _ (gates : List Gate) (once : AreDistinct (variables gates)) where
  one_gate : (g h : Gate) → Contains gates g → Contains gates h → g.var ≡ h.var → g ≡ h
  one_gate g h g_in h_in e =
      let here_g : gate_of gates g.var ≡ Some g_in.0 =
      rw (stands gates g g_in) at (gate_here gates once g_in.0 g_in.1) in
      let here_h : gate_of gates h.var ≡ Some h_in.0 =
      rw (stands gates h h_in) at (gate_here gates once h_in.0 h_in.1) in
      let same : g_in.0 ≡ h_in.0 = cc in
      sym (stands gates g g_in) ∙ ap (at gates) same ∙ stands gates h h_in

  module _ (g : Gate) (g_in : Contains gates g) (m n : ℕ) (left : IsLevel gates (variable_of g.left) m)
      (right : IsLevel gates (variable_of g.right) n) where
    bounded : (other : List Gate) → IsPath gates g.var other → length other ≤ 1 + max m n
    bounded [] is = omega arith
    bounded (h ∷ other) is =
        let same : h ≡ g = one_gate h g is.0 g_in is.1 in
        ⊎_elim
        (λ (l : IsPath gates (variable_of h.left) other).
        omega (arith, left.longest other (subst (λ (x : Gate). IsPath gates (variable_of x.left) other) same l)))
        (λ (r : IsPath gates (variable_of h.right) other).
        omega (arith, right.longest other (subst (λ (x : Gate). IsPath gates (variable_of x.right) other) same r)))
        is.2

    gate_level : IsLevel gates g.var (1 + max m n)
    gate_level = ⊎_elim
        (λ (below : m < n). record {
          path = g ∷ right.path;
          is_path = (g_in, refl, inr right.is_path);
          size = omega (arith, right.size);
          longest = bounded;
        })
        (λ (above : n ≤ m). record {
          path = g ∷ left.path;
          is_path = (g_in, refl, inl left.is_path);
          size = omega (arith, left.size);
          longest = bounded;
        })
        (cases_lt m n)

  module _ (taken : List ℕ) (levels : FinMap nat_cmp ℕ) (depth : ℕ) (are : AreLevels gates taken levels depth) (p : ℕ)
      (there : p < length gates) (served : AllByRecursion (λ h. IsAmong h taken) (gate_operands gates p)) where
    abbrev level_of : ℕ → ℕ
    level_of v = unwrap_or (get levels v) 0

    -- an operand without a level is no gate's
    no_path : (v : ℕ) → IsAmong v (map variable_of (operands (at gates p))) → get levels v ≡ None → (other : List Gate)
        → IsPath gates v other → length other ≤ 0
    no_path v used none [] is = omega arith
    no_path v used none (h ∷ other) is =
        let q = is.0.0 in
        let var_is : (at gates q).var ≡ v = ap (λ (x : Gate). x.var) (stands gates h is.0) ∙ is.1 in
        let needed = needed_by gates once p q there is.0.1
        (subst (λ x. IsAmong x (map variable_of (operands (at gates p)))) (sym var_is) used) in
        absurd (are.known q (each (λ h. IsAmong h taken) (gate_operands gates p) served q needed)
        (ap (get levels) var_is ∙ none))

    operand_level : (v : ℕ) → IsAmong v (map variable_of (operands (at gates p)))
        → IsLevel gates v (level_of v) × (level_of v ≤ depth)
    operand_level v used =
        elim (get levels v) as (λ o. get levels v ≡ o → IsLevel gates v (unwrap_or o 0) × (unwrap_or o 0 ≤ depth)) [
          | Some level ↦ λ e. are.right v level e
          | None ↦ λ e. (
            record { path = []; is_path = tt; size = refl; longest = no_path v used e },
            omega arith,
          )
        ] refl

    abbrev level : ℕ
    level = 1 + max (level_of (variable_of (at gates p).left)) (level_of (variable_of (at gates p).right))

    level_there : IsLevel gates (at gates p).var level
    level_there =
        gate_level (at gates p) (p, there, sym (get_or_default gates p no_gate (at gates p) there)) _ _
        (operand_level (variable_of (at gates p).left) (inl refl)).0
        (operand_level (variable_of (at gates p).right) (inr (inl refl))).0

    level_small : level ≤ 1 + depth
    level_small =
        omega (
          arith,
          (operand_level (variable_of (at gates p).left) (inl refl)).1,
          (operand_level (variable_of (at gates p).right) (inr (inl refl))).1,
        )

    -- one gate more
    one_more : AreLevels gates (p ∷ taken) (with_new levels (at gates p).var level) (max depth level)
    one_more = record {
      known = λ q q_in e.
          let before = none_before (get levels (at gates q).var) (eqb (at gates q).var (at gates p).var) level
          (sym (get-with_new levels (at gates p).var level (at gates q).var) ∙ e) in
          ⊎_elim
          (λ (same : q ≡ p). true≢false (sym ((Decides-eqb _ _).1 (ap (λ i. (at gates i).var) same)) ∙ before.1))
          (λ (taken_before : IsAmong q taken). are.known q taken_before before.0)
          q_in;
      right = λ v found e. ⊎_elim
          (λ (had : get levels v ≡ Some found).
          let old = are.right v found had in (old.0, omega (arith, old.1)))
          (λ (new : (eqb v (at gates p).var ≡ true) × (level ≡ found)). (
            subst (λ n. IsLevel gates v n) new.1
                (subst (λ x. IsLevel gates x level) (sym ((Decides-eqb _ _).0 new.0)) level_there),
            omega (arith, new.1),
          ))
          (found_in (get levels v) (eqb v (at gates p).var) level found
          (sym (get-with_new levels (at gates p).var level v) ∙ e));
    }

-- So many gates of the order are taken, and the deepest of them is known.
pub record AreTaken (c : Circuit) (list : List ℕ) (k : ℕ) (levels : FinMap nat_cmp ℕ) (depth : ℕ) : Type 0 where
  pub well_formed : IsWellFormed c
  pub order : IsLeastReadyOrder c list
  pub taken : List ℕ
  pub in_turn : TakesLeast (length c.gates) (gate_operands c.gates) taken (drop k list)
  pub whole : (p : ℕ) → IsAmong p list → IsAmong p taken ⊎ IsAmong p (drop k list)
  pub levels_are : AreLevels c.gates taken levels depth
  pub from : ℕ
  pub path : List Gate
  pub is_path : IsPath c.gates from path
  pub size : length path ≡ depth
  pub few : depth ≤ k

pub none_taken : (c : Circuit) (list : List ℕ) → IsWellFormed c → IsLeastReadyOrder c list → AreTaken c list 0 empty 0
none_taken c list well_formed order = record {
  well_formed = well_formed;
  order = order;
  taken = [];
  in_turn = order.in_turn;
  whole = λ p p_in. inr p_in;
  levels_are = record {
    known = λ p p_in. absurd p_in;
    right = λ v level e. let contrary = sym (get-empty nat_cmp v) ∙ e in cc;
  };
  from = 0;
  path = [];
  is_path = tt;
  size = refl;
  few = omega arith;
}

gates_once : (c : Circuit) → IsWellFormed c → AreDistinct (variables c.gates)
gates_once c well_formed =
    distinct_back (c.inputs ++ map (λ (l : Latch). l.var) c.latches) (variables c.gates) well_formed.once

-- the next gate of the order
module _ {c : Circuit} {list : List ℕ} {k : ℕ} {levels : FinMap nat_cmp ℕ} {depth : ℕ}
    (so_far : AreTaken c list k levels depth) (below : k < length list) where
  abbrev p : ℕ
  p = get_or list k 0

  ahead : drop k list ≡ p ∷ drop (suc k) list
  ahead = drop-cons list k 0 below

  turn : TakesLeast (length c.gates) (gate_operands c.gates) so_far.taken (p ∷ drop (suc k) list)
  turn = rw ahead at so_far.in_turn

  pub next_there : p < length c.gates
  next_there = turn.0.there

  abbrev next_level : ℕ
  next_level = 1 + max (unwrap_or (get levels (variable_of (at c.gates p).left)) 0)
      (unwrap_or (get levels (variable_of (at c.gates p).right)) 0)

  next_is : IsLevel c.gates (at c.gates p).var next_level
  next_is =
      level_there c.gates (gates_once c so_far.well_formed) so_far.taken levels depth so_far.levels_are p next_there
      turn.0.served

  next_small : next_level ≤ 1 + depth
  next_small =
      level_small c.gates (gates_once c so_far.well_formed) so_far.taken levels depth so_far.levels_are p next_there
      turn.0.served

  whole_now : (q : ℕ) → IsAmong q list → IsAmong q (p ∷ so_far.taken) ⊎ IsAmong q (drop (suc k) list)
  whole_now q q_in = ⊎_elim
      (λ (before : IsAmong q so_far.taken). inl (inr before))
      (λ (later : IsAmong q (drop k list)). ⊎_elim
      (λ (e : q ≡ p). inl (inl e))
      (λ (left : IsAmong q (drop (suc k) list)). inr left)
      (rw ahead at later))
      (so_far.whole q q_in)

  one_taken : AreTaken c list (suc k) (with_new levels (at c.gates p).var next_level) (max depth next_level)
  one_taken =
      let now = one_more c.gates (gates_once c so_far.well_formed) so_far.taken levels depth so_far.levels_are p
      next_there turn.0.served in
      let small : max depth next_level ≤ suc k = omega (arith, next_small, so_far.few) in
      ⊎_elim
      (λ (deeper : depth < next_level). record {
        well_formed = so_far.well_formed;
        order = so_far.order;
        taken = p ∷ so_far.taken;
        in_turn = turn.2;
        whole = whole_now;
        levels_are = now;
        from = (at c.gates p).var;
        path = next_is.path;
        is_path = next_is.is_path;
        size = omega (arith, next_is.size);
        few = small;
      })
      (λ (not_deeper : next_level ≤ depth). record {
        well_formed = so_far.well_formed;
        order = so_far.order;
        taken = p ∷ so_far.taken;
        in_turn = turn.2;
        whole = whole_now;
        levels_are = now;
        from = so_far.from;
        path = so_far.path;
        is_path = so_far.is_path;
        size = omega (arith, so_far.size);
        few = small;
      })
      (cases_lt depth next_level)

  -- the same of the gate and of its operands' levels as they were read
  module _ (g : Gate) (is : g ≡ get_or c.gates p g) (left right : ℕ)
      (left_is : left ≡ unwrap_or (get levels (variable_of g.left)) 0)
      (right_is : right ≡ unwrap_or (get levels (variable_of g.right)) 0) where
    gate_is : at c.gates p ≡ g
    gate_is = get_or_default c.gates p no_gate g next_there ∙ sym is

    level_is : next_level ≡ 1 + max left right
    level_is =
        ap (λ (x : Gate). 1 + max (unwrap_or (get levels (variable_of x.left)) 0)
        (unwrap_or (get levels (variable_of x.right)) 0)) gate_is
        ∙ sym (ap₂ (λ m n. 1 + max m n) left_is right_is)

    pub gate_fits : 1 + max left right ≤ 2147483647
    gate_fits =
        omega (
          arith,
          level_is,
          next_small,
          so_far.few,
          so_far.well_formed.limits.gates,
          no_longer (length c.gates) (gate_operands c.gates) list so_far.order.in_turn,
        )

    pub gate_taken : AreTaken c list (k + 1) (with_new levels g.var (1 + max left right))
        (max depth (1 + max left right))
    gate_taken = rw add-one (subst (λ n. AreTaken c list (suc k) (with_new levels g.var n) (max depth n)) level_is
        (subst (λ (x : Gate). AreTaken c list (suc k) (with_new levels x.var next_level) (max depth next_level)) gate_is
        one_taken))

-- once all gates are taken, the deepest is the depth
module _ {c : Circuit} {list : List ℕ} {levels : FinMap nat_cmp ℕ} {depth : ℕ}
    (all : AreTaken c list (length list) levels depth) where
  each_taken : (p : ℕ) → p < length c.gates → IsAmong p all.taken
  each_taken p there =
      let listed : IsAmong p list =
      (rank_exactly_where_all_are_ordered c list all.well_formed.once all.order).0 all.well_formed.ranked p there in
      ⊎_elim (λ (t : IsAmong p all.taken). t)
      (λ (left : IsAmong p (drop (length list) list)). absurd (rw (drop-length list) at left)) (all.whole p listed)

  longest : (v : ℕ) (other : List Gate) → IsPath c.gates v other → length other ≤ depth
  longest v [] is = omega arith
  longest v (g ∷ other) is =
      let var_is : (at c.gates is.0.0).var ≡ v = ap (λ (x : Gate). x.var) (stands c.gates g is.0) ∙ is.1 in
      elim (get levels v) as (λ o. get levels v ≡ o → length (g ∷ other) ≤ depth) [
        | Some level ↦ λ e.
            let right = all.levels_are.right v level e in omega (arith, right.0.longest (g ∷ other) is, right.1)
        | None ↦ λ e.
            absurd (all.levels_are.known is.0.0 (each_taken is.0.0 is.0.1) (ap (get levels) var_is ∙ e))
      ] refl

  pub is_depth : IsDepth c depth
  is_depth = record { from = all.from; path = all.path; is_path = all.is_path; size = all.size; longest = longest }
