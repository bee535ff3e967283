-- The search for a cone: what is found is in it, and once what each needs is found, the whole cone is.
use Rattle.std.proofs.Common.{◌≡◌, ◌<◌, ◌≤◌, ◌+◌, ◌-◌, ◌∷◌, ◌++◌, ◌∙◌, ◌==◌, ℕ, zero, suc, List, []}
use Rattle.std.proofs.Common.{None, Some, refl, sym, ap, subst, inl, inr, ⊎_elim, arith, rules, eqb}
use Rattle.std.proofs.Common.{length, get_or, map, length-append}
use Rattle.std.specs.List.{Contains, flat_map, list_any}
use Rattle.std.specs.Ordering.{nat_cmp}
use Rattle.std.specs.FinSet.{FinSet, contains}
use Rattle.std.proofs.lemmas.Bool.{cases_lt, lt-ltb, ne_eqb}
use Rattle.std.proofs.lemmas.Bool.Decides.{Decides-eqb}
use Rattle.std.proofs.lemmas.List.{append_assoc, get_or_append_left, get_or-append-add, length-map}
use Rattle.std.proofs.lemmas.List.Quantifiers.{position-Some}
use Rattle.std.proofs.lemmas.List.Sums.{position_or_len_is}
use Rattle.aig_circuit.specs.declared.circuit.Latch.{Latch}
use Rattle.aig_circuit.specs.declared.circuit.Gate.{Gate}
use Rattle.aig_circuit.specs.declared.circuit.Circuit.{Circuit}
use Rattle.aig_circuit.specs.Literal.{variable_of}
use Rattle.aig_circuit.specs.Wellformed.{AreDistinct, IsAmong, IsWellFormed}
use Rattle.aig_cone.proofs.Lists.{among_at, among_first, among_last, at_among, differ, distinct_back}
use Rattle.aig_circuit.proofs.Checking.{among_decides}
use Rattle.aig_cone.specs.declared.search.Reach.{Reach}
use Rattle.aig_cone.specs.declared.search.Reach.TheVariants.{OneStep, AllSteps}
use Rattle.aig_cone.specs.Cone.{GoesThroughLatches, IsConeOf, IsInCone}
use Rattle.aig_cone.specs.Cone.IsInCone.{root, operand, next}
use Rattle.aig_cone.specs.Parts.Search.{IsSearched, definers, gate_needs, gate_variables, latch_needs, latch_variables}
use Rattle.aig_cone.specs.Parts.Search.{needs_at, place_of, with_all}
use Rattle.aig_cone.proofs.Adding.{all_apart, all_from, all_here, all_kept, all_longer, all_read, no_more}

-- What stands at a place among variables and needs.

abbrev ItemAt : {X : Type 0} → (X → ℕ) → (X → List ℕ) → List X → ℕ → Type 0
ItemAt {X = X} f needs xs p =
    (x : X) × Contains xs x × (get_or (map f xs) p 0 ≡ f x) × (get_or (map needs xs) p [] ≡ needs x)

contained_later : {X : Type 0} (x y : X) (xs : List X) → Contains xs y → Contains (x ∷ xs) y
contained_later x y xs c = (suc c.0, omega (arith, c.1), c.2)

item_at : {X : Type 0} (f : X → ℕ) (needs : X → List ℕ) (xs : List X) (p : ℕ) → p < length xs → ItemAt f needs xs p
item_at f needs [] p below = absurd (omega (arith, below))
item_at f needs (x ∷ xs) zero below = (x, (zero, omega arith, refl), refl, refl)
item_at f needs (x ∷ xs) (suc p) below =
    let later = item_at f needs xs p (omega (arith, below)) in
    (later.0, contained_later x later.0 xs later.1, later.2, later.3)

needs_there : {X : Type 0} (f : X → ℕ) (needs : X → List ℕ) (xs : List X) (x : X) (c : Contains xs x)
    → (c.0 < length xs) × (get_or (map f xs) c.0 0 ≡ f x) × (get_or (map needs xs) c.0 [] ≡ needs x)
needs_there f needs [] x c = absurd (omega (arith, c.1))
needs_there f needs (y ∷ ys) x (zero, below, is) = (omega (arith, below), ap f is, ap needs is)
needs_there f needs (y ∷ ys) x (suc p, below, is) =
    let later = needs_there f needs ys x (p, omega (arith, below), is) in
    (omega (arith, below), later.1, later.2)

-- Of distinct variables the place of each is its own.

place_here : (vs : List ℕ) → AreDistinct vs → (i v : ℕ) → i < length vs → get_or vs i 0 ≡ v → place_of vs v ≡ Some i
place_here vs apart i v below is =
    let place_is = position_or_len_is (λ w. eqb w v) vs i 0 (omega arith)
    (λ k before. ne_eqb (get_or vs k 0) v (λ e. differ vs apart k i before below (e ∙ sym is)))
    (λ _. (Decides-eqb (get_or vs i 0) v).1 is) in search (rules, lt-ltb)

definers_apart : (c : Circuit) → IsWellFormed c → AreDistinct (definers c)
definers_apart c formed =
    distinct_back c.inputs (definers c)
    (subst AreDistinct (append_assoc c.inputs (latch_variables c) (gate_variables c.gates)) formed.once)

-- What is needed by what is in the cone.

module _ (reach : Reach) (c : Circuit) (first : List ℕ) where
  abbrev InCone : ℕ → Type 0
  InCone = IsInCone reach c first

  abbrev latch_rows : List (List ℕ)
  latch_rows = map (latch_needs reach) c.latches

  abbrev gate_rows : List (List ℕ)
  gate_rows = map gate_needs c.gates

  low_variable : (p : ℕ) → p < length c.latches → get_or (definers c) p 0 ≡ get_or (latch_variables c) p 0
  low_variable p low =
      get_or_append_left (latch_variables c) (gate_variables c.gates) 0 p
      (omega (arith, length-map c.latches (λ (l : Latch). l.var)))

  low_needs : (p : ℕ) → p < length c.latches → needs_at reach c p ≡ get_or latch_rows p []
  low_needs p low =
      get_or_append_left latch_rows gate_rows [] p (omega (arith, length-map c.latches (latch_needs reach)))

  high_variable : (p : ℕ) → get_or (definers c) (length c.latches + p) 0 ≡ get_or (gate_variables c.gates) p 0
  high_variable p =
      ap (λ (n : ℕ). get_or (definers c) (n + p) 0) (sym (length-map c.latches (λ (l : Latch). l.var)))
      ∙ get_or-append-add (latch_variables c) (gate_variables c.gates) p 0

  high_needs : (p : ℕ) → needs_at reach c (length c.latches + p) ≡ get_or gate_rows p []
  high_needs p =
      ap (λ (n : ℕ). get_or (latch_rows ++ gate_rows) (n + p) []) (sym (length-map c.latches (latch_needs reach)))
      ∙ get_or-append-add latch_rows gate_rows p []

  latch_in_cone : (r : Reach) (l : Latch) (w : ℕ) → r ≡ reach → Contains c.latches l → InCone l.var
      → IsAmong w (latch_needs r l) → InCone w
  latch_in_cone OneStep l w is there cone among = absurd among
  latch_in_cone AllSteps l w is there cone among = ⊎_elim
      (λ (e : w ≡ variable_of l.next). next {l = l} (subst GoesThroughLatches is tt) there cone e)
      (λ (n : ⊥). absurd n)
      among

  needs_in_cone : (v place w : ℕ) → place_of (definers c) v ≡ Some place → InCone v
      → IsAmong w (needs_at reach c place) → InCone w
  needs_in_cone v place w placed cone among =
      let told = position-Some (λ u. u == v) (definers c) place 0 placed in
      let var_is : get_or (definers c) place 0 ≡ v = (Decides-eqb (get_or (definers c) place 0) v).0 told.1 in
      elim (cases_lt place (length c.latches)) [
        | inl low ↦
            let item = item_at (λ (l : Latch). l.var) (latch_needs reach) c.latches place low in
            let var : v ≡ (item.0).var = sym var_is ∙ low_variable place low ∙ item.2 in
            latch_in_cone reach item.0 w refl item.1 (subst InCone var cone)
            (subst (λ (ws : List ℕ). IsAmong w ws) (low_needs place low ∙ item.3) among)
        | inr high ↦
            let p : ℕ = place - length c.latches in
            let at_p : length c.latches + p ≡ place = omega arith in
            let below : p < length c.gates = omega (
              arith,
              told.0,
              length-append (latch_variables c) (gate_variables c.gates),
              length-map c.latches (λ (l : Latch). l.var),
              length-map c.gates (λ (g : Gate). g.var),
            ) in
            let item = item_at (λ (g : Gate). g.var) gate_needs c.gates p below in
            let var : v ≡ (item.0).var =
            sym var_is ∙ ap (λ (n : ℕ). get_or (definers c) n 0) (sym at_p) ∙ high_variable p ∙ item.2 in
            operand {g = item.0} item.1 (subst InCone var cone)
            (subst (λ (ws : List ℕ). IsAmong w ws)
            (ap (λ (n : ℕ). needs_at reach c n) (sym at_p) ∙ high_needs p ∙ item.3) among)
      ]

  -- Once what each needs is found, the cone is.
  module _ (found : List ℕ) (apart : AreDistinct (definers c))
      (closed : (k place w : ℕ) → k < length found → place_of (definers c) (get_or found k 0) ≡ Some place
      → IsAmong w (needs_at reach c place) → IsAmong w found) where
    closed_at : (v place w : ℕ) → IsAmong v found → place < length (definers c) → get_or (definers c) place 0 ≡ v
        → IsAmong w (needs_at reach c place) → IsAmong w found
    closed_at v place w there below is among =
        let at = among_at v found there in
        closed at.0 place w at.1
        (place_here (definers c) apart place (get_or found at.0 0) below (is ∙ sym at.2)) among

    all_long : length (definers c) ≡ length c.latches + length c.gates
    all_long = omega (
      arith,
      length-append (latch_variables c) (gate_variables c.gates),
      length-map c.latches (λ (l : Latch). l.var),
      length-map c.gates (λ (g : Gate). g.var),
    )

    gate_closed : (g : Gate) → Contains c.gates g → IsAmong g.var found → (w : ℕ) → IsAmong w (gate_needs g)
        → IsAmong w found
    gate_closed g there marked w among =
        let at = needs_there (λ (h : Gate). h.var) gate_needs c.gates g there in
        closed_at g.var (length c.latches + there.0) w marked (omega (arith, at.0, all_long))
        (high_variable there.0 ∙ at.1)
        (subst (λ (ws : List ℕ). IsAmong w ws) (sym (high_needs there.0 ∙ at.2)) among)

    goes_on : (r : Reach) (l : Latch) → GoesThroughLatches r → IsAmong (variable_of l.next) (latch_needs r l)
    goes_on OneStep l through = absurd through
    goes_on AllSteps l through = inl refl

    latch_closed : (l : Latch) → GoesThroughLatches reach → Contains c.latches l → IsAmong l.var found
        → IsAmong (variable_of l.next) found
    latch_closed l through there marked =
        let at = needs_there (λ (k : Latch). k.var) (latch_needs reach) c.latches l there in
        closed_at l.var there.0 (variable_of l.next) marked (omega (arith, at.0, all_long))
        (low_variable there.0 at.0 ∙ at.1)
        (subst (λ (ws : List ℕ). IsAmong (variable_of l.next) ws) (sym (low_needs there.0 at.0 ∙ at.2))
        (goes_on reach l through))

    cone_found : ((v : ℕ) → IsAmong v first → IsAmong v found) → {v : ℕ} → InCone v → IsAmong v found
    cone_found kept {v = v} (root among) = kept v among
    cone_found kept {v = v} (operand {g = g} there cone among) =
        gate_closed g there (cone_found kept cone) v among
    cone_found kept {v = v} (next {l = l} through there cone is) =
        subst (λ (w : ℕ). IsAmong w found) (sym is) (latch_closed l through there (cone_found kept cone))

  -- All that may be found is among these.
  abbrev pub candidates : List ℕ
  candidates = first ++ (flat_map gate_needs c.gates ++ map (λ (l : Latch). variable_of l.next) c.latches)

  in_rows : (gs : List Gate) (g : Gate) (w : ℕ) → Contains gs g → IsAmong w (gate_needs g)
      → IsAmong w (flat_map gate_needs gs)
  in_rows [] g w there among = absurd (omega (arith, there.1))
  in_rows (h ∷ gs) g w (zero, below, is) among =
      among_first w (gate_needs h) (flat_map gate_needs gs)
      (subst (λ (x : Gate). IsAmong w (gate_needs x)) (sym is) among)
  in_rows (h ∷ gs) g w (suc k, below, is) among =
      among_last (gate_needs h) (flat_map gate_needs gs) w (in_rows gs g w (k, omega (arith, below), is) among)

  in_nexts : (ls : List Latch) (l : Latch) → Contains ls l
      → IsAmong (variable_of l.next) (map (λ (k : Latch). variable_of k.next) ls)
  in_nexts [] l there = absurd (omega (arith, there.1))
  in_nexts (k ∷ ls) l (zero, below, is) = inl (ap (λ (x : Latch). variable_of x.next) (sym is))
  in_nexts (k ∷ ls) l (suc i, below, is) = inr (in_nexts ls l (i, omega (arith, below), is))

  cone_within : {v : ℕ} → InCone v → IsAmong v candidates
  cone_within {v = v} (root among) =
      among_first v first (flat_map gate_needs c.gates ++ map (λ (l : Latch). variable_of l.next) c.latches) among
  cone_within {v = v} (operand {g = g} there cone among) =
      among_last first (flat_map gate_needs c.gates ++ map (λ (l : Latch). variable_of l.next) c.latches) v
      (among_first v (flat_map gate_needs c.gates) (map (λ (l : Latch). variable_of l.next) c.latches)
      (in_rows c.gates g v there among))
  cone_within {v = v} (next {l = l} through there cone is) =
      among_last first (flat_map gate_needs c.gates ++ map (λ (l : Latch). variable_of l.next) c.latches) v
      (among_last (flat_map gate_needs c.gates) (map (λ (l : Latch). variable_of l.next) c.latches) v
      (subst (λ (w : ℕ). IsAmong w (map (λ (l : Latch). variable_of l.next) c.latches)) (sym is)
      (in_nexts c.latches l there)))

-- within a step a latch needs nothing
nothing_there : (ls : List Latch) (p : ℕ) → get_or (map (latch_needs OneStep) ls) p [] ≡ []
nothing_there [] p = refl
nothing_there (l ∷ ls) zero = refl
nothing_there (l ∷ ls) (suc p) = nothing_there ls p

pub nothing_needed : (reach : Reach) (c : Circuit) (place : ℕ) → reach ≡ OneStep → place < length c.latches
    → needs_at reach c place ≡ []
nothing_needed reach c place is low =
    ap (λ (r : Reach). needs_at r c place) is ∙ low_needs OneStep c [] place low ∙ nothing_there c.latches place

-- what those before a place need is found, and nothing outside of the cone is
pub record IsSearchedTo (reach : Reach) (c : Circuit) (first found : List ℕ) (at : ℕ) : Type 0 where
  pub apart : AreDistinct found
  pub kept : (v : ℕ) → IsAmong v first → IsAmong v found
  pub sound : (v : ℕ) → IsAmong v found → IsInCone reach c first v
  pub closed : (k place w : ℕ) → k < at → place_of (definers c) (get_or found k 0) ≡ Some place
      → IsAmong w (needs_at reach c place) → IsAmong w found
  pub reached : at ≤ length found

pub begun : (reach : Reach) (c : Circuit) (first : List ℕ) → AreDistinct first → IsSearchedTo reach c first first 0
begun reach c first apart = record {
  apart = apart;
  kept = λ v a. a;
  sound = λ v a. root a;
  closed = λ k place w below. absurd (omega (arith, below));
  reached = omega arith;
}

module _ {reach : Reach} {c : Circuit} {first found : List ℕ} {at : ℕ}
    (so_far : IsSearchedTo reach c first found at) where
  pub few_found : length found ≤ length (candidates reach c first)
  few_found =
      no_more found (candidates reach c first) so_far.apart (λ v a. cone_within reach c first (so_far.sound v a))

  module _ (below : at < length found) where
    -- nothing defines the next one
    pub none_needed : place_of (definers c) (get_or found at 0) ≡ None → IsSearchedTo reach c first found (at + 1)
    none_needed none = record {
      apart = so_far.apart;
      kept = so_far.kept;
      sound = so_far.sound;
      closed = λ k place w before placed among. elim (cases_lt k at) [
        | inl earlier ↦ so_far.closed k place w earlier placed among
        | inr not_earlier ↦
            let here : k ≡ at = omega arith in
            let contrary : Some place ≡ None =
            sym placed ∙ ap (λ (i : ℕ). place_of (definers c) (get_or found i 0)) here ∙ none in cc
      ];
      reached = omega arith;
    }

    -- what defines it needs these
    pub needs_found : (at_place : ℕ) → place_of (definers c) (get_or found at 0) ≡ Some at_place
        → IsSearchedTo reach c first (with_all found (needs_at reach c at_place)) (at + 1)
    needs_found at_place placed_here =
        let more : List ℕ = needs_at reach c at_place in record {
          apart = all_apart found more so_far.apart;
          kept = λ v a. all_kept found more v (so_far.kept v a);
          sound = λ v a. ⊎_elim (so_far.sound v)
              (needs_in_cone reach c first (get_or found at 0) at_place v placed_here
              (so_far.sound (get_or found at 0) (at_among found at below)))
              (all_from found more v a);
          closed = λ k place w before placed among.
              let still : k < length found = omega (arith, before, below) in
              let placed_now : place_of (definers c) (get_or found k 0) ≡ Some place =
              ap (place_of (definers c)) (sym (all_read found more k still)) ∙ placed in
              elim (cases_lt k at) [
                | inl earlier ↦ all_kept found more w (so_far.closed k place w earlier placed_now among)
                | inr not_earlier ↦
                    let here : k ≡ at = omega arith in
                    let same_some : Some place ≡ Some at_place =
                    sym placed_now ∙ ap (λ (i : ℕ). place_of (definers c) (get_or found i 0)) here ∙ placed_here in
                    let same : place ≡ at_place = cc in
                    all_here found more w (subst (λ (p : ℕ). IsAmong w (needs_at reach c p)) same among)
              ];
          reached = omega (arith, below, all_longer found more);
        }

  -- all is found
  pub searched : IsWellFormed c → length found ≤ at → IsSearched reach c first found
  searched formed all v = (
    so_far.sound v,
    cone_found reach c first found (definers_apart c formed)
        (λ k place w below. so_far.closed k place w (omega (arith, below, all))) so_far.kept,
  )

-- the cone of more is more
wider : (reach : Reach) (c : Circuit) (first roots : List ℕ) → ((v : ℕ) → IsAmong v first → IsAmong v roots) → {v : ℕ}
    → IsInCone reach c first v → IsInCone reach c roots v
wider reach c first roots more {v = v} (root among) = root (more v among)
wider reach c first roots more {v = v} (operand {g = g} there cone among) =
    operand {g = g} there (wider reach c first roots more cone) among
wider reach c first roots more {v = v} (next {l = l} through there cone is) =
    next {l = l} through there (wider reach c first roots more cone) is

-- The marks of what is found are the cone of the literals.
module _ (reach : Reach) (c : Circuit) (literals first found : List ℕ) (marks : FinSet nat_cmp)
    (given : first ≡ with_all [] (map variable_of literals))
    (marked : (v : ℕ) → contains marks v ≡ list_any (λ w. w == v) found) (all : IsSearched reach c first found) where
  abbrev roots : List ℕ
  roots = map variable_of literals

  pub cone_is : IsConeOf reach c literals marks
  cone_is v = (
    λ e. wider reach c first roots
        (λ w a. ⊎_elim (λ (n : ⊥). absurd n) (λ (b : IsAmong w roots). b)
        (all_from [] roots w (subst (λ (ws : List ℕ). IsAmong w ws) given a)))
        ((all v).0 ((among_decides v found).0 (sym (marked v) ∙ e))),
    λ cone. marked v ∙ (among_decides v found).1
        ((all v).1 (wider reach c roots first
        (λ w a. subst (λ (ws : List ℕ). IsAmong w ws) (sym given) (all_here [] roots w a)) cone)),
  )

pub given_apart : (first literals : List ℕ) → first ≡ with_all [] (map variable_of literals) → AreDistinct first
given_apart first literals given =
    subst AreDistinct (sym given) (all_apart [] (map variable_of literals) tt)
