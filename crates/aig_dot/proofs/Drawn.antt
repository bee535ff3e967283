-- The gates of a picture, and the arrows into them.
use Rattle.std.proofs.Common.{◌≡◌, ◌==◌, ◌+◌, ◌<◌, ◌∷◌, ◌++◌, ◌∙◌, ℕ, zero, suc, List, [], Bool}
use Rattle.std.proofs.Common.{true, false, cond}
use Rattle.std.proofs.Common.{ap, ap₂, arith, filter, get_or, inl, inr, length, map, refl, subst}
use Rattle.std.proofs.Common.{append-nil, eq-eqb}
use Rattle.std.specs.FinSet as set
use Rattle.std.specs.List.{enumerate_from, flat_map, range_with_len}
use Rattle.std.proofs.lemmas.Grind.{flat_map-append}
use Rattle.aig_circuit.specs.declared.circuit.Circuit.{Circuit}
use Rattle.aig_circuit.specs.declared.circuit.Gate.{Gate}
use Rattle.aig_circuit.specs.declared.circuit.Kind.{Kind}
use Rattle.aig_circuit.specs.declared.circuit.Latch.{Latch}
use Rattle.aig_circuit.specs.declared.circuit.Symbol.{Symbol}
use Rattle.aig_circuit.specs.Wellformed.{AreDistinct, IsAmong, count_of, defined_variables, operands}
use Rattle.aig_cone.specs.declared.search.Reach.{Reach}
use Rattle.aig_cone.specs.declared.search.Reach.TheVariants.{OneStep, AllSteps}
use Rattle.aig_cone.proofs.Lists.{among_last, distinct_back}
use Rattle.aig_dot.specs.declared.graph.Node.TheVariants as nodes
use Rattle.aig_dot.specs.declared.picture.Picture.{Picture}
use Rattle.aig_dot.specs.declared.subject.Subject.{Subject}
use Rattle.aig_dot.specs.declared.subject.Subject.TheVariants.{Whole, Cone}
use Rattle.aig_dot.specs.Graph.{Statement, constant_part, gate_part, input_part, kind_part, latch_part, next_part}
use Rattle.aig_dot.specs.Graph.{shown_kinds, shown_part, statements, subject_part, use_of, variable_part}
use Rattle.aig_dot.specs.Subject.{literals_at, reach_of}
use Rattle.aig_dot.specs.Laws.{arrow_into, arrows_into, drawn_gates, gate_in, gate_variables}

other : (a b : ℕ) → ¬ (b ≡ a) → (a == b) ≡ false
other a b differ = grind (arith, differ)

-- what stands in the one list does not stand in the other
apart_from : (xs ys : List ℕ) (v : ℕ) → AreDistinct (xs ++ ys) → IsAmong v xs → IsAmong v ys → ⊥
apart_from [] ys v once a b = a
apart_from (x ∷ xs) ys v once (inl e) b = once.0 (among_last xs ys x (subst (λ w. IsAmong w ys) e b))
apart_from (x ∷ xs) ys v once (inr a) b = apart_from xs ys v once.1 a b

among_gates : (gates : List Gate) (k : ℕ) (d : Gate) → k < length gates
    → IsAmong (get_or gates k d).var (map (λ (g : Gate). g.var) gates)
among_gates [] k d below = absurd (omega arith)
among_gates (g ∷ gates) zero d below = inl refl
among_gates (g ∷ gates) (suc k) d below = inr (among_gates gates k d (omega arith))

-- nothing of one is nothing of all
none_of : {X : Type 0} (h : Statement → List ℕ) (f : X → List Statement) → ((x : X) → flat_map h (f x) ≡ [])
    → (xs : List X) → flat_map h (flat_map f xs) ≡ []
none_of h f none [] = refl
none_of h f none (x ∷ xs) =
    flat_map-append h (f x) (flat_map f xs) ∙ ap₂ (λ a b. a ++ b) (none x) (none_of h f none xs)

-- what a circuit shows has no gate, and no arrow into a variable
uses_gates : (kind : Kind) (position : ℕ) (literals : List ℕ)
    → drawn_gates (map (use_of (nodes.Shown kind position)) literals) ≡ []
uses_gates kind position [] = refl
uses_gates kind position (l ∷ ls) = uses_gates kind position ls

uses_arrows : (v : ℕ) (kind : Kind) (position : ℕ) (literals : List ℕ)
    → arrows_into v (map (use_of (nodes.Shown kind position)) literals) ≡ []
uses_arrows v kind position [] = refl
uses_arrows v kind position (l ∷ ls) = uses_arrows v kind position ls

module _ (c : Circuit) where
  shown_gates : (kind : Kind) (position : ℕ) → drawn_gates (shown_part c kind position) ≡ []
  shown_gates kind position = uses_gates kind position (literals_at c kind position)

  kind_gates : (kind : Kind) → drawn_gates (kind_part c kind) ≡ []
  kind_gates kind = none_of gate_in (shown_part c kind) (shown_gates kind) (range_with_len 0 (count_of c kind))

  subject_gates : (subject : Subject) → drawn_gates (subject_part subject c) ≡ []
  subject_gates Whole = none_of gate_in (kind_part c) kind_gates shown_kinds
  subject_gates (Cone part) = shown_gates part.kind part.position

  shown_arrows : (v : ℕ) (kind : Kind) (position : ℕ) → arrows_into v (shown_part c kind position) ≡ []
  shown_arrows v kind position = uses_arrows v kind position (literals_at c kind position)

  kind_arrows : (v : ℕ) (kind : Kind) → arrows_into v (kind_part c kind) ≡ []
  kind_arrows v kind =
      none_of (arrow_into v) (shown_part c kind) (shown_arrows v kind) (range_with_len 0 (count_of c kind))

  subject_arrows : (v : ℕ) (subject : Subject) → arrows_into v (subject_part subject c) ≡ []
  subject_arrows v Whole = none_of (arrow_into v) (kind_part c) (kind_arrows v) shown_kinds
  subject_arrows v (Cone part) = shown_arrows v part.kind part.position

module _ (shows : ℕ → Bool) where
  -- constant and inputs have neither
  constant_gates : (b : Bool) → shows 0 ≡ b → drawn_gates (constant_part shows) ≡ []
  constant_gates true is = rw is refl
  constant_gates false is = rw is refl

  constant_arrows : (v : ℕ) (b : Bool) → shows 0 ≡ b → arrows_into v (constant_part shows) ≡ []
  constant_arrows v true is = rw is refl
  constant_arrows v false is = rw is refl

  input_gates : (symbols : List Symbol) (input : ℕ × ℕ) (b : Bool) → shows input.1 ≡ b
      → drawn_gates (input_part shows symbols input) ≡ []
  input_gates symbols input true is = rw is refl
  input_gates symbols input false is = rw is refl

  input_arrows : (v : ℕ) (symbols : List Symbol) (input : ℕ × ℕ) (b : Bool) → shows input.1 ≡ b
      → arrows_into v (input_part shows symbols input) ≡ []
  input_arrows v symbols input true is = rw is refl
  input_arrows v symbols input false is = rw is refl

  -- a latch is no gate
  next_gates : (reach : Reach) (l : Latch) → drawn_gates (next_part reach l) ≡ []
  next_gates OneStep l = refl
  next_gates AllSteps l = refl

  latch_gates : (reach : Reach) (symbols : List Symbol) (latch : ℕ × Latch) (b : Bool) → shows latch.1.var ≡ b
      → drawn_gates (latch_part shows reach symbols latch) ≡ []
  latch_gates reach symbols latch true is = rw is (next_gates reach latch.1)
  latch_gates reach symbols latch false is = rw is refl

  -- and its arrow goes into it
  next_arrows : (v : ℕ) (reach : Reach) (l : Latch) → (l.var == v) ≡ false → arrows_into v (next_part reach l) ≡ []
  next_arrows v OneStep l other = refl
  next_arrows v AllSteps l other = rw other refl

  latch_arrows : (v : ℕ) (reach : Reach) (symbols : List Symbol) (latch : ℕ × Latch) (b : Bool)
      → shows latch.1.var ≡ b → (latch.1.var == v) ≡ false → arrows_into v (latch_part shows reach symbols latch) ≡ []
  latch_arrows v reach symbols latch true is other = rw is (next_arrows v reach latch.1 other)
  latch_arrows v reach symbols latch false is other = rw is refl

  latches_arrows : (v : ℕ) (reach : Reach) (symbols : List Symbol) (first : ℕ) (latches : List Latch)
      → ¬ IsAmong v (map (λ (l : Latch). l.var) latches)
      → arrows_into v (flat_map (latch_part shows reach symbols) (enumerate_from first latches)) ≡ []
  latches_arrows v reach symbols first [] others = refl
  latches_arrows v reach symbols first (l ∷ latches) others =
      flat_map-append (arrow_into v) (latch_part shows reach symbols (first, l)) _
      ∙ ap₂ (λ a b. a ++ b)
      (latch_arrows v reach symbols (first, l) (shows l.var) refl (other l.var v (λ e. others (inl e))))
      (latches_arrows v reach symbols (first + 1) latches (λ a. others (inr a)))

  -- the gates are those that are shown
  gate_gates : (g : Gate) (b : Bool) → shows g.var ≡ b → drawn_gates (gate_part shows g) ≡ cond b (g.var ∷ []) []
  gate_gates g true is = rw is refl
  gate_gates g false is = rw is refl

  first_gate : (b : Bool) (v : ℕ) (vs : List ℕ) → cond b (v ∷ []) [] ++ vs ≡ cond b (v ∷ vs) vs
  first_gate true v vs = refl
  first_gate false v vs = refl

  gates_gates : (gates : List Gate) → drawn_gates (flat_map (gate_part shows) gates)
      ≡ filter shows (map (λ (g : Gate). g.var) gates)
  gates_gates [] = refl
  gates_gates (g ∷ gates) =
      flat_map-append gate_in (gate_part shows g) (flat_map (gate_part shows) gates)
      ∙ ap₂ (λ a b. a ++ b) (gate_gates g (shows g.var) refl) (gates_gates gates)
      ∙ first_gate (shows g.var) g.var _

  -- an arrow into another gate
  gate_arrows : (v : ℕ) (g : Gate) (b : Bool) → shows g.var ≡ b → (g.var == v) ≡ false
      → arrows_into v (gate_part shows g) ≡ []
  gate_arrows v g true is other = rw is (rw other refl)
  gate_arrows v g false is other = rw is refl

  other_arrows : (v : ℕ) (gates : List Gate) → ¬ IsAmong v (map (λ (g : Gate). g.var) gates)
      → arrows_into v (flat_map (gate_part shows) gates) ≡ []
  other_arrows v [] others = refl
  other_arrows v (g ∷ gates) others =
      flat_map-append (arrow_into v) (gate_part shows g) (flat_map (gate_part shows) gates)
      ∙ ap₂ (λ a b. a ++ b) (gate_arrows v g (shows g.var) refl (other g.var v (λ e. others (inl e))))
      (other_arrows v gates (λ a. others (inr a)))

  own_arrows : (g : Gate) → shows g.var ≡ true → arrows_into g.var (gate_part shows g) ≡ operands g
  own_arrows g is = rw is (rw (eq-eqb g.var g.var refl) refl)

  gates_arrows : (gates : List Gate) (k : ℕ) (g : Gate) → k < length gates → get_or gates k g ≡ g
      → AreDistinct (map (λ (g : Gate). g.var) gates) → shows g.var ≡ true
      → arrows_into g.var (flat_map (gate_part shows) gates) ≡ operands g
  gates_arrows [] k g below is apart shown = absurd (omega arith)
  gates_arrows (h ∷ gates) zero g below is apart shown =
      flat_map-append (arrow_into g.var) (gate_part shows h) (flat_map (gate_part shows) gates)
      ∙ ap₂ (λ a b. a ++ b)
      (ap (λ (f : Gate). arrows_into g.var (gate_part shows f)) is ∙ own_arrows g shown)
      (other_arrows g.var gates (subst (λ (f : Gate). ¬ IsAmong f.var (map (λ (g : Gate). g.var) gates)) is apart.0))
  gates_arrows (h ∷ gates) (suc k) g below is apart shown =
      let there = subst (λ (f : Gate). IsAmong f.var (map (λ (g : Gate). g.var) gates)) is
      (among_gates gates k g (omega arith)) in
      flat_map-append (arrow_into g.var) (gate_part shows h) (flat_map (gate_part shows) gates)
      ∙ ap₂ (λ a b. a ++ b)
      (gate_arrows g.var h (shows h.var) refl
      (other h.var g.var (λ e. apart.0 (subst (λ v. IsAmong v (map (λ (g : Gate). g.var) gates)) e there))))
      (gates_arrows gates k g (omega arith) is apart.1 shown)

module _ (p : Picture) (c : Circuit) where
  abbrev shows : ℕ → Bool
  shows = set.contains p.variables

  gates_of_variables : (reach : Reach) → drawn_gates (variable_part shows reach c) ≡ filter shows (gate_variables c)
  gates_of_variables reach =
      flat_map-append gate_in (constant_part shows) _ ∙ ap₂ (λ a b. a ++ b) (constant_gates shows (shows 0) refl)
      (flat_map-append gate_in (flat_map (input_part shows c.symbols) (enumerate_from 0 c.inputs)) _
      ∙ ap₂ (λ a b. a ++ b)
      (none_of gate_in (input_part shows c.symbols) (λ input. input_gates shows c.symbols input (shows input.1) refl)
      (enumerate_from 0 c.inputs))
      (flat_map-append gate_in (flat_map (latch_part shows reach c.symbols) (enumerate_from 0 c.latches)) _
      ∙ ap₂ (λ a b. a ++ b)
      (none_of gate_in (latch_part shows reach c.symbols)
      (λ latch. latch_gates shows reach c.symbols latch (shows latch.1.var) refl) (enumerate_from 0 c.latches))
      (gates_gates shows c.gates)))

  -- the gates are those that are shown, in the order of the file
  pub gates_are : drawn_gates (statements p c) ≡ filter shows (gate_variables c)
  gates_are =
      flat_map-append gate_in (variable_part shows (reach_of p.subject) c) (subject_part p.subject c)
      ∙ ap₂ (λ a b. a ++ b) (gates_of_variables (reach_of p.subject)) (subject_gates c p.subject)
      ∙ append-nil _

  module _ (g : Gate) (k : ℕ) (below : k < length c.gates) (is : get_or c.gates k g ≡ g)
      (once : AreDistinct (defined_variables c)) where
    among : IsAmong g.var (gate_variables c)
    among = subst (λ (f : Gate). IsAmong f.var (gate_variables c)) is (among_gates c.gates k g below)

    no_latch : ¬ IsAmong g.var (map (λ (l : Latch). l.var) c.latches)
    no_latch latch =
        apart_from (c.inputs ++ map (λ (l : Latch). l.var) c.latches) (gate_variables c) g.var once
        (among_last c.inputs (map (λ (l : Latch). l.var) c.latches) g.var latch) among

    arrows_of_variables : (reach : Reach) → shows g.var ≡ true
        → arrows_into g.var (variable_part shows reach c) ≡ operands g
    arrows_of_variables reach shown =
        flat_map-append (arrow_into g.var) (constant_part shows) _
        ∙ ap₂ (λ a b. a ++ b) (constant_arrows shows g.var (shows 0) refl)
        (flat_map-append (arrow_into g.var) (flat_map (input_part shows c.symbols) (enumerate_from 0 c.inputs)) _
        ∙ ap₂ (λ a b. a ++ b)
        (none_of (arrow_into g.var) (input_part shows c.symbols)
        (λ input. input_arrows shows g.var c.symbols input (shows input.1) refl) (enumerate_from 0 c.inputs))
        (flat_map-append (arrow_into g.var) (flat_map (latch_part shows reach c.symbols) (enumerate_from 0 c.latches)) _
        ∙ ap₂ (λ a b. a ++ b) (latches_arrows shows g.var reach c.symbols 0 c.latches no_latch)
        (gates_arrows shows c.gates k g below is
        (distinct_back (c.inputs ++ map (λ (l : Latch). l.var) c.latches) (gate_variables c) once) shown)))

    -- the arrows into a gate that is shown come from its operands
    pub arrows_are : shows g.var ≡ true → arrows_into g.var (statements p c) ≡ operands g
    arrows_are shown =
        flat_map-append (arrow_into g.var) (variable_part shows (reach_of p.subject) c) (subject_part p.subject c)
        ∙ ap₂ (λ a b. a ++ b) (arrows_of_variables (reach_of p.subject) shown) (subject_arrows c g.var p.subject)
        ∙ append-nil _
