-- What the definitions say of one another.
use Rattle.std.proofs.Common.{◌≡◌, ◌∷◌, ◌++◌, ◌∙◌, ◌⊎◌, ℕ, List, [], Bool, true}
use Rattle.std.proofs.Common.{false, IsTrue, ap, ap₂, arith, codes}
use Rattle.std.proofs.Common.{cond, filter, inl, inr, map, refl, sym, ⊎_elim}
use Rattle.std.proofs.Math.Path.{fun_ext}
use Rattle.std.specs.FinSet as set
use Rattle.std.specs.List.{concat}
use Rattle.aig_circuit.specs.declared.circuit.Latch.{Latch}
use Rattle.aig_circuit.specs.Literal.{literal_of, variable_of}
use Rattle.aig_circuit.specs.Wellformed.{AreDistinct, IsAmong, defined_variables, literal_lists}
use Rattle.aig_cone.specs.Cone.{root}
use Rattle.aig_cone.proofs.Lists.{among_last, distinct_back}
use Rattle.aig_dot.specs.declared.subject.Subject.{Subject}
use Rattle.aig_dot.specs.Dot.{dot_text, statements_text}
use Rattle.aig_dot.specs.Graph.{subject_part, variable_part}
use Rattle.aig_dot.specs.Laws.{EachGateHasItsOperands, OneText, PictureHasTheGates, WholePictureHasAllGates}
use Rattle.aig_dot.specs.Laws.{gate_variables}
use Rattle.aig_dot.specs.Subject.{reach_of}
use Rattle.aig_dot.proofs.Drawn.{arrows_are, gates_are}

-- parts of a list
module _ (p : ℕ → Bool) where
  one_before : (b : Bool) (v x : ℕ) (xs : List ℕ) → p x ≡ b → (IsAmong v xs → p v ≡ true)
      → IsAmong v (cond b (x ∷ xs) xs) → ((v ≡ x) ⊎ IsAmong v xs) × (p v ≡ true)
  one_before true v x xs is before (inl e) = (inl e, ap p e ∙ is)
  one_before true v x xs is before (inr a) = (inr a, before a)
  one_before false v x xs is before a = (inr a, before a)

  -- what is in a part is in the list, and passes
  before : (v : ℕ) (xs : List ℕ) → IsAmong v (filter p xs) → IsAmong v xs × (p v ≡ true)
  before v [] a = absurd a
  before v (x ∷ xs) a =
      let found = one_before (p x) v x (filter p xs) refl (λ b. (before v xs b).1) a in
      (⊎_elim (λ (e : v ≡ x). inl e) (λ (b : IsAmong v (filter p xs)). inr (before v xs b).0) found.0, found.1)

  one_still : (b : Bool) (v x : ℕ) (xs : List ℕ) → p x ≡ b → p v ≡ true → (v ≡ x) ⊎ IsAmong v xs
      → IsAmong v (cond b (x ∷ xs) xs)
  one_still true v x xs is passes a = a
  one_still false v x xs is passes (inl e) = absurd (cc (ap p e))
  one_still false v x xs is passes (inr a) = a

  -- and the other way round
  still : (v : ℕ) (xs : List ℕ) → IsAmong v xs → p v ≡ true → IsAmong v (filter p xs)
  still v [] a passes = a
  still v (x ∷ xs) a passes =
      one_still (p x) v x (filter p xs) refl passes
      (⊎_elim (λ (e : v ≡ x). inl e) (λ (b : IsAmong v xs). inr (still v xs b passes)) a)

  one_distinct : (b : Bool) (x : ℕ) (xs : List ℕ) → (¬ IsAmong x xs) → AreDistinct xs → AreDistinct (cond b (x ∷ xs) xs)
  one_distinct true x xs new once = (new, once)
  one_distinct false x xs new once = once

  distinct_still : (xs : List ℕ) → AreDistinct xs → AreDistinct (filter p xs)
  distinct_still [] once = tt
  distinct_still (x ∷ xs) once =
      one_distinct (p x) x (filter p xs) (λ a. once.0 (before x xs a).0) (distinct_still xs once.1)

  all_pass : (xs : List ℕ) → ((v : ℕ) → IsAmong v xs → p v ≡ true) → filter p xs ≡ xs
  all_pass [] pass = refl
  all_pass (x ∷ xs) pass = rw (pass x (inl refl)) (ap (λ ys. x ∷ ys) (all_pass xs (λ v a. pass v (inr a))))

pub picture_has_the_gates : PictureHasTheGates
picture_has_the_gates subject c p formed is =
    let shows : ℕ → Bool = set.contains p.variables in
    rw (gates_are p c) (
      distinct_still shows (gate_variables c)
          (distinct_back (c.inputs ++ map (λ (l : Latch). l.var) c.latches) (gate_variables c) formed.once),
      λ v. (
        λ a. let found = before shows v (gate_variables c) a in (found.0, (is.1 v).0 found.1),
        λ h. still shows v (gate_variables c) h.0 ((is.1 v).1 h.1),
      ),
    )

-- a variable is among those of literals of which one is its own
among_roots : (v : ℕ) (vs more : List ℕ) → IsAmong v vs → IsAmong v (map variable_of (map literal_of vs ++ more))
among_roots v [] more a = absurd a
among_roots v (x ∷ vs) more (inl e) = inl (omega (arith, e))
among_roots v (x ∷ vs) more (inr a) = inr (among_roots v vs more a)

pub whole_picture_has_all_gates : WholePictureHasAllGates
whole_picture_has_all_gates c p is =
    gates_are p c
    ∙ all_pass (set.contains p.variables) (gate_variables c) (λ v a. (is.1 v).1
    (root (among_roots v (defined_variables c) (concat (literal_lists c))
    (among_last (c.inputs ++ map (λ (l : Latch). l.var) c.latches) (gate_variables c) v a))))

pub each_gate_has_its_operands : EachGateHasItsOperands
each_gate_has_its_operands subject c p formed is g there shown =
    arrows_are p c g there.0 there.1 there.2 formed.once ((is.1 g.var).1 shown)

same_test : (a b : Bool) → (IsTrue a → IsTrue b) → (IsTrue b → IsTrue a) → a ≡ b
same_test true true there back = refl
same_test true false there back = sym (there refl)
same_test false true there back = back refl
same_test false false there back = refl

pub one_text : OneText
unfolding dot_text
one_text subject c p q is other =
    let text = λ (shows : ℕ → Bool) (s : Subject).
    codes "digraph aiger {\n"
    ++ (statements_text (variable_part shows (reach_of s) c ++ subject_part s c) ++ codes "}\n") in
    ap₂ text
    (fun_ext (λ v. same_test (set.contains p.variables v) (set.contains q.variables v)
    (λ a. (other.1 v).1 ((is.1 v).0 a)) (λ a. (is.1 v).1 ((other.1 v).0 a))))
    (is.0 ∙ sym other.0)
