-- What the clauses of a gate say of truths: its own three, and the four of a choice.
use Rattle.std.proofs.Common.{◌≡◌, ◌∙◌, ◌||◌, ◌&&◌, ℕ, Bool, true, false, not, refl, sym, ap, ap₂, ⊎_elim}
use Rattle.aig_circuit.specs.declared.circuit.Gate.{Gate}
use Rattle.aig_circuit.specs.Literal.{literal_of, negation_of}
use Rattle.aig_circuit.specs.Values.{value_and}
use Rattle.aig_meaning.specs.Meaning.{Holds}
use Rattle.aig_cnf.specs.Clauses.{Satisfies, is_true, truth, truths}
use Rattle.aig_cnf.proofs.Existing.{same_truth}
use Rattle.aig_cnf.proofs.Truths.{negation_true, truth_literal, variable_true}
use Rattle.aig_cuts.specs.declared.cut.Multiplexer.{Multiplexer}
use Rattle.aig_cuts.specs.Cuts.{IsAndOf, choice_clauses}

truth_and : (x y : Bool) → truth (x && y) ≡ value_and (truth x) (truth y)
truth_and false y = refl
truth_and true y = refl

and_swapped : (x y : Bool) → (x && y) ≡ (y && x)
and_swapped false false = refl
and_swapped false true = refl
and_swapped true false = refl
and_swapped true true = refl

-- the negation of what is chosen, as two gates make it
abbrev chosen_not : Bool → Bool → Bool → Bool
chosen_not s t e = not (s && t) && not (not s && e)

-- what the four clauses of a choice say
choice_from : (x s t e : Bool) → (not s || (not t || (not x || false))) ≡ true → (not s || (t || (x || false))) ≡ true
    → (s || (not e || (not x || false))) ≡ true → (s || (e || (x || false))) ≡ true → x ≡ chosen_not s t e
choice_from false true false e p q r w = cc
choice_from false true true e p q r w = refl
choice_from true true false e p q r w = refl
choice_from true true true e p q r w = cc
choice_from false false t false p q r w = cc
choice_from false false t true p q r w = refl
choice_from true false t false p q r w = refl
choice_from true false t true p q r w = cc

one_not_into : (x s t e : Bool) → x ≡ chosen_not s t e → (not s || (not t || (not x || false))) ≡ true
one_not_into x false t e is = refl
one_not_into x true false e is = refl
one_not_into false true true e is = refl
one_not_into true true true e is = cc

one_into : (x s t e : Bool) → x ≡ chosen_not s t e → (not s || (t || (x || false))) ≡ true
one_into x false t e is = refl
one_into x true true e is = refl
one_into true true false e is = refl
one_into false true false e is = cc

zero_not_into : (x s t e : Bool) → x ≡ chosen_not s t e → (s || (not e || (not x || false))) ≡ true
zero_not_into x true t e is = refl
zero_not_into x false t false is = refl
zero_not_into false false t true is = refl
zero_not_into true false t true is = cc

zero_into : (x s t e : Bool) → x ≡ chosen_not s t e → (s || (e || (x || false))) ≡ true
zero_into x true t e is = refl
zero_into x false t true is = refl
zero_into true false t false is = refl
zero_into false false t false is = cc

any_of_three : (x y z u v w : Bool) → x ≡ u → y ≡ v → z ≡ w → (u || (v || (w || false))) ≡ true
    → (x || (y || (z || false))) ≡ true
any_of_three x y z u v w p q r any = cc

module _ (a : ℕ → Bool) where
  -- the truth of a gate by its operands
  abbrev pub value : Gate → Bool
  value g = is_true a g.left && is_true a g.right

  -- the gate has it
  abbrev pub Evaluates : Gate → Type 0
  Evaluates g = a g.var ≡ value g

  value_is : (g : Gate) → truth (value g) ≡ value_and (truth (is_true a g.left)) (truth (is_true a g.right))
  value_is g = truth_and (is_true a g.left) (is_true a g.right)

  pub holds_where : (g : Gate) → Evaluates g → Holds (truths a) g
  holds_where g is =
      ap truth is ∙ value_is g ∙ sym (ap₂ value_and (truth_literal a g.left) (truth_literal a g.right))

  pub evaluates_where : (g : Gate) → Holds (truths a) g → Evaluates g
  evaluates_where g holds =
      same_truth (a g.var) (value g)
      (holds ∙ ap₂ value_and (truth_literal a g.left) (truth_literal a g.right) ∙ sym (value_is g))

  -- what a gate is worth by the literals of which it is made
  pub value_of : (g : Gate) (l m : ℕ) → IsAndOf g l m → value g ≡ (is_true a l && is_true a m)
  value_of g l m is =
      ⊎_elim (λ (e : (g.left ≡ l) × (g.right ≡ m)). ap₂ (λ x y. is_true a x && is_true a y) e.0 e.1)
      (λ (e : (g.left ≡ m) × (g.right ≡ l)).
      ap₂ (λ x y. is_true a x && is_true a y) e.0 e.1 ∙ and_swapped (is_true a m) (is_true a l)) is

  pub negated : (v : ℕ) → is_true a (negation_of (literal_of v)) ≡ not (a v)
  negated v = negation_true a (literal_of v) ∙ ap not (variable_true a v)

  -- the truth of what is not chosen
  abbrev pub unchosen : Multiplexer → Bool
  unchosen m = chosen_not (is_true a m.selector) (is_true a m.if_one) (is_true a m.if_zero)

  pub from_choice : (v : ℕ) (m : Multiplexer) → Satisfies a (choice_clauses v m) → a v ≡ unchosen m
  from_choice v m c =
      let s = is_true a m.selector in
      let t = is_true a m.if_one in
      let e = is_true a m.if_zero in
      choice_from (a v) s t e
      (any_of_three _ _ _ _ _ _ (sym (negation_true a m.selector)) (sym (negation_true a m.if_one)) (sym (negated v))
      c.0)
      (any_of_three _ _ _ _ _ _ (sym (negation_true a m.selector)) refl (sym (variable_true a v)) c.1.0)
      (any_of_three _ _ _ _ _ _ refl (sym (negation_true a m.if_zero)) (sym (negated v)) c.1.1.0)
      (any_of_three _ _ _ _ _ _ refl refl (sym (variable_true a v)) c.1.1.1.0)

  pub into_choice : (v : ℕ) (m : Multiplexer) → a v ≡ unchosen m → Satisfies a (choice_clauses v m)
  into_choice v m is =
      let s = is_true a m.selector in
      let t = is_true a m.if_one in
      let e = is_true a m.if_zero in (
        any_of_three _ _ _ _ _ _ (negation_true a m.selector) (negation_true a m.if_one) (negated v)
            (one_not_into (a v) s t e is),
        (
          any_of_three _ _ _ _ _ _ (negation_true a m.selector) refl (variable_true a v) (one_into (a v) s t e is),
          (
            any_of_three _ _ _ _ _ _ refl (negation_true a m.if_zero) (negated v) (zero_not_into (a v) s t e is),
            (any_of_three _ _ _ _ _ _ refl refl (variable_true a v) (zero_into (a v) s t e is), tt),
          ),
        ),
      )
