-- A gate's clauses say that its equation holds.
use Rattle.std.proofs.Common.{rules}
use Rattle.std.proofs.Common.{◌≡◌, ◌%◌, ◌∙◌, ◌||◌, ℕ, Bool, true, false, not, cond, eqb, refl, sym, ap, ap₂}
use Rattle.std.proofs.lemmas.Bool.{cases_lt}
use Rattle.aig_circuit.specs.declared.circuit.Gate.{Gate}
use Rattle.aig_circuit.specs.Literal.{literal_of, negation_of, variable_of}
use Rattle.aig_circuit.specs.Values.{value_and, value_not}
use Rattle.aig_meaning.specs.Meaning.{Holds, literal_value}
use Rattle.aig_cnf.specs.Clauses.{Satisfies, gate_clauses, is_true, truth, truths}

pub truth_not : (b : Bool) → value_not (truth b) ≡ truth (not b)
truth_not false = refl
truth_not true = refl

not_not : (b : Bool) → not (not b) ≡ b
not_not false = refl
not_not true = refl

by_sign : (t b : Bool) → cond t (truth b) (value_not (truth b)) ≡ truth (cond t b (not b))
by_sign true b = refl
by_sign false b = truth_not b

-- what three clauses say
gate_from : (x y z : Bool) → (not x || (y || false)) ≡ true → (not x || (z || false)) ≡ true
    → (x || (not y || (not z || false))) ≡ true → truth x ≡ value_and (truth y) (truth z)
gate_from false false z p q r = refl
gate_from false true false p q r = refl
gate_from false true true p q r = cc
gate_from true false z p q r = cc
gate_from true true false p q r = cc
gate_from true true true p q r = refl

first_into : (x y z : Bool) → truth x ≡ value_and (truth y) (truth z) → (not x || (y || false)) ≡ true
first_into false y z e = refl
first_into true true z e = refl
first_into true false z e = cc

second_into : (x y z : Bool) → truth x ≡ value_and (truth y) (truth z) → (not x || (z || false)) ≡ true
second_into false y z e = refl
second_into true y true e = refl
second_into true true false e = cc
second_into true false false e = cc

third_into : (x y z : Bool) → truth x ≡ value_and (truth y) (truth z) → (x || (not y || (not z || false))) ≡ true
third_into true y z e = refl
third_into false false z e = refl
third_into false true false e = refl
third_into false true true e = cc

module _ (a : ℕ → Bool) where
  pub truth_literal : (l : ℕ) → literal_value (truths a) l ≡ truth (is_true a l)
  truth_literal l = by_sign (eqb (l % 2) 0) (a (variable_of l))

  pub variable_true : (v : ℕ) → is_true a (literal_of v) ≡ a v
  variable_true v = search rules

  pub negation_true : (l : ℕ) → is_true a (negation_of l) ≡ not (is_true a l)
  negation_true l = search (rules, cases_lt, not_not)

  negated : (v : ℕ) → is_true a (negation_of (literal_of v)) ≡ not (a v)
  negated v = negation_true (literal_of v) ∙ ap not (variable_true v)

  pub gate_holds : (g : Gate) → Satisfies a (gate_clauses g) → Holds (truths a) g
  gate_holds g s =
      let x = a g.var in
      let y = is_true a g.left in
      let z = is_true a g.right in
      let one : (not x || (y || false)) ≡ true = ap (λ t. t || (y || false)) (sym (negated g.var)) ∙ s.0 in
      let two : (not x || (z || false)) ≡ true = ap (λ t. t || (z || false)) (sym (negated g.var)) ∙ s.1.0 in
      let three : (x || (not y || (not z || false))) ≡ true =
      ap₂ (λ t u. t || (u || (not z || false))) (sym (variable_true g.var)) (sym (negation_true g.left))
      ∙ ap (λ u. is_true a (literal_of g.var) || (is_true a (negation_of g.left) || (u || false)))
      (sym (negation_true g.right)) ∙ s.1.1.0 in
      gate_from x y z one two three ∙ sym (ap₂ value_and (truth_literal g.left) (truth_literal g.right))

  pub gate_satisfied : (g : Gate) → Holds (truths a) g → Satisfies a (gate_clauses g)
  gate_satisfied g h =
      let x = a g.var in
      let y = is_true a g.left in
      let z = is_true a g.right in
      let e : truth x ≡ value_and (truth y) (truth z) =
      h ∙ ap₂ value_and (truth_literal g.left) (truth_literal g.right) in (
        ap (λ t. t || (y || false)) (negated g.var) ∙ first_into x y z e,
        (
          ap (λ t. t || (z || false)) (negated g.var) ∙ second_into x y z e,
          (
            ap₂ (λ t u. t || (u || (is_true a (negation_of g.right) || false))) (variable_true g.var)
                (negation_true g.left)
                ∙ ap (λ u. x || (not y || (u || false))) (negation_true g.right) ∙ third_into x y z e,
            tt,
          ),
        ),
      )
