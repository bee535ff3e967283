-- Each state and each vector of inputs without x have a step assignment without x, and it satisfies the clauses.
use Rattle.std.proofs.Common.{◌≡◌, ◌++◌, ◌∙◌, ℕ, List, [], ◌∷◌, Bool, true, false, map, refl, sym, ap, ap₂, subst}
use Rattle.std.proofs.Common.{⊎_elim}
use Rattle.std.specs.Prelude.{⊤}
use Rattle.std.specs.List.{AllByRecursion, AllZip, Contains}
use Rattle.std.proofs.lemmas.List.{length-map}
use Rattle.aig_circuit.specs.declared.circuit.Gate.{Gate}
use Rattle.aig_circuit.specs.declared.circuit.Circuit.{Circuit}
use Rattle.aig_circuit.specs.declared.value.Val.{Val}
use Rattle.aig_circuit.specs.declared.value.Val.TheVariants.{Zero, One, X}
use Rattle.aig_circuit.specs.Literal.{variable_of}
use Rattle.aig_circuit.specs.Values.{value_and, value_not}
use Rattle.aig_circuit.specs.Wellformed.{IsAmong, IsWellFormed, defined_variables}
use Rattle.aig_meaning.specs.Meaning.{Holds, IsStepAssignment, latch_variables, literal_value}
use Rattle.aig_meaning.proofs.Related.{IsDefined, IsKept, everywhere, known_operands, map_same, same_literal}
use Rattle.aig_meaning.proofs.Related.{variables_of}
use Rattle.aig_meaning.proofs.Existing.{an_assignment}
use Rattle.aig_topo.proofs.Ordering.Cyclic.{among_last}
use Rattle.aig_topo.proofs.Ordering.Counted.{among_first as among_front}
use Rattle.aig_cnf.specs.Clauses.{Satisfies, is_true, step_clauses, truth, truths}
use Rattle.aig_cnf.specs.Laws.{StepsAreSatisfied}
use Rattle.aig_cnf.proofs.Steps.{clauses_are_steps}
use Rattle.aig_cnf.proofs.Truths.{truth_literal}

-- 0 or 1
abbrev pub IsSure : Val → Type 0
IsSure Zero = ⊤
IsSure One = ⊤
IsSure X = ⊥

abbrev pub is_one : Val → Bool
is_one Zero = false
is_one One = true
is_one X = false

pub sure_truth : (b : Bool) → IsSure (truth b)
sure_truth false = tt
sure_truth true = tt

pub truth_of : (v : Val) → IsSure v → truth (is_one v) ≡ v
truth_of Zero sure = refl
truth_of One sure = refl
truth_of X sure = absurd sure

pub one_truth : (b : Bool) → is_one (truth b) ≡ b
one_truth false = refl
one_truth true = refl

sure_not : (v : Val) → IsSure v → IsSure (value_not v)
sure_not Zero sure = tt
sure_not One sure = tt
sure_not X sure = absurd sure

sure_and : (v w : Val) → IsSure v → IsSure w → IsSure (value_and v w)
sure_and Zero w sure sure_too = tt
sure_and One w sure sure_too = sure_too
sure_and X w sure sure_too = absurd sure

-- as a relation of a value to itself, or to any other
abbrev Both : Val → Val → Type 0
Both v w = IsSure v

sure_is_kept : IsKept Both
sure_is_kept = record { at_zero = tt; by_not = λ x y s. sure_not x s; by_and = λ x y z w s t. sure_and x z s t }

each_sure : (vs : List Val) → AllByRecursion IsSure vs → AllZip Both vs vs
each_sure [] sure = tt
each_sure (v ∷ vs) sure = (sure.0, each_sure vs sure.1)

-- A step assignment of a state and inputs that are 0 and 1.
module _ (c : Circuit) (formed : IsWellFormed c) (state given : List Val) (b : ℕ → Val)
    (is : IsStepAssignment c state given b) (sure_state : AllByRecursion IsSure state)
    (sure_given : AllByRecursion IsSure given) where
  abbrev pub rounded : ℕ → Bool
  rounded v = is_one (b v)

  -- it is 0 or 1 where the circuit defines a variable, and so it is the same
  same_defined : (v : ℕ) → IsAmong v (defined_variables c) → truths rounded v ≡ b v
  same_defined v among =
      truth_of (b v)
      (everywhere Both sure_is_kept b b c formed state state given given (each_sure state sure_state)
      (each_sure given sure_given) is is v among)

  same_constant : truths rounded 0 ≡ b 0
  same_constant = ap (λ v. truth (is_one v)) is.constant ∙ sym is.constant

  pub same_known : (l : ℕ) → IsDefined c l → literal_value (truths rounded) l ≡ literal_value b l
  same_known l known =
      same_literal (truths rounded) b l (
      ⊎_elim (λ (e : variable_of l ≡ 0). subst (λ v. truths rounded v ≡ b v) (sym e) same_constant)
      (λ (among : IsAmong (variable_of l) (defined_variables c)). same_defined (variable_of l) among) known)

  sure_literal : (l : ℕ) → IsDefined c l → IsSure (literal_value b l)
  sure_literal l known =
      subst IsSure (sym (truth_literal rounded l) ∙ same_known l known) (sure_truth (is_true rounded l))

  same_gate : (g : Gate) → Contains c.gates g → truths rounded g.var ≡ b g.var
  same_gate g g_in =
      let known = known_operands c formed g g_in in
      truth_of (b g.var)
      (subst IsSure (sym (is.gates g g_in))
      (sure_and (literal_value b g.left) (literal_value b g.right) (sure_literal g.left known.0)
      (sure_literal g.right known.1)))

  holds_too : (g : Gate) → Contains c.gates g → Holds (truths rounded) g
  holds_too g g_in =
      let known = known_operands c formed g g_in in
      same_gate g g_in ∙ is.gates g g_in
      ∙ sym (ap₂ value_and (same_known g.left known.0) (same_known g.right known.1))

  -- so it is a step assignment too
  pub rounded_is : IsStepAssignment c state given (truths rounded)
  rounded_is = record {
    constant = same_constant ∙ is.constant;
    inputs = map_same (truths rounded) b c.inputs (λ v among.
        same_defined v (among_front v (c.inputs ++ latch_variables c) (variables_of c.gates)
        (among_front v c.inputs (latch_variables c) among))) ∙ is.inputs;
    latches = map_same (truths rounded) b (latch_variables c) (λ v among.
        same_defined v (among_front v (c.inputs ++ latch_variables c) (variables_of c.gates)
        (among_last c.inputs (latch_variables c) v among))) ∙ is.latches;
    gates = holds_too;
  }

  pub rounded_satisfies : Satisfies rounded (step_clauses c)
  rounded_satisfies =
      (clauses_are_steps c rounded).1
      (record { constant = rounded_is.constant; inputs = refl; latches = refl; gates = rounded_is.gates })

sure_truths : (bs : List Bool) → AllByRecursion IsSure (map truth bs)
sure_truths [] = tt
sure_truths (b ∷ bs) = (sure_truth b, sure_truths bs)

pub same_truth : (x y : Bool) → truth x ≡ truth y → x ≡ y
same_truth x y e = sym (one_truth x) ∙ ap is_one e ∙ one_truth y

unmapped : (a : ℕ → Bool) (vs : List ℕ) (bs : List Bool) → map (truths a) vs ≡ map truth bs → map a vs ≡ bs
unmapped a [] [] e = refl
unmapped a [] (b ∷ bs) e = cc
unmapped a (v ∷ vs) [] e = cc
unmapped a (v ∷ vs) (b ∷ bs) e =
    let here : truth (a v) ≡ truth b = cc in
    let rest : map (truths a) vs ≡ map truth bs = cc in
    ap₂ (λ x xs. x ∷ xs) (same_truth (a v) b here) (unmapped a vs bs rest)

pub steps_are_satisfied : StepsAreSatisfied
steps_are_satisfied c state given formed as_long as_long_too =
    let states = map truth state in
    let givens = map truth given in
    let b = an_assignment c formed states givens (length-map state truth ∙ as_long)
    (length-map given truth ∙ as_long_too) in
    let is = rounded_is c formed states givens b.0 b.1 (sure_truths state) (sure_truths given) in
    let a = rounded c formed states givens b.0 b.1 (sure_truths state) (sure_truths given) in (
      a,
      unmapped a (latch_variables c) state is.latches,
      unmapped a c.inputs given is.inputs,
      rounded_satisfies c formed states givens b.0 b.1 (sure_truths state) (sure_truths given),
    )
