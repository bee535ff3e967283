-- What satisfies the clauses of a circuit goes over to those of one that means the same.
use Rattle.std.proofs.Common.{◌≡◌, ◌∙◌, ◌∷◌, ◌||◌, ℕ, List, [], Bool, true, false, length, map, refl, sym, ap, ap₂}
use Rattle.std.specs.List.{list_any}
use Rattle.std.proofs.lemmas.List.{length-map}
use Rattle.std.proofs.lemmas.Simd.{map-map}
use Rattle.aig_circuit.specs.declared.circuit.Latch.{Latch}
use Rattle.aig_circuit.specs.declared.circuit.Circuit.{Circuit}
use Rattle.aig_circuit.specs.declared.value.Val.{Val}
use Rattle.aig_circuit.specs.declared.value.Val.TheVariants.{Zero, One, X}
use Rattle.aig_circuit.proofs.Checking.{back, front, joined}
use Rattle.aig_cnf.specs.Clauses.{HasTrue, Satisfies, is_true, step_clauses, truth, truths}
use Rattle.aig_cnf.proofs.Existing.{steps_are_satisfied}
use Rattle.aig_cnf.proofs.Steps.{clauses_are_steps}
use Rattle.aig_cnf.proofs.Truths.{truth_literal}
use Rattle.aig_meaning.specs.Meaning.{IsRow, Row, latch_variables, literal_value}
use Rattle.aig_meaning.proofs.Traces.{one_row, row_shown}
use Rattle.aig_alike.specs.Laws.{RefutedAlike, SatisfiedAlike}

is_one : Val → Bool
is_one Zero = false
is_one One = true
is_one X = false

one_truth : (b : Bool) → is_one (truth b) ≡ b
unfolding is_one
one_truth false = refl
one_truth true = refl

any_true : (a : ℕ → Bool) (ls : List ℕ) → list_any is_one (map (literal_value (truths a)) ls) ≡ list_any (is_true a) ls
any_true a [] = refl
any_true a (l ∷ ls) = ap₂ (λ x y. x || y) (ap is_one (truth_literal a l) ∙ one_truth (is_true a l)) (any_true a ls)

row_is : (c : Circuit) (a : ℕ → Bool) → Satisfies a (step_clauses c) → IsRow c (row_shown c (truths a))
row_is c a satisfied = (
  truths a,
  record {
    assigned = (clauses_are_steps c a).0 satisfied;
    outputs_shown = refl;
    next_shown = refl;
    bad_shown = refl;
    constraints_shown = refl;
  },
)

same_truths : (a b : ℕ → Bool) (xs ys : List ℕ) → map b ys ≡ map a xs → map (truths b) ys ≡ map (truths a) xs
same_truths a b xs ys e = sym (map-map truth b ys) ∙ ap (map truth) e ∙ map-map truth a xs

pub satisfied_alike : SatisfiedAlike
satisfied_alike c d good good_too same a satisfied =
    let steps : Satisfies a (step_clauses c) = front (HasTrue a) (step_clauses c) (c.bad ∷ []) satisfied in
    let any : list_any (is_true a) c.bad ≡ true =
    (back (HasTrue a) (step_clauses c) (c.bad ∷ []) satisfied).0 in
    let latches : length c.latches ≡ length d.latches =
    sym (length-map c.latches (λ (l : Latch). l.reset)) ∙ ap length (sym same.resets)
    ∙ length-map d.latches (λ (l : Latch). l.reset) in
    let variables : length (latch_variables c) ≡ length c.latches = length-map c.latches (λ (l : Latch). l.var) in
    let state : List Bool = map a (latch_variables c) in
    let given : List Bool = map a c.inputs in
    let set = steps_are_satisfied d state given good_too (length-map (latch_variables c) a ∙ variables ∙ latches)
    (length-map c.inputs a ∙ sym same.inputs) in
    let b : ℕ → Bool = set.0 in
    let row : Row = row_shown c (truths a) in
    let other : Row = row_shown d (truths b) in
    let its : IsRow c other = (same.rows other).1 (row_is d b set.3) in
    let one = one_row c row.state row.inputs good (length-map (latch_variables c) (truths a) ∙ variables)
    (length-map c.inputs (truths a)) in
    let alike : other ≡ row =
    one.4 other (same_truths a b (latch_variables c) (latch_variables d) set.1)
    (same_truths a b c.inputs d.inputs set.2) its
    ∙ sym (one.4 row refl refl (row_is c a steps)) in
    let any_too : list_any (is_true b) d.bad ≡ true =
    sym (any_true b d.bad) ∙ ap (λ (r : Row). list_any is_one r.bad) alike ∙ any_true a c.bad ∙ any in
    (b, joined (HasTrue b) (step_clauses d) (d.bad ∷ []) set.3 (any_too, tt), set.2, set.1)

pub refuted_alike : RefutedAlike
refuted_alike c d good good_too same none a satisfied =
    let there = satisfied_alike c d good good_too same a satisfied in
    none there.0 there.1
