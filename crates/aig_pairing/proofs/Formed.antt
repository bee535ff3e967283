-- A circuit in the order in which another one names its inputs and what is compared is well formed.
use Rattle.std.proofs.Common.{◌≡◌, ◌≤◌, ◌++◌, ◌∷◌, ℕ, List, [], None, arith}
use Rattle.std.proofs.Common.{length, length-append, length-drop, length-take, map, refl, sym, inl, inr, ⊎_elim}
use Rattle.std.specs.List.{AllByRecursion, concat, flat_map}
use Rattle.aig_circuit.specs.declared.circuit.Circuit.{Circuit}
use Rattle.aig_circuit.specs.declared.circuit.Gate.{Gate}
use Rattle.aig_circuit.specs.declared.circuit.Latch.{Latch}
use Rattle.aig_circuit.specs.Literal.{variable_of}
use Rattle.aig_circuit.specs.Wellformed.{AreDistinct, IsAmong, IsKnown, IsVariableUpTo, IsWellFormed, IsWithinLimits}
use Rattle.aig_circuit.specs.Wellformed.{defined_variables, operands}
use Rattle.aig_circuit.proofs.Checking.{all_weaker, back, each, front, joined}
use Rattle.aig_meaning.proofs.Related.{distinct_apart, distinct_front}
use Rattle.aig_topo.proofs.Ordering.Counted.{among_either, among_first}
use Rattle.aig_topo.proofs.Ordering.Cyclic.{among_last}
use Rattle.aig_topo.proofs.Ordering.Ranked.{all_of, distinct_back}
use Rattle.aig_pairing.specs.declared.order.Lists.{Lists}
use Rattle.aig_pairing.specs.declared.paired.Paired.TheVariants.{Compared, Inputs}
use Rattle.aig_pairing.specs.ByNames.{bad_names, in_order, in_order_of, output_names, pairing_fault, value_named}
use Rattle.aig_pairing.specs.NameFaults.{first_name_fault}
use Rattle.aig_pairing.specs.Names.{Name, compared, compared_names, input_names}
use Rattle.aig_pairing.specs.Parts.Ordered.{AreInOrder, with_lists}
use Rattle.aig_pairing.proofs.Found.{AreFound, AreRight, are_found, are_right, both_none}
use Rattle.aig_pairing.proofs.Naming.{length-compared_names, length-input_names}
use Rattle.aig_pairing.proofs.Taken.{all_there, each_once, none_else, taken_short}

-- other numbers in front, each of which was there
module _ (now then ys : List ℕ) (there : (v : ℕ) → IsAmong v now → IsAmong v then) where
  among_swapped : (v : ℕ) → IsAmong v (now ++ ys) → IsAmong v (then ++ ys)
  among_swapped v a =
      ⊎_elim (λ (b : IsAmong v now). among_first v then ys (there v b)) (λ (b : IsAmong v ys). among_last then ys v b)
      (among_either v now ys a)

  all_swapped : (P : ℕ → Type 0) → AllByRecursion P (then ++ ys) → AllByRecursion P (now ++ ys)
  all_swapped P all =
      joined P now ys (all_of P now (λ v a. each P then (front P then ys all) v (there v a))) (back P then ys all)

once_joined : (xs ys : List ℕ) → AreDistinct xs → ((v : ℕ) → IsAmong v xs → ¬ IsAmong v ys) → AreDistinct ys
    → AreDistinct (xs ++ ys)
once_joined [] ys once apart others = others
once_joined (x ∷ xs) ys once apart others = (
  λ a. ⊎_elim once.0 (λ (b : IsAmong x ys). apart x (inl refl) b) (among_either x xs ys a),
  once_joined xs ys once.1 (λ v a. apart v (inr a)) others,
)

once_swapped : (now then ys : List ℕ) → ((v : ℕ) → IsAmong v now → IsAmong v then) → AreDistinct now
    → AreDistinct (then ++ ys) → AreDistinct (now ++ ys)
once_swapped now then ys there once all =
    once_joined now ys once (λ v a. distinct_apart then ys all v (there v a)) (distinct_back then ys all)

-- the two can be paired
pub record CanBePaired (a b : Circuit) : Type 0 where
  pub inputs_right : AreRight (input_names a)
  pub compared_right : AreRight (compared_names a)
  pub own_inputs_right : AreRight (input_names b)
  pub own_compared_right : AreRight (compared_names b)
  pub inputs_found : AreFound (input_names a) (input_names b)
  pub compared_found : AreFound (compared_names a) (compared_names b)

pub can_be_paired : (a b : Circuit) → first_name_fault a ≡ None → pairing_fault a b ≡ None → CanBePaired a b
can_be_paired a b named none =
    let first = both_none _ _ named in
    let later = both_none _ _ (both_none _ _ none).1 in
    let second = both_none _ _ later.0 in
    let missing = both_none _ _ later.1 in
    record {
      inputs_right = are_right Inputs (input_names a) first.0;
      compared_right = are_right (Compared (length a.outputs)) (compared_names a) first.1;
      own_inputs_right = are_right Inputs (input_names b) second.0;
      own_compared_right = are_right (Compared (length b.outputs)) (compared_names b) second.1;
      inputs_found = are_found Inputs (input_names a) (input_names b) missing.0;
      compared_found = are_found (Compared (length b.outputs)) (compared_names a) (compared_names b) missing.1;
    }

module _ (a b : Circuit) (good : IsWellFormed a) (own : IsWellFormed b) (can : CanBePaired a b) where
  abbrev inputs : List ℕ
  inputs = in_order_of (input_names a) (input_names b) b.inputs

  abbrev latches : List ℕ
  latches = map (λ (l : Latch). l.var) b.latches

  abbrev gates : List ℕ
  gates = map (λ (g : Gate). g.var) b.gates

  input_was : (v : ℕ) → IsAmong v inputs → IsAmong v b.inputs
  input_was = none_else (input_names a) (input_names b) b.inputs

  input_stays : (v : ℕ) → IsAmong v b.inputs → IsAmong v inputs
  input_stays =
      all_there (input_names a) (input_names b) b.inputs can.own_inputs_right can.inputs_found
      (sym (length-input_names b))

  latch_was : (v : ℕ) → IsAmong v (inputs ++ latches) → IsAmong v (b.inputs ++ latches)
  latch_was = among_swapped inputs b.inputs latches input_was

  once : AreDistinct ((inputs ++ latches) ++ gates)
  once =
      once_swapped (inputs ++ latches) (b.inputs ++ latches) gates latch_was
      (once_swapped inputs b.inputs latches input_was
      (each_once (input_names a) (input_names b) b.inputs can.inputs_right
      (distinct_front b.inputs latches (distinct_front (b.inputs ++ latches) gates own.once)))
      (distinct_front (b.inputs ++ latches) gates own.once)) own.once

  stays_defined : (v : ℕ) → IsAmong v (defined_variables b) → IsAmong v ((inputs ++ latches) ++ gates)
  stays_defined =
      among_swapped (b.inputs ++ latches) (inputs ++ latches) gates
      (among_swapped b.inputs inputs latches input_stays)

  abbrev Known : ℕ → Type 0
  Known = IsKnown (defined_variables (in_order a b))

  stays_known : (literal : ℕ) → IsKnown (defined_variables b) literal → Known literal
  stays_known literal known =
      ⊎_elim (λ (e : variable_of literal ≡ 0). inl e)
      (λ (i : IsAmong (variable_of literal) (defined_variables b)). inr (stays_defined (variable_of literal) i)) known

  abbrev nexts : List ℕ
  nexts = map (λ (l : Latch). l.next) b.latches

  abbrev rest : List ℕ
  rest = concat (b.constraints ∷ b.justice.literals ∷ b.fairness ∷ [])

  abbrev uses : List ℕ
  uses = flat_map operands b.gates

  -- what is compared was compared before, whatever its order
  compared_known : (wanted : List Name) → AllByRecursion Known (compared b)
      → AllByRecursion Known (in_order_of wanted (compared_names b) (compared b))
  compared_known wanted all =
      all_of Known (in_order_of wanted (compared_names b) (compared b))
      (λ v i. each Known (compared b) all v (none_else wanted (compared_names b) (compared b) v i))

  known : AllByRecursion Known
      ((nexts ++ ((in_order a b).outputs ++ ((in_order a b).bad ++ rest))) ++ uses)
  known =
      let all = all_weaker (IsKnown (defined_variables b)) Known stays_known _ own.known in
      let lists = front Known (nexts ++ (b.outputs ++ (b.bad ++ rest))) uses all in
      let listed = back Known nexts (b.outputs ++ (b.bad ++ rest)) lists in
      let outputs = front Known b.outputs (b.bad ++ rest) listed in
      let others = back Known b.outputs (b.bad ++ rest) listed in
      let every : AllByRecursion Known (compared b) =
      joined Known b.outputs b.bad outputs (front Known b.bad rest others) in
      joined Known (nexts ++ ((in_order a b).outputs ++ ((in_order a b).bad ++ rest))) uses
      (joined Known nexts ((in_order a b).outputs ++ ((in_order a b).bad ++ rest))
      (front Known nexts (b.outputs ++ (b.bad ++ rest)) lists)
      (joined Known (in_order a b).outputs ((in_order a b).bad ++ rest) (compared_known (output_names a) every)
      (joined Known (in_order a b).bad rest (compared_known (bad_names a) every) (back Known b.bad rest others))))
      (back Known (nexts ++ (b.outputs ++ (b.bad ++ rest))) uses all)

  limits : IsWithinLimits (in_order a b)
  limits =
      let few : length (in_order a b).outputs ≤ length (output_names a) =
      taken_short (value_named (compared_names b) (compared b)) (output_names a) in
      let few_bad : length (in_order a b).bad ≤ length (bad_names a) =
      taken_short (value_named (compared_names b) (compared b)) (bad_names a) in
      let short : length inputs ≤ length (input_names a) =
      taken_short (value_named (input_names b) b.inputs) (input_names a) in
      let long = length-compared_names a in
      let both = length-append a.outputs a.bad in
      let front_long = length-take (length a.outputs) (compared_names a) in
      let back_long = length-drop (length a.outputs) (compared_names a) in
      record {
        max_var = own.limits.max_var;
        inputs = omega (arith, short, length-input_names a, good.limits.inputs);
        latches = own.limits.latches;
        literals = (
          omega (arith, few, front_long, good.limits.literals.0),
          (omega (arith, few_bad, back_long, long, both, good.limits.literals.1.0), own.limits.literals.1.1),
        );
        justice = own.limits.justice;
        sizes = own.limits.sizes;
        gates = own.limits.gates;
      }

  pub ordered_is_formed : IsWellFormed (in_order a b)
  ordered_is_formed = record {
    limits = limits;
    in_range = all_swapped (inputs ++ latches) (b.inputs ++ latches) gates latch_was (IsVariableUpTo b.max_var)
        own.in_range;
    once = once;
    known = known;
    symbols = record { positions = tt; apart = tt; lines = tt };
    ranked = own.ranked;
  }

pub lists_are_formed : (a b : Circuit) (lists : Lists) → IsWellFormed a → IsWellFormed b → first_name_fault a ≡ None
    → pairing_fault a b ≡ None → AreInOrder a b lists → IsWellFormed (with_lists lists b)
lists_are_formed a b lists good own named none are =
    rw (are.inputs, are.outputs, are.bad) (ordered_is_formed a b good own (can_be_paired a b named none))
