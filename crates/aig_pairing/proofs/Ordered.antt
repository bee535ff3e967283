-- What it means that a circuit is ordered by the names of another.
use Rattle.std.proofs.Common.{◌≡◌, ◌++◌, ◌+◌, ◌∙◌, ℕ, List, None, Option, Some, Ok, arith}
use Rattle.std.proofs.Common.{◌==◌, Bool, false, if◌then◌else◌, not, true}
use Rattle.std.proofs.Common.{length, length-append, length-drop, length-take, refl, sym, ap, subst, take, drop}
use Rattle.std.specs.List.{slice_get}
use Rattle.std.proofs.lemmas.Bool.Decides.{Decides-eqb}
use Rattle.std.proofs.lemmas.List.{get_or-drop, get_or-take, length-map, take-append-drop}
use Rattle.std.proofs.lemmas.List.Elements.{filter_map-append}
use Rattle.aig_circuit.specs.declared.circuit.Circuit.{Circuit}
use Rattle.aig_circuit.specs.Wellformed.{IsWellFormed}
use Rattle.aig_circuit.specs.declared.value.Val.{Val}
use Rattle.aig_circuit.specs.declared.value.Val.TheVariants.{Zero}
use Rattle.aig_meaning.specs.Meaning.{literal_value}
use Rattle.aig_fault.specs.declared.fault.Fault.{Fault}
use Rattle.aig_pairing.specs.ByNames.{bad_names, in_order, in_order_of, output_names, pairing_fault, unless_wrong}
use Rattle.aig_pairing.specs.ByNames.{by_names, value_named}
use Rattle.aig_pairing.specs.Laws.{AreByName, OrderedIsWellFormed, RowsStandByName, ValuesStandByName}
use Rattle.aig_pairing.specs.Names.{Name, compared, compared_names, input_names}
use Rattle.aig_pairing.proofs.Formed.{CanBePaired, can_be_paired, ordered_is_formed}
use Rattle.aig_pairing.proofs.Found.{both_none}
use Rattle.aig_pairing.proofs.Naming.{length-compared_names, length-input_names}
use Rattle.aig_pairing.proofs.Taken.{GivesEach, gives_each, taken_at, taken_long}

none_wrong : (x c : Circuit) (o : Option Fault) → unless_wrong x o ≡ Ok c → (o ≡ None) × (x ≡ c)
none_wrong x c None is = (refl, cc)
none_wrong x c (Some fault) is = absurd (cc)

pub ordered_by : (a b c : Circuit) → by_names a b ≡ Ok c → (pairing_fault a b ≡ None) × (in_order a b ≡ c)
ordered_by a b c is = none_wrong (in_order a b) c (pairing_fault a b) is

pub ordered_is_well_formed : OrderedIsWellFormed
ordered_is_well_formed a b c are =
    let by = ordered_by a b c are.ordered in
    subst IsWellFormed by.1 (ordered_is_formed a b are.first are.second (can_be_paired a b are.named by.0))

-- a part of the names gives each what all of them give
module _ {A : Type 0} (h : Name → Option A) (xs : List Name) (gives : GivesEach h xs) (n : ℕ) where
  gives_first : GivesEach h (take n xs)
  gives_first i low =
      let long = length-take n xs in
      let r = gives i (omega (arith, low, long)) in
      (r.0, ap h (get_or-take n xs i None (omega (arith, low, long))) ∙ r.1)

  gives_last : GivesEach h (drop n xs)
  gives_last i low =
      let r = gives (n + i) (omega (arith, low, length-drop n xs)) in
      (r.0, ap h (get_or-drop n xs i None) ∙ r.1)

-- what is compared is taken by all names together
together : {A : Type 0} (a b : Circuit) (values : List A)
    → in_order_of (output_names a) (compared_names b) values ++ in_order_of (bad_names a) (compared_names b) values
    ≡ in_order_of (compared_names a) (compared_names b) values
together a b values =
    sym (filter_map-append (value_named (compared_names b) values) (output_names a) (bad_names a))
    ∙ ap (λ (names : List Name). in_order_of names (compared_names b) values)
    (take-append-drop (length a.outputs) (compared_names a))

first_count : (m n : ℕ) (t : Bool) (f : Fault) (later : Option Fault) → (t ≡ true → m ≡ n)
    → (if not t then Some f else later) ≡ None → (m ≡ n) × (later ≡ None)
first_count m n true f later same none = (same refl, none)
first_count m n false f later same none = absurd (cc)

module _ (a b : Circuit) (none : pairing_fault a b ≡ None) (can : CanBePaired a b) where
  counts : (length a.inputs ≡ length b.inputs) × (length (compared a) ≡ length (compared b))
  counts =
      let first = first_count _ _ (length a.inputs == length b.inputs) _ _
      (Decides-eqb (length a.inputs) (length b.inputs)).0 (both_none _ _ none).0 in
      let second = first_count _ _ (length (compared a) == length (compared b)) _ _
      (Decides-eqb (length (compared a)) (length (compared b))).0 first.1 in
      (first.0, second.0)

  inputs_given : {A : Type 0} (d : A) (values : List A) → length values ≡ length b.inputs
      → GivesEach (value_named (input_names b) values) (input_names a)
  inputs_given d values long =
      gives_each (input_names a) (input_names b) can.inputs_right can.own_inputs_right can.inputs_found
      (length-input_names a ∙ counts.0 ∙ sym (length-input_names b)) d values (long ∙ sym (length-input_names b))

  compared_given : {A : Type 0} (d : A) (values : List A) → length values ≡ length (compared b)
      → GivesEach (value_named (compared_names b) values) (compared_names a)
  compared_given d values long =
      gives_each (compared_names a) (compared_names b) can.compared_right can.own_compared_right can.compared_found
      (length-compared_names a ∙ counts.1 ∙ sym (length-compared_names b)) d values
      (long ∙ sym (length-compared_names b))

pub values_stand_by_name : ValuesStandByName
values_stand_by_name a b c are =
    let by = ordered_by a b c are.ordered in
    let can = can_be_paired a b are.named by.0 in
    let h = value_named (input_names b) b.inputs in
    let k = value_named (compared_names b) (compared b) in
    let inputs = inputs_given a b by.0 can 0 b.inputs refl in
    let all = compared_given a b by.0 can 0 (compared b) refl in
    let outputs = gives_first k (compared_names a) all (length a.outputs) in
    let bad = gives_last k (compared_names a) all (length a.outputs) in
    let long = length-compared_names a in
    let both = length-append a.outputs a.bad in
    let front_long = length-take (length a.outputs) (compared_names a) in
    let back_long = length-drop (length a.outputs) (compared_names a) in
    subst (λ (d : Circuit). (length d.inputs ≡ length a.inputs) × (length d.outputs ≡ length a.outputs)
    × (length d.bad ≡ length a.bad) × AreByName (input_names a) (input_names b) b.inputs d.inputs
    × AreByName (compared_names a) (compared_names b) (compared b) (compared d)) by.1 (
      taken_long h (input_names a) inputs ∙ length-input_names a,
      omega (arith, taken_long k (output_names a) outputs, front_long, long, both),
      omega (arith, taken_long k (bad_names a) bad, back_long, long, both),
      (taken_long h (input_names a) inputs, taken_at h (input_names a) inputs),
      (
        ap length (together a b (compared b)) ∙ taken_long k (compared_names a) all,
        λ place low.
            ap (λ (vs : List ℕ). slice_get vs place) (together a b (compared b))
            ∙ taken_at k (compared_names a) all place low,
      ),
    )

pub rows_stand_by_name : RowsStandByName
rows_stand_by_name a b c are row (v, shown) =
    let by = ordered_by a b c are.ordered in
    let can = can_be_paired a b are.named by.0 in
    let values = row.outputs ++ row.bad in
    let many : length row.inputs ≡ length b.inputs =
    ap length (sym shown.assigned.inputs) ∙ length-map b.inputs v in
    let much : length values ≡ length (compared b) =
    omega (
      arith,
      length-append row.outputs row.bad,
      length-append b.outputs b.bad,
      ap length shown.outputs_shown ∙ length-map b.outputs (literal_value v),
      ap length shown.bad_shown ∙ length-map b.bad (literal_value v),
    ) in
    let h = value_named (input_names b) row.inputs in
    let k = value_named (compared_names b) values in
    let inputs = inputs_given a b by.0 can Zero row.inputs many in
    let all = compared_given a b by.0 can Zero values much in (
      (taken_long h (input_names a) inputs, taken_at h (input_names a) inputs),
      (
        ap length (together a b values) ∙ taken_long k (compared_names a) all,
        λ place low.
            ap (λ (vs : List Val). slice_get vs place) (together a b values)
            ∙ taken_at k (compared_names a) all place low,
      ),
    )
