-- What is chosen of a well-formed circuit is well formed.
use Rattle.std.proofs.Common.{◌≡◌, ◌≤◌, ◌∷◌, ◌++◌, ◌==◌, ℕ, suc, List, [], length, take, drop, Bool}
use Rattle.std.proofs.Common.{true, false, cond, refl, sym, ap, subst, arith}
use Rattle.std.specs.List.{AllByRecursion, concat, flat_map}
use Rattle.std.proofs.lemmas.List.{length-append, length-map, take-append-drop}
use Rattle.aig_circuit.specs.declared.circuit.Justice.{Justice}
use Rattle.aig_circuit.specs.declared.circuit.Circuit.{Circuit}
use Rattle.aig_circuit.specs.Justice.{literals_of_each, properties_of}
use Rattle.aig_circuit.specs.Wellformed.{IsKnown, IsWellFormed, defined_variables, largest_index, literal_lists, operands}
use Rattle.aig_circuit.specs.Wellformed.{used_literals}
use Rattle.aig_circuit.proofs.Checking.{back, each_of, front, joined, joined_all}
use Rattle.aig_core.proofs.Checking.Sections.{justice_is_of_lists, lists_are_justice}
use Rattle.aig_meaning.specs.Meaning.{next_literals}
use Rattle.aig_select.specs.declared.choice.Choice.{Choice}
use Rattle.aig_select.specs.Staying.{staying}
use Rattle.aig_select.specs.Chosen.{chosen}
use Rattle.aig_select.proofs.Lists.{all_staying, staying_shorter}

-- what holds of all literals holds of those of each property
pub of_properties : (P : ℕ → Type 0) (sizes literals : List ℕ) → AllByRecursion P literals
    → AllByRecursion (AllByRecursion P) (literals_of_each sizes literals)
of_properties P [] literals all = tt
of_properties P (size ∷ sizes) literals all =
    let parts : AllByRecursion P (take size literals ++ drop size literals) =
    subst (AllByRecursion P) (sym (take-append-drop size literals)) all in (
      front P (take size literals) (drop size literals) parts,
      of_properties P sizes (drop size literals) (back P (take size literals) (drop size literals) parts),
    )

fewer_literals : (ms : List Bool) (xss : List (List ℕ)) → length (concat (staying ms xss)) ≤ length (concat xss)
fewer_literals [] xss = omega arith
fewer_literals (m ∷ ms) [] = omega arith
fewer_literals (true ∷ ms) (xs ∷ xss) =
    omega (arith, fewer_literals ms xss, length-append xs (concat (staying ms xss)), length-append xs (concat xss))
fewer_literals (false ∷ ms) (xs ∷ xss) = omega (arith, fewer_literals ms xss, length-append xs (concat xss))

pub count_properties : (sizes literals : List ℕ) → length (literals_of_each sizes literals) ≡ length sizes
count_properties [] literals = refl
count_properties (size ∷ sizes) literals = ap suc (count_properties sizes (drop size literals))

-- of a list that stays or goes
all_if : (P : ℕ → Type 0) (b : Bool) (xs : List ℕ) → AllByRecursion P xs → AllByRecursion P (cond b [] xs)
all_if P true xs all = tt
all_if P false xs all = all

short_if : (b : Bool) (xs : List ℕ) → length xs ≤ largest_index → length (cond b [] xs) ≤ largest_index
short_if true xs fits = omega arith
short_if false xs fits = fits

module _ (choice : Choice) (c : Circuit) (good : IsWellFormed c) where
  abbrev e : Circuit
  e = chosen choice c

  abbrev properties : List (List ℕ)
  properties = properties_of c.justice

  fewer_properties : length e.justice.sizes ≤ length c.justice.sizes
  fewer_properties =
      omega (
        arith,
        length-map (staying choice.justice properties) (length {A = ℕ}),
        staying_shorter choice.justice properties,
        count_properties c.justice.sizes c.justice.literals,
      )

  few_literals : length e.justice.literals ≤ length c.justice.literals
  few_literals =
      omega (
        arith,
        fewer_literals choice.justice properties,
        ap (λ (j : Justice). length j.literals) (justice_is_of_lists c.justice good.limits.sizes),
      )

  -- what holds of the literals that are used holds of those that still are
  lists_stay : (P : ℕ → Type 0) → AllByRecursion (AllByRecursion P) (literal_lists c)
      → AllByRecursion (AllByRecursion P) (literal_lists e)
  lists_stay P all = (
    all_staying P choice.outputs c.outputs all.0,
    (
      all_staying P choice.bad c.bad all.1.0,
      (
        all.1.1.0,
        (
          joined_all P (staying choice.justice properties)
              (all_staying (AllByRecursion P) choice.justice properties
              (of_properties P c.justice.sizes c.justice.literals all.1.1.1.0)),
          (all_if P (length e.justice.sizes == 0) c.fairness all.1.1.1.1.0, tt),
        ),
      ),
    ),
  )

  known : AllByRecursion (IsKnown (defined_variables c)) (used_literals e)
  known =
      let P : ℕ → Type 0 = IsKnown (defined_variables c) in
      let nexts : List ℕ = next_literals c in
      let lists : List ℕ = concat (literal_lists c) in
      let ands : List ℕ = flat_map operands c.gates in
      let first : AllByRecursion P (nexts ++ lists) = front P (nexts ++ lists) ands good.known in
      joined P (nexts ++ concat (literal_lists e)) ands
      (joined P nexts (concat (literal_lists e)) (front P nexts lists first)
      (joined_all P (literal_lists e) (lists_stay P (each_of P (literal_lists c) (back P nexts lists first)))))
      (back P (nexts ++ lists) ands good.known)

  pub chosen_well_formed : IsWellFormed e
  chosen_well_formed =
      let old = good.limits in
      record {
        limits = record {
          max_var = old.max_var;
          inputs = old.inputs;
          latches = old.latches;
          literals = (
            omega (arith, old.literals.0, staying_shorter choice.outputs c.outputs),
            (
              omega (arith, old.literals.1.0, staying_shorter choice.bad c.bad),
              (
                old.literals.1.1.0,
                (
                  omega (arith, old.literals.1.1.1.0, few_literals),
                  (short_if (length e.justice.sizes == 0) c.fairness old.literals.1.1.1.1.0, tt),
                ),
              ),
            ),
          );
          justice = omega (arith, old.justice, fewer_properties);
          sizes = (lists_are_justice (staying choice.justice properties)).1;
          gates = old.gates;
        };
        in_range = good.in_range;
        once = good.once;
        known = known;
        symbols = record { positions = tt; apart = tt; lines = tt };
        ranked = good.ranked;
      }
