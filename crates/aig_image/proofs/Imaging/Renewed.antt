-- The circuit by the numbers that were noted is the image.
use Rattle.std.proofs.Common.{◌≡◌, ◌+◌, ◌≤◌, ◌∙◌, rules, ℕ, List, [], length, map, refl, sym, ap, ap₂, inr, append-nil}
use Rattle.std.proofs.Common.{arith, unwrap_or}
use Rattle.std.proofs.lemmas.List.{length-map}
use Rattle.std.proofs.lemmas.Simd.{map-map}
use Rattle.aig_circuit.specs.declared.circuit.Gate.{Gate}
use Rattle.aig_circuit.specs.declared.circuit.Circuit.{Circuit}
use Rattle.aig_circuit.specs.declared.circuit.TheConstants.{LARGEST}
use Rattle.aig_circuit.specs.Wellformed.{IsAmong, IsVariableUpTo, IsWellFormed, defined_variables}
use Rattle.aig_topo.specs.Order.{IsLeastReadyOrder}
use Rattle.aig_circuit.proofs.Checking.{each, definitions_fit}
use Rattle.aig_topo.proofs.Ordering.Ranked.{all_of}
use Rattle.aig_image.specs.declared.image.Renumbering.{Renumbering}
use Rattle.aig_image.specs.Image.{image_by, IsBinaryImage}
use Rattle.aig_image.specs.Parts.InTurn.{numbered_gate}
use Rattle.aig_image.specs.Parts.Numbers.{number_of, number_in, IsRenumberingOf}
use Rattle.aig_image.specs.Relabelled.{relabelled, relabelled_gate, FitIntoLiterals, NamesOnly}
use Rattle.aig_image.specs.Renumbering.{in_new_order, renumbered}
use Rattle.aig_image.specs.Reordered.{operands_sorted, reordered, taken, with_operands_sorted}
use Rattle.aig_image.proofs.Imaging.InTurn.{has_defined, is_defined, new_fits, new_once, not_more}
use Rattle.aig_image.proofs.Numbering.Kept.{in_list, in_place, no_number}
use Rattle.aig_image.proofs.Numbering.Places.{number_within}
use Rattle.aig_image.proofs.Relabelling.Relabelled.{names_only, only_names_matter, with_gates, order_commutes}

module _ (c : Circuit) (order : List ℕ) (good : IsWellFormed c) (least : IsLeastReadyOrder c order) where
  abbrev vs : List ℕ
  vs = in_new_order c order

  some : (v : ℕ) → IsAmong v (defined_variables c) → 1 ≤ v
  some v a = (each (IsVariableUpTo c.max_var) (defined_variables c) good.in_range v a).0

  module _ (number : ℕ → ℕ) (told : (v : ℕ) → number v ≡ number_in vs v) where
    -- the constant is not defined, so it is not renumbered
    constant : number 0 ≡ 0
    constant =
        told 0
        ∙ no_number 0 vs (λ a. let low : 1 ≤ 0 = some 0 (is_defined c order good least 0 a) in omega (arith, low))

    same_number : (v : ℕ) → IsAmong v (defined_variables c) → number v ≡ renumbered vs v
    same_number v a =
        let low : 1 ≤ v = some v a in
        let fits : renumbered vs v ≤ length vs =
        number_within vs (new_once c order good least) vs [] v (sym (append-nil vs))
        (inr (has_defined c order good least v a)) in
        told v ∙ in_place v vs (λ e. absurd (omega (arith, low, e))) fits

    abbrev pub Same : ℕ → Type 0
    Same v = number v ≡ renumbered vs v

    pub same_names : NamesOnly Same c
    same_names = names_only Same c constant (all_of Same (defined_variables c) same_number) good

    pub in_either_turn : relabelled number (reordered order c) ≡ reordered order (relabelled (renumbered vs) c)
    in_either_turn =
        order_commutes number order c constant
        ∙ ap (reordered order) (only_names_matter number (renumbered vs) c same_names)

-- a well-formed circuit has few enough definitions, in any order of its gates
pub fits : (c : Circuit) (order : List ℕ) → IsWellFormed c → IsLeastReadyOrder c order → (gates : List Gate)
    → gates ≡ taken c.gates order
    → length c.inputs + length c.latches + length gates ≤ LARGEST
fits c order good least gates are = search (rules, length-map, not_more, definitions_fit)

-- the circuit with these gates, by these numbers, of which there are so many
abbrev made_by : (ℕ → ℕ) → ℕ → List Gate → Circuit → Circuit
made_by number count gates c =
    record (with_operands_sorted (relabelled number (with_gates gates c))) { max_var = count }

is_image : (c : Circuit) (r : Renumbering) → IsWellFormed c → (of_it : IsRenumberingOf c r)
    → made_by (number_of r.numbers) r.numbers.noted (unwrap_or r.taken c.gates) c ≡ image_by of_it.order c
is_image c r good of_it =
    let number = number_of r.numbers in
    ap₂ (λ (n : ℕ) gates. made_by number n gates c) of_it.numbers.count of_it.gates
    ∙ ap (λ (d : Circuit). record (with_operands_sorted d) { max_var = length (in_new_order c of_it.order) })
    (in_either_turn c of_it.order good of_it.least number of_it.numbers.numbers)

pub made_is_image : (c : Circuit) (r : Renumbering) (made : Circuit) (gates : List Gate) → IsWellFormed c
    → IsRenumberingOf c r
    → made ≡ made_by (number_of r.numbers) r.numbers.noted gates c → gates ≡ unwrap_or r.taken c.gates
    → IsBinaryImage c made
made_is_image c r made gates good of_it made_is gates_are = search (rules, is_image)

-- gates that were made, and the rest of the circuit by the numbers
module _ (c : Circuit) (order : List ℕ) (good : IsWellFormed c) (least : IsLeastReadyOrder c order) (number : ℕ → ℕ)
    (told : (v : ℕ) → number v ≡ number_in (in_new_order c order) v) where
  abbrev new : List ℕ
  new = in_new_order c order

  gates_are : map (numbered_gate (renumbered new)) (taken c.gates order)
      ≡ map operands_sorted (taken (map (relabelled_gate (renumbered new)) c.gates) order)
  gates_are =
      sym (map-map operands_sorted (relabelled_gate (renumbered new)) (taken c.gates order))
      ∙ ap (λ (d : Circuit). map operands_sorted d.gates) (order_commutes (renumbered new) order c refl)

  abbrev without_gates : Circuit
  without_gates = with_gates [] c

  rest_is : relabelled number without_gates ≡ relabelled (renumbered new) without_gates
  rest_is =
      let same = same_names c order good least number told in
      only_names_matter number (renumbered new) without_gates
      (record { inputs = same.inputs; latches = same.latches; literals = same.literals; gates = tt })

  pub told_fits : FitIntoLiterals number
  told_fits v =
      let fits = new_fits c order good least in
      omega (arith, told v, in_list new v, fits, good.limits.max_var)

  pub told_is_image : (rest : Circuit) (none gates : List Gate) (count : ℕ) → none ≡ []
      → rest ≡ relabelled number (with_gates none c)
      → gates ≡ map (numbered_gate (renumbered new)) (taken c.gates order) → count ≡ length new
      → IsBinaryImage c (record (with_gates gates rest) { max_var = count })
  told_is_image rest none gates count nothing rest_too gates_too counted =
      let all =
      ap₂ (λ (gs : List Gate) (d : Circuit). record (with_gates gs d) { max_var = count }) (gates_too ∙ gates_are)
      (rest_too ∙ ap (λ (gs : List Gate). relabelled number (with_gates gs c)) nothing ∙ rest_is)
      ∙ ap (λ (n : ℕ). record (image_by order c) { max_var = n }) counted in
      (order, least, all)
