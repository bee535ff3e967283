-- Justice properties that are taken one after the other.
use Rattle.std.proofs.Common.{◌≡◌, ◌+◌, ◌<◌, ◌≤◌, ◌∷◌, ◌++◌, ◌∙◌, ℕ, List, [], length, take, drop, get_or, map, Bool}
use Rattle.std.proofs.Common.{true, false, cond, sym, ap, ap₂, arith, append_assoc, append-nil}
use Rattle.std.specs.List.{concat, sum}
use Rattle.std.proofs.lemmas.List.{drop_all, drop_more, length-drop, length-take-le}
use Rattle.aig_circuit.specs.declared.circuit.Justice.{Justice}
use Rattle.aig_circuit.specs.Justice.{literals_of_each}
use Rattle.aig_core.proofs.Checking.Sections.{sum_cons}
use Rattle.aig_select.specs.Staying.{staying}
use Rattle.aig_select.specs.Chosen.{chosen_justice}
use Rattle.aig_select.proofs.Keeping.{staying_at, staying_nothing}

-- what is left to choose from
abbrev pub left : List Bool → List ℕ → List ℕ → ℕ → List (List ℕ)
left marks all rest at = staying (drop at marks) (literals_of_each (drop at all) rest)

-- with what was taken, it makes up what is chosen; and the sizes are those of the literals that are left
pub record AreTaken (marks : List Bool) (j : Justice) (sizes literals rest : List ℕ) (at : ℕ) : Type 0 where
  pub sizes_so : sizes ++ map length (left marks j.sizes rest at) ≡ (chosen_justice marks j).sizes
  pub literals_so : literals ++ concat (left marks j.sizes rest at) ≡ (chosen_justice marks j).literals
  pub fits : sum (drop at j.sizes) ≡ length rest

module _ (marks : List Bool) (j : Justice) (sizes literals rest : List ℕ) (at size : ℕ)
    (so : AreTaken marks j sizes literals rest at) (there : at < length j.sizes) (read : size ≡ get_or j.sizes at size) where
  one_more : drop at j.sizes ≡ size ∷ drop (at + 1) j.sizes
  one_more = drop_more j.sizes at size there ∙ ap (λ (n : ℕ). n ∷ drop (at + 1) j.sizes) (sym read)

  summed : size + sum (drop (at + 1) j.sizes) ≡ length rest
  summed = sym (sum_cons size (drop (at + 1) j.sizes)) ∙ ap sum (sym one_more) ∙ so.fits

  pub enough : size ≤ length rest
  enough = omega (arith, summed)

  fits_on : sum (drop (at + 1) j.sizes) ≡ length (drop size rest)
  fits_on = rw (length-drop size rest) (omega (arith, summed))

  step : left marks j.sizes rest at
      ≡ cond (get_or marks at false) (take size rest ∷ left marks j.sizes (drop size rest) (at + 1))
      (left marks j.sizes (drop size rest) (at + 1))
  step =
      ap (λ (ns : List ℕ). staying (drop at marks) (literals_of_each ns rest)) one_more
      ∙ staying_at marks at (take size rest) (literals_of_each (drop (at + 1) j.sizes) (drop size rest))

  pub taken_more : get_or marks at false ≡ true
      → AreTaken marks j (sizes ++ size ∷ []) (literals ++ take size rest) (drop size rest) (at + 1)
  taken_more marked =
      let later : List (List ℕ) = left marks j.sizes (drop size rest) (at + 1) in
      let is : left marks j.sizes rest at ≡ take size rest ∷ later =
      step ∙ ap (λ (b : Bool). cond b (take size rest ∷ later) later) marked in
      record {
        sizes_so = append_assoc sizes (size ∷ []) (map length later)
            ∙ ap (λ (n : ℕ). sizes ++ n ∷ map length later) (sym (length-take-le size rest enough))
            ∙ ap (λ (ps : List (List ℕ)). sizes ++ map length ps) (sym is) ∙ so.sizes_so;
        literals_so = append_assoc literals (take size rest) (concat later)
            ∙ ap (λ (ps : List (List ℕ)). literals ++ concat ps) (sym is) ∙ so.literals_so;
        fits = fits_on;
      }

  pub taken_no : get_or marks at false ≡ false → AreTaken marks j sizes literals (drop size rest) (at + 1)
  taken_no marked =
      let later : List (List ℕ) = left marks j.sizes (drop size rest) (at + 1) in
      let is : left marks j.sizes rest at ≡ later =
      step ∙ ap (λ (b : Bool). cond b (take size rest ∷ later) later) marked in
      record {
        sizes_so = ap (λ (ps : List (List ℕ)). sizes ++ map length ps) (sym is) ∙ so.sizes_so;
        literals_so = ap (λ (ps : List (List ℕ)). literals ++ concat ps) (sym is) ∙ so.literals_so;
        fits = fits_on;
      }

abbrev pub justice_of : List ℕ → List ℕ → Justice
justice_of sizes literals = record { sizes = sizes; literals = literals }

pub taken_all : (marks : List Bool) (j : Justice) (sizes literals rest : List ℕ) (at : ℕ)
    → AreTaken marks j sizes literals rest at → length j.sizes ≤ at
    → justice_of sizes literals ≡ chosen_justice marks j
taken_all marks j sizes literals rest at so behind =
    let none : left marks j.sizes rest at ≡ [] =
    ap (λ (ns : List ℕ). staying (drop at marks) (literals_of_each ns rest)) (drop_all at j.sizes behind)
    ∙ staying_nothing (drop at marks) in
    ap₂ justice_of
    (sym (append-nil sizes) ∙ ap (λ (ps : List (List ℕ)). sizes ++ map length ps) (sym none) ∙ so.sizes_so)
    (sym (append-nil literals) ∙ ap (λ (ps : List (List ℕ)). literals ++ concat ps) (sym none) ∙ so.literals_so)
