-- How many words each section has, and where the sizes of the justice properties stand.
use Rattle.std.proofs.Common.{◌≡◌, ◌∷◌, ◌++◌, ◌∙◌, ◌+◌, ◌*◌, ℕ, List, [], length, map, refl, ap, arith, sym}
use Rattle.std.proofs.Common.{append_assoc, get_or}
use Rattle.std.specs.List.{concat}
use Rattle.std.proofs.Math.Seq.{take-append_seam, drop-append_seam}
use Rattle.std.proofs.lemmas.List.{length-append}
use Rattle.aig_circuit.specs.declared.circuit.Circuit.{Circuit}
use Rattle.aig_rows.specs.Rows.{gate_row, input_row, latch_row, literal_row, size_row}
use Rattle.aig_text.specs.Sections.{in_ascii}
use Rattle.aig_text.specs.declared.section.Section.{Section}
use Rattle.aig_text.specs.declared.section.Section.TheVariants.{Inputs, Latches, Outputs, Bad, Constraints}
use Rattle.aig_text.specs.declared.section.Section.TheVariants.{JusticeSizes, JusticeLiterals, Fairness, Gates}
use Rattle.aig_text.proofs.Grammar.Headers.{HasCounts}
use Rattle.aig_arrays.specs.Decoded.{header_of, sizes_in}
use Rattle.aig_arrays.specs.Words.{Counts, section_words, words_in}

module _ {X : Type 0} (row : X → List ℕ) where
  one_each : ((x : X) → length (row x) ≡ 1) → (xs : List X) → length (concat (map row xs)) ≡ length xs
  one_each h [] = refl
  one_each h (x ∷ xs) = omega (arith, h x, length-append (row x) (concat (map row xs)), one_each h xs)

  three_each : ((x : X) → length (row x) ≡ 3) → (xs : List X) → length (concat (map row xs)) ≡ 3 * length xs
  three_each h [] = refl
  three_each h (x ∷ xs) = omega (arith, h x, length-append (row x) (concat (map row xs)), three_each h xs)

-- how many words a section has, and some sections
abbrev length_of : Circuit → Section → ℕ
length_of c Inputs = length c.inputs
length_of c Latches = 3 * length c.latches
length_of c Outputs = length c.outputs
length_of c Bad = length c.bad
length_of c Constraints = length c.constraints
length_of c JusticeSizes = length c.justice.sizes
length_of c JusticeLiterals = length c.justice.literals
length_of c Fairness = length c.fairness
length_of c Gates = 3 * length c.gates

abbrev length_all : Circuit → List Section → ℕ
length_all c [] = 0
length_all c (s ∷ ss) = length_of c s + length_all c ss

section_long : (c : Circuit) (s : Section) → length (concat ((in_ascii s).rows c)) ≡ length_of c s
section_long c Inputs = one_each input_row (λ x. refl) c.inputs
section_long c Latches = three_each latch_row (λ x. refl) c.latches
section_long c Outputs = one_each literal_row (λ x. refl) c.outputs
section_long c Bad = one_each literal_row (λ x. refl) c.bad
section_long c Constraints = one_each literal_row (λ x. refl) c.constraints
section_long c JusticeSizes = one_each size_row (λ x. refl) c.justice.sizes
section_long c JusticeLiterals = one_each literal_row (λ x. refl) c.justice.literals
section_long c Fairness = one_each literal_row (λ x. refl) c.fairness
section_long c Gates = three_each gate_row (λ x. refl) c.gates

all_long : (c : Circuit) (ss : List Section) → length (words_in ss c) ≡ length_all c ss
all_long c [] = refl
all_long c (s ∷ ss) =
    omega (arith, section_long c s, length-append (concat ((in_ascii s).rows c)) (words_in ss c), all_long c ss)

-- the words of sections, and of others
words_joined : (c : Circuit) (ss ts : List Section) → words_in (ss ++ ts) c ≡ words_in ss c ++ words_in ts c
words_joined c [] ts = refl
words_joined c (s ∷ ss) ts =
    ap (λ (ws : List ℕ). concat ((in_ascii s).rows c) ++ ws) (words_joined c ss ts)
    ∙ sym (append_assoc (concat ((in_ascii s).rows c)) (words_in ss c) (words_in ts c))

sizes_again : (ns : List ℕ) → concat (map size_row ns) ≡ ns
sizes_again [] = refl
sizes_again (n ∷ ns) = ap (λ (ms : List ℕ). n ∷ ms) (sizes_again ns)

abbrev before : List Section
before = Inputs ∷ Latches ∷ Outputs ∷ Bad ∷ Constraints ∷ []

abbrev after : List Section
after = JusticeLiterals ∷ Fairness ∷ Gates ∷ []

pub sizes_found : (n : Counts) (c : Circuit) (rest : List ℕ) → HasCounts (header_of n) c
    → sizes_in n (section_words c ++ rest) ≡ c.justice.sizes
sizes_found n c rest counts =
    let sizes : List ℕ = concat (map size_row c.justice.sizes) in
    let more : List ℕ = words_in after c ++ rest in
    let split : section_words c ++ rest ≡ words_in before c ++ (sizes ++ more) =
    ap (λ (ws : List ℕ). ws ++ rest) (words_joined c before (JusticeSizes ∷ after))
    ∙ append_assoc (words_in before c) (sizes ++ words_in after c) rest
    ∙ ap (λ (ws : List ℕ). words_in before c ++ ws) (append_assoc sizes (words_in after c) rest) in
    let at : (k : ℕ) → _ = λ k. ap (λ (ns : List ℕ). get_or ns k 0) counts in
    let place : n.inputs + 3 * n.latches + n.outputs + n.bad + n.constraints ≡ length (words_in before c) =
    omega (arith, all_long c before, at 1, at 2, at 3, at 5, at 6) in
    let long : n.justice ≡ length sizes = omega (arith, section_long c JusticeSizes, at 7) in
    rw (split, place, drop-append_seam (words_in before c) (sizes ++ more), long, take-append_seam sizes more)
    (sizes_again c.justice.sizes)
