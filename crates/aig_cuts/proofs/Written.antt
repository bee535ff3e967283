-- The text of a circuit's clauses as a plan has them, put part by part.
use Rattle.std.proofs.Common.{◌≡◌, ◌≤◌, ◌+◌, ◌++◌, ◌∙◌, ◌∷◌, ℕ, zero, suc, List, [], ap, ap₂}
use Rattle.std.proofs.Common.{append-nil, append_assoc, arith, codes, length, length-append, min, refl, sum_by, sym, take}
use Rattle.std.specs.List.{flat_map, zip}
use Rattle.std.proofs.lemmas.List.Concat.{flat_map-append}
use Rattle.std.proofs.lemmas.List.Sums.{sum_by-cons}
use Rattle.aig_circuit.specs.declared.circuit.Circuit.{Circuit}
use Rattle.aig_circuit.specs.declared.circuit.Gate.{Gate}
use Rattle.aig_cnf.specs.ClauseText.{clause_text, clauses_header, clauses_text, literals_text}
use Rattle.aig_cuts.specs.declared.cut.Cut.{Cut}
use Rattle.aig_cuts.specs.declared.cut.Cut.TheVariants.{Plain, Inner, Choice}
use Rattle.aig_cuts.specs.CutText.{cut_text}
use Rattle.aig_cuts.specs.Cuts.{Planned, clauses_as, cut_clauses, planned_clauses}
use Rattle.aig_cuts.specs.Parts.Counted.{clause_count, planned_text}

gate_count : (g : Gate) (cut : Cut) → length (clauses_as g cut) ≡ clause_count cut
gate_count g Plain = refl
gate_count g Inner = refl
gate_count g (Choice m) = refl

planned_count : (gates : List Gate) (plan : List Cut) → length plan ≤ length gates
    → length (planned_clauses (zip gates plan)) ≡ sum_by clause_count plan
planned_count [] [] few = refl
planned_count [] (cut ∷ cuts) few = absurd (omega (arith, few))
planned_count (g ∷ gs) [] few = refl
planned_count (g ∷ gs) (cut ∷ cuts) few =
    length-append (clauses_as g cut) (planned_clauses (zip gs cuts))
    ∙ ap₂ (λ (x y : ℕ). x + y) (gate_count g cut) (planned_count gs cuts (omega (arith, few)))
    ∙ sym (sum_by-cons clause_count cut cuts)

pub cut_count : (plan : List Cut) (c : Circuit) → length plan ≤ length c.gates
    → sum_by clause_count plan + 2 ≡ length (cut_clauses plan c)
cut_count plan c few =
    omega (arith, length-append (planned_clauses (zip c.gates plan)) (c.bad ∷ []), planned_count c.gates plan few)

-- what stands in the plan behind the last gate makes no clauses
used_pairs : (gates : List Gate) (plan : List Cut) (n : ℕ) → n ≡ min (length plan) (length gates)
    → zip gates (take n plan) ≡ zip gates plan
used_pairs [] plan n enough = refl
used_pairs (g ∷ gs) [] zero enough = refl
used_pairs (g ∷ gs) [] (suc n) enough = refl
used_pairs (g ∷ gs) (cut ∷ cuts) zero enough = absurd (omega (arith, enough))
used_pairs (g ∷ gs) (cut ∷ cuts) (suc n) enough =
    ap (λ (ps : List Planned). (g, cut) ∷ ps) (used_pairs gs cuts n (omega (arith, enough)))

pub used_text : (plan : List Cut) (c : Circuit) (n : ℕ) → n ≡ min (length plan) (length c.gates)
    → cut_text (take n plan) c ≡ cut_text plan c
unfolding cut_text
used_text plan c n enough =
    ap (λ (ps : List Planned). clauses_text (c.max_var + 1) (((1 ∷ []) ∷ planned_clauses ps) ++ c.bad ∷ []))
    (used_pairs c.gates plan n enough)

planned_text_is : (ps : List Planned) → flat_map clause_text (planned_clauses ps) ≡ flat_map planned_text ps
planned_text_is [] = refl
planned_text_is (p ∷ ps) =
    flat_map-append clause_text (clauses_as p.0 p.1) (planned_clauses ps)
    ∙ ap (λ (text : List ℕ). planned_text p ++ text) (planned_text_is ps)

pub cut_parts : (plan : List Cut) (c : Circuit) → clauses_header (c.max_var + 1) (length (cut_clauses plan c))
    ++ (clause_text (1 ∷ []) ++ (flat_map planned_text (zip c.gates plan) ++ (literals_text c.bad ++ codes "0\n")))
    ≡ cut_text plan c
unfolding cut_text
cut_parts plan c =
    let planned = zip c.gates plan in
    let first = clause_text (1 ∷ []) in
    let gates = flat_map planned_text planned in
    let bad = clause_text c.bad in
    ap (λ (text : List ℕ). clauses_header (c.max_var + 1) (length (cut_clauses plan c)) ++ text)
    (sym (flat_map-append clause_text ((1 ∷ []) ∷ planned_clauses planned) (c.bad ∷ [])
    ∙ ap₂ (λ (xs ys : List ℕ). (first ++ xs) ++ ys) (planned_text_is planned) (append-nil bad)
    ∙ append_assoc first gates bad))
