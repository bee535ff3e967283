-- How many clauses there are, and their text part by part.
use Rattle.std.proofs.Common.{◌≡◌, ◌+◌, ◌*◌, ◌++◌, ◌∙◌, ℕ, List, [], ◌∷◌, ap, ap₂, append-nil, append_assoc, arith}
use Rattle.std.proofs.Common.{codes, length, length-append, refl, sym}
use Rattle.std.specs.List.{flat_map}
use Rattle.std.proofs.lemmas.List.Concat.{flat_map-append}
use Rattle.aig_circuit.specs.declared.circuit.Circuit.{Circuit}
use Rattle.aig_circuit.specs.declared.circuit.Gate.{Gate}
use Rattle.aig_cnf.specs.Clauses.{bad_clauses, gate_clauses, step_clauses}
use Rattle.aig_cnf.specs.ClauseText.{clause_text, clauses_header, cnf_text, gate_clauses_text, literals_text}

gates_length : (gs : List Gate) → length (flat_map gate_clauses gs) ≡ 3 * length gs
gates_length [] = omega arith
gates_length (g ∷ gs) = omega (arith, gates_length gs)

pub clauses_length : (c : Circuit) → length (bad_clauses c) ≡ 3 * length c.gates + 2
clauses_length c = omega (arith, length-append (step_clauses c) (c.bad ∷ []), gates_length c.gates)

gates_text_is : (gs : List Gate) → flat_map clause_text (flat_map gate_clauses gs) ≡ flat_map gate_clauses_text gs
gates_text_is [] = refl
gates_text_is (g ∷ gs) =
    flat_map-append clause_text (gate_clauses g) (flat_map gate_clauses gs)
    ∙ ap (λ (text : List ℕ). gate_clauses_text g ++ text) (gates_text_is gs)

pub cnf_parts : (c : Circuit) → clauses_header (c.max_var + 1) (length (bad_clauses c))
    ++ (clause_text (1 ∷ []) ++ (flat_map gate_clauses_text c.gates ++ (literals_text c.bad ++ codes "0\n")))
    ≡ cnf_text c
unfolding cnf_text
cnf_parts c =
    let first = clause_text (1 ∷ []) in
    let gates = flat_map gate_clauses_text c.gates in
    let bad = clause_text c.bad in
    ap (λ (text : List ℕ). clauses_header (c.max_var + 1) (length (bad_clauses c)) ++ text)
    (sym (flat_map-append clause_text (step_clauses c) (c.bad ∷ [])
    ∙ ap₂ (λ (xs ys : List ℕ). (first ++ xs) ++ ys) (gates_text_is c.gates) (append-nil bad)
    ∙ append_assoc first gates bad))
