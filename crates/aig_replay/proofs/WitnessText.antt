-- The witness file that is written of a claim says it.
use Rattle.std.proofs.Common.{◌≡◌, ◌++◌, ◌∙◌, List, [], ◌∷◌, ap, append_assoc, codes, flat_map, map, refl, subst, sym}
use Rattle.std.proofs.Common.{ℕ}
use Rattle.std.specs.Prelude.{decimal}
use Rattle.aig_circuit.specs.declared.value.Val.{Val}
use Rattle.aig_lines.specs.Lines.{bytes_of}
use Rattle.aig_step.specs.TraceText.{values_text}
use Rattle.aig_witness.specs.Witness.{Claim, SaysClaim}
use Rattle.aig_witness.proofs.Verdicts.{as_lines, file_by, file_says}
use Rattle.aig_replay.specs.Laws.{WitnessTextsSay}
use Rattle.aig_replay.specs.WitnessLines.{claim_text, step_line}

-- the bytes of the lines of the steps
steps_bytes : (steps : List (List Val)) → bytes_of (as_lines (map values_text steps ++ codes "." ∷ []))
    ≡ flat_map step_line steps ++ codes ".\n"
steps_bytes [] = refl
steps_bytes (v ∷ vs) =
    ap (λ (text : List ℕ). step_line v ++ text) (steps_bytes vs)
    ∙ sym (append_assoc (step_line v) (flat_map step_line vs) (codes ".\n"))

pub text_is : (letter : ℕ) (claim : Claim) → file_by letter claim ≡ claim_text (codes "1\n" ++ letter ∷ []) claim
text_is letter claim =
    let digits = decimal claim.property in
    let first = values_text claim.first in
    let steps = map values_text claim.steps ++ codes "." ∷ [] in
    let rest = bytes_of (as_lines steps) in
    let last = flat_map step_line claim.steps ++ codes ".\n" in
    ap (λ (text : List ℕ). (codes "1\n" ++ letter ∷ []) ++ text)
    (append_assoc digits (codes "\n") ((first ++ codes "\n") ++ rest)
    ∙ ap (λ (text : List ℕ). digits ++ (codes "\n" ++ text))
    (append_assoc first (codes "\n") rest
    ∙ ap (λ (text : List ℕ). first ++ (codes "\n" ++ text)) (steps_bytes claim.steps)))

pub witness_texts_say : WitnessTextsSay
witness_texts_say c claim rows formed below trace =
    subst (λ (text : List ℕ). SaysClaim c text claim) (text_is 98 claim) (file_says c claim rows formed below trace)
