-- The texts of a run, in a witness file of either kind, and with the mark of a loop.
use Rattle.std.proofs.Common.{◌≡◌, ◌-◌, ◌==◌, ◌++◌, ◌∙◌, ◌∷◌, ℕ, zero, suc, List, [], Bool, true, false, ap, ap₂, codes}
use Rattle.std.proofs.Common.{append_assoc, arith, bytes_eq, ne_eqb, if◌then◌else◌, length, map, refl, sym}
use Rattle.std.specs.List.{AllByRecursion}
use Rattle.std.proofs.lemmas.Slice.Eq.{bytes_eq-Decides}
use Rattle.std.proofs.lemmas.List.{map-append}
use Rattle.aig_circuit.specs.declared.circuit.Circuit.{Circuit}
use Rattle.aig_circuit.specs.declared.value.Val.{Val}
use Rattle.aig_circuit.specs.declared.value.Val.TheVariants.{Zero, One}
use Rattle.aig_lines.specs.Lines.{Line, bytes_of, lines_of}
use Rattle.aig_meaning.specs.Trace.{IsFirstState}
use Rattle.aig_step.specs.Stimulus.{text_of}
use Rattle.aig_step.specs.TraceText.{character_of, values_text}
use Rattle.aig_claims.proofs.Marking.{marked_long}
use Rattle.aig_claims.specs.LoopMark.{marked, marked_from, with_loop_mark, with_mark}
use Rattle.aig_dump.specs.Parts.Showing.{IsRunText, marked_line, marked_lines}
use Rattle.aig_verdicts.proofs.Files.{justice_files_are_read}
use Rattle.aig_verdicts.specs.Comments.{uncommented}
use Rattle.aig_verdicts.specs.Judged.{SaysFor}
use Rattle.aig_verdicts.specs.declared.verdict.WitnessVerdict.{WitnessVerdict}
use Rattle.aig_verdicts.specs.declared.verdict.WitnessVerdict.TheVariants.{BadState, Justice}
use Rattle.aig_witness.proofs.Verdicts.{as_lines, read_again, steps_kept}
use Rattle.aig_witness.proofs.WitnessTexts.{no_stop, witness_files_are_read}
use Rattle.aig_witness.specs.Witness.{Claim}

-- lines of which three texts are known
record AreThree (ls : List Line) (text : List ℕ) (texts : List (List ℕ)) : Type 0 where
  one : Line
  two : Line
  three : Line
  behind : List Line
  parted : ls ≡ one ∷ two ∷ three ∷ behind
  third : text_of three ≡ text
  others : map text_of behind ≡ texts

three_lines : (ls : List Line) (one two text : List ℕ) (texts : List (List ℕ))
    → map text_of ls ≡ one ∷ two ∷ text ∷ texts → AreThree ls text texts
three_lines [] one two text texts is = cc
three_lines (k ∷ []) one two text texts is = cc
three_lines (k ∷ l ∷ []) one two text texts is = cc
three_lines (k ∷ l ∷ m ∷ ls) one two text texts is = record {
  one = k;
  two = l;
  three = m;
  behind = ls;
  parted = refl;
  third = cc;
  others = cc;
}

-- what is claimed by lines of these texts, where the third one and those behind it are known
claimed : (c : Circuit) (claim : Claim) (witness first st one two : List ℕ)
    → map text_of (lines_of witness)
    ≡ one ∷ two ∷ values_text claim.first ∷ (map values_text claim.steps ++ codes "." ∷ [])
    → IsFirstState c claim.first → AllByRecursion (λ (given : List Val). length given ≡ length c.inputs) claim.steps
    → ((one two three : Line) (ls : List Line) → lines_of witness ≡ one ∷ two ∷ three ∷ ls
    → (first ≡ text_of three) × (lines_of st ≡ ls))
    → IsRunText c claim first st
claimed c claim witness first st one two texts starts each parted =
    let lines = three_lines (lines_of witness) one two _ _ texts in
    let known = parted lines.one lines.two lines.three lines.behind lines.parted in
    record {
      starts = starts;
      each = each;
      is_first = known.0 ∙ lines.third;
      are_steps = ap (map text_of) known.1 ∙ lines.others;
    }

pub run_texts : (c : Circuit) (claim : Claim) (verdict : WitnessVerdict) (witness said first st : List ℕ)
    → said ≡ uncommented witness → SaysFor c verdict witness claim
    → ((one two three : Line) (ls : List Line) → lines_of said ≡ one ∷ two ∷ three ∷ ls
    → (first ≡ text_of three) × (lines_of st ≡ ls))
    → IsRunText c claim first st
run_texts c claim (BadState v) witness said first st is says parted =
    let file = (witness_files_are_read c said claim).0 (rw is says) in
    claimed c claim said first st _ _ file.texts file.starts file.each parted
run_texts c claim (Justice v) witness said first st is says parted =
    let file = (justice_files_are_read c said claim).0 (rw is says) in
    claimed c claim said first st _ _ file.texts file.starts file.each parted

-- ---- the mark

-- no step has the text of the end
not_end : (given : List Val) (same : Bool) → bytes_eq (values_text given) (codes ".") ≡ same → same ≡ false
not_end given true is = absurd (no_stop given ((bytes_eq-Decides (values_text given) (codes ".")).0 is))
not_end given false is = refl

marked_step : (mark : Val) (given : List Val)
    → marked_line (character_of mark) (values_text given) ≡ values_text (with_mark mark given) ++ 10 ∷ []
marked_step mark given =
    rw (not_end given (bytes_eq (values_text given) (codes ".")) refl)
    (sym (ap (λ (t : List ℕ). t ++ 10 ∷ []) (map-append character_of given (mark ∷ []))
    ∙ append_assoc (values_text given) (character_of mark ∷ []) (10 ∷ [])))

abbrev lines_text : List (List Val) → List (List ℕ)
lines_text steps = map values_text steps ++ codes "." ∷ []

marked_end : (start : ℕ) (l : Line) (ls : List Line) → map text_of (l ∷ ls) ≡ codes "." ∷ []
    → marked_lines start (l ∷ ls) ≡ bytes_of (as_lines (codes "." ∷ []))
marked_end start l [] are =
    let last : text_of l ≡ codes "." = cc in
    ap (λ (t : List ℕ). marked_line (if start == 0 then 49 else 48) t ++ []) last
marked_end start l (m ∷ ms) are = cc

pub marked_text : (start : ℕ) (steps : List (List Val)) (ls : List Line) → map text_of ls ≡ lines_text steps
    → marked_lines start ls ≡ bytes_of (as_lines (lines_text (marked_from start steps)))
marked_text start [] [] are = cc
marked_text start (given ∷ steps) [] are = cc
marked_text start [] (l ∷ ls) are = marked_end start l ls are
marked_text zero (given ∷ steps) (l ∷ ls) are =
    let here : text_of l ≡ values_text given = cc in
    let later : map text_of ls ≡ lines_text steps = cc in
    ap₂ (λ (xs ys : List ℕ). xs ++ ys) (ap (marked_line 49) here ∙ marked_step One given) (marked_text zero steps ls later)
marked_text (suc start) (given ∷ steps) (l ∷ ls) are =
    let here : text_of l ≡ values_text given = cc in
    let later : map text_of ls ≡ lines_text steps = cc in
    let none : (suc start == 0) ≡ false = ne_eqb (suc start) 0 (λ e. omega (arith, e)) in
    let less : suc start - 1 ≡ start = omega arith in
    rw (none, less)
    (ap₂ (λ (xs ys : List ℕ). xs ++ ys) (ap (marked_line 48) here ∙ marked_step Zero given) (marked_text start steps ls later))

pub marked_texts : (c : Circuit) (claim : Claim) (start : ℕ) (first st made : List ℕ) → IsRunText c claim first st
    → made ≡ marked_lines start (lines_of st) → IsRunText (with_loop_mark c) (marked start claim) first made
marked_texts c claim start first st made text is =
    let steps : List (List Val) = marked_from start claim.steps in
    record {
      starts = text.starts;
      each = marked_long c start claim.steps text.each;
      is_first = text.is_first;
      are_steps = ap (λ (bytes : List ℕ). map text_of (lines_of bytes))
          (is ∙ marked_text start claim.steps (lines_of st) text.are_steps)
          ∙ read_again (lines_text steps) (steps_kept steps);
    }
