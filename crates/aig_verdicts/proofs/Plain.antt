-- A witness file without comments is read as it is, and what says something has none.
use Rattle.std.proofs.Common.{◌≡◌, ◌∙◌, ◌∷◌, ℕ, zero, suc, List, [], Bool, true, false, Option, None, Some, ap, cond}
use Rattle.std.proofs.Common.{◌||◌, ◌++◌, codes, filter, length, map, option_map, refl}
use Rattle.std.specs.List.{AllByRecursion}
use Rattle.aig_circuit.specs.declared.circuit.Circuit.{Circuit}
use Rattle.aig_circuit.specs.declared.value.Val.{Val}
use Rattle.aig_circuit.specs.declared.value.Val.TheVariants.{One, X, Zero}
use Rattle.aig_lines.proofs.Cutting.{pieces}
use Rattle.aig_lines.specs.Lines.{Line, bytes_of, lines_of}
use Rattle.aig_step.specs.Stimulus.{judged_lines, text_of}
use Rattle.aig_step.specs.TraceText.{values_text}
use Rattle.aig_verdicts.proofs.Files.{justice_files_are_read}
use Rattle.aig_verdicts.proofs.Passed.{said_again}
use Rattle.aig_verdicts.specs.Comments.{HasNoComment, is_comment, line_number, lines_said, uncommented}
use Rattle.aig_verdicts.specs.Kinds.{SaysJustice, shape_by}
use Rattle.aig_verdicts.specs.Laws.{CommentsArePassedOver, PlainFilesAreReadAsTheyAre}
use Rattle.aig_witness.proofs.WitnessTexts.{witness_files_are_read}
use Rattle.aig_witness.specs.Witness.{Claim, SaysClaim, first_bad_line}

pub comments_are_passed_over : CommentsArePassedOver
comments_are_passed_over bytes = said_again bytes

all_said : (ls : List Line) → HasNoComment ls → lines_said ls ≡ ls
all_said [] none = refl
all_said (l ∷ ls) none = rw none.0 (ap (λ ks. l ∷ ks) (all_said ls none.1))

same_bytes : (bytes : List ℕ) → HasNoComment (lines_of bytes) → uncommented bytes ≡ bytes
unfolding uncommented
same_bytes bytes none = ap bytes_of (all_said (lines_of bytes) none) ∙ (pieces bytes).joined

same_number : (ls : List Line) → HasNoComment ls → (number : ℕ) → line_number ls number ≡ number
same_number [] none number = refl
same_number (l ∷ ls) none zero = refl
same_number (l ∷ ls) none (suc number) = rw none.0 (ap suc (same_number ls none.1 number))

one_judged : (judged : Bool) (l : Line) (ls : List Line) → is_comment (text_of l) ≡ false → HasNoComment ls
    → HasNoComment (cond judged (l ∷ ls) ls)
one_judged true l ls is none = (is, none)
one_judged false l ls is none = none

none_judged : (ls : List Line) (over : Bool) → HasNoComment ls
    → HasNoComment (filter (λ (l : Line). l.ended || over) ls)
none_judged [] over none = tt
none_judged (l ∷ ls) over none =
    one_judged (l.ended || over) l (filter (λ (k : Line). k.ended || over) ls) none.0 (none_judged ls over none.1)

same_option : (ls : List Line) → HasNoComment ls → (o : Option ℕ) → option_map (line_number ls) o ≡ o
same_option ls none None = refl
same_option ls none (Some number) = ap (λ (n : ℕ). Some n) (same_number ls none number)

pub plain_files_are_read_as_they_are : PlainFilesAreReadAsTheyAre
plain_files_are_read_as_they_are c bytes ended none =
    let same = same_bytes bytes none in
    let justices = length c.justice.sizes in (
      same,
      ap (λ (said : List ℕ). option_map (line_number (judged_lines bytes ended))
          (first_bad_line (shape_by justices c said ended) said ended)) same
          ∙ same_option (judged_lines bytes ended) (none_judged (lines_of bytes) ended none)
          (first_bad_line (shape_by justices c bytes ended) bytes ended),
    )

-- ---- what a file says has no comment among it

-- the texts of lines, none of which is a comment
abbrev NoneIsComment : List (List ℕ) → Type 0
NoneIsComment texts = AllByRecursion (λ (text : List ℕ). is_comment text ≡ false) texts

value_first : (v : Val) (vs : List Val) → is_comment (values_text (v ∷ vs)) ≡ false
value_first Zero vs = refl
value_first One vs = refl
value_first X vs = refl

of_values : (vs : List Val) → is_comment (values_text vs) ≡ false
of_values [] = refl
of_values (v ∷ vs) = value_first v vs

of_steps : (steps : List (List Val)) → NoneIsComment (map values_text steps ++ codes "." ∷ [])
of_steps [] = (refl, tt)
of_steps (given ∷ steps) = (of_values given, of_steps steps)

of_texts : (ls : List Line) (texts : List (List ℕ)) → map text_of ls ≡ texts → NoneIsComment texts → HasNoComment ls
of_texts [] texts is none = tt
of_texts (l ∷ ls) [] is none = cc
of_texts (l ∷ ls) (text ∷ texts) is none =
    let here : text_of l ≡ text = cc in
    let behind : map text_of ls ≡ texts = cc in
    (rw here none.0, of_texts ls texts behind none.1)

pub bad_state_kept : (c : Circuit) (bytes : List ℕ) (claim : Claim) → SaysClaim c bytes claim
    → SaysClaim c (uncommented bytes) claim
bad_state_kept c bytes claim says =
    let file = (witness_files_are_read c bytes claim).0 says in
    let none = of_texts (lines_of bytes) _ file.texts (refl, (refl, (of_values claim.first, of_steps claim.steps))) in
    rw (same_bytes bytes none) says

pub justice_kept : (c : Circuit) (bytes : List ℕ) (claim : Claim) → SaysJustice c bytes claim
    → SaysJustice c (uncommented bytes) claim
justice_kept c bytes claim says =
    let file = (justice_files_are_read c bytes claim).0 says in
    let none = of_texts (lines_of bytes) _ file.texts (refl, (refl, (of_values claim.first, of_steps claim.steps))) in
    rw (same_bytes bytes none) says
