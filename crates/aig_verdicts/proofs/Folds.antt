-- Telling the lines of a witness file is saying what they say, by its kind.
use Rattle.std.proofs.Common.{◌≡◌, ◌+◌, ◌<◌, ◌≤◌, ◌∷◌, ◌∙◌, if◌then◌else◌, rules, ℕ, suc, List, [], Bool, true, false}
use Rattle.std.proofs.Common.{Option, None, Some, ap, arith, bytes_eq, codes, length}
use Rattle.std.proofs.Common.{option_map, refl, subst, sym}
use Rattle.std.proofs.lemmas.Bool.{cases_lt, le-leb, lt-leb}
use Rattle.aig_circuit.specs.declared.circuit.Circuit.{Circuit}
use Rattle.aig_circuit.specs.declared.circuit.TheConstants.{LARGEST}
use Rattle.aig_circuit.specs.declared.value.Val.{Val}
use Rattle.aig_lines.specs.Feeding.{Folded, Turn, checked_line, fold_lines, folded_to}
use Rattle.aig_lines.specs.Lines.{Line}
use Rattle.aig_step.specs.Stimulus.{Entry, Step, Stop, entry_in, text_of}
use Rattle.aig_verdicts.specs.Comments.{begins_with}
use Rattle.aig_verdicts.specs.Kinds.{are_of_justice, shape_if}
use Rattle.aig_verdicts.specs.Parts.Reading.{ReadingState, kind_with, reading_state, reading_step, reading_turn}
use Rattle.aig_verdicts.specs.Parts.Reading.{said_in}
use Rattle.aig_witness.proofs.WitnessState.{IsSaid, long_due}
use Rattle.aig_witness.specs.Parts.Witnessing.{longest_line}
use Rattle.aig_witness.specs.Witness.{Claim, Nothing, Property, Said, Steps, Version, Whole, begun_at, first_state_in}
use Rattle.aig_witness.specs.Witness.{property_by, said_behind, said_by, said_with, shape_of, with_entry}

-- the kind of a file by its second line, where there is one
pub kind_second : Bool → List Line → Bool
kind_second justice [] = justice
kind_second justice (l ∷ ls) = begins_with 106 (text_of l)

-- the kind of a file by what was said and the lines behind that
pub kind_by : Bool → Said → List Line → Bool
kind_by justice Nothing [] = justice
kind_by justice Nothing (l ∷ ls) = kind_second justice ls
kind_by justice Version ls = kind_second justice ls
kind_by justice (Property p) ls = justice
kind_by justice (Steps claim) ls = justice
kind_by justice (Whole claim) ls = justice

same_kind : (ls : List Line) → kind_by false Nothing ls ≡ are_of_justice ls
unfolding kind_by kind_second
same_kind [] = refl
same_kind (one ∷ []) = refl
same_kind (one ∷ two ∷ more) = refl

kind_none : (justice : Bool) (said : Said) → kind_by justice said [] ≡ justice
unfolding kind_by kind_second
kind_none justice Nothing = refl
kind_none justice Version = refl
kind_none justice (Property p) = refl
kind_none justice (Steps claim) = refl
kind_none justice (Whole claim) = refl

-- what is said next, of a file of this kind
abbrev Leads : Bool → Bool → List Line → Option Said → Type 0
Leads now kind ls None = Unit {0}
Leads now kind ls (Some next) = kind_by now next ls ≡ kind

module _ (c : Circuit) (justices : ℕ) where
  second_leads : (kind : Bool) (ls : List Line) (o : Option ℕ) (now : Bool) → now ≡ kind
      → Leads now kind ls (option_map Property o)
  unfolding kind_by
  second_leads kind ls None now is = tt
  second_leads kind ls (Some p) now is = is

  third_leads : (p : ℕ) (kind : Bool) (ls : List Line) (o : Option (List Val)) (now : Bool) → now ≡ kind
      → Leads now kind ls (option_map (begun_at p) o)
  unfolding kind_by
  third_leads p kind ls None now is = tt
  third_leads p kind ls (Some first) now is = is

  entry_leads : (claim : Claim) (kind : Bool) (ls : List Line) (o : Option Entry) (now : Bool) → now ≡ kind
      → Leads now kind ls (option_map (with_entry claim) o)
  unfolding kind_by
  entry_leads claim kind ls None now is = tt
  entry_leads claim kind ls (Some (Step given)) now is = is
  entry_leads claim kind ls (Some Stop) now is = is

  first_leads : (good now kind : Bool) (ls : List Line) → kind_second now ls ≡ kind
      → Leads now kind ls (if good then Some Version else None)
  unfolding kind_by
  first_leads true now kind ls is = is
  first_leads false now kind ls is = tt

  leads : (justice kind : Bool) (said : Said) (l : Line) (ls : List Line) → kind_by justice said (l ∷ ls) ≡ kind
      → Leads (kind_with justice said (text_of l)) kind ls (said_in c justices justice said (text_of l))
  unfolding kind_by kind_second
  leads justice kind Nothing l ls is = first_leads (bytes_eq (text_of l) (codes "1")) justice kind ls is
  leads justice kind Version l ls is =
      let shape = shape_if justices c (begins_with 106 (text_of l)) in
      second_leads kind ls (property_by shape.letter shape.properties (text_of l)) (begins_with 106 (text_of l)) is
  leads justice kind (Property p) l ls is =
      third_leads p kind ls (first_state_in (shape_if justices c justice).resets (text_of l)) justice is
  leads justice kind (Steps claim) l ls is =
      entry_leads claim kind ls (entry_in (shape_if justices c justice).inputs (text_of l)) justice is
  leads justice kind (Whole claim) l ls is = tt

  -- it is said by the shape of the kind
  by_kind : (justice kind : Bool) (said : Said) (l : Line) (ls : List Line) → kind_by justice said (l ∷ ls) ≡ kind
      → said_in c justices justice said (text_of l) ≡ said_with (shape_if justices c kind) said (text_of l)
  unfolding kind_by kind_second
  by_kind justice kind Nothing l ls is = refl
  by_kind justice kind Version l ls is = ap (λ (k : Bool). said_with (shape_if justices c k) Version (text_of l)) is
  by_kind justice kind (Property p) l ls is =
      ap (λ (k : Bool). said_with (shape_if justices c k) (Property p) (text_of l)) is
  by_kind justice kind (Steps claim) l ls is =
      ap (λ (k : Bool). said_with (shape_if justices c k) (Steps claim) (text_of l)) is
  by_kind justice kind (Whole claim) l ls is = refl

  module _ (few : length c.bad ≤ LARGEST) (few_justices : justices ≤ LARGEST) (limit : ℕ)
      (reaches : longest_line (shape_of c) ≤ limit) where
    long_if : (kind : Bool) (said : Said) (text : List ℕ) → limit < length text
        → said_with (shape_if justices c kind) said text ≡ None
    long_if true said text long = long_due (shape_if justices c true) said text few_justices (omega arith)
    long_if false said text long = long_due (shape_if justices c false) said text few (omega arith)

    -- a line that is too long is not due
    checked_is : (justice : Bool) (said : Said) (text : List ℕ)
        → checked_line reading_step limit (reading_state c justices justice said) text
        ≡ reading_step (reading_state c justices justice said) text
    checked_is justice said text = search (rules, cases_lt, lt-leb, long_if, le-leb)

    -- what was folded and what is said, of a file of this kind
    abbrev AreOne : (justice kind : Bool) → Said → (number next : ℕ) → List Line → Type 0
    AreOne justice kind said number next ls =
        IsSaid (reading_state c justices kind) next (said_by (shape_if justices c kind) number said ls)
        (fold_lines reading_step limit (reading_state c justices justice said) number ls)

    said_rest : (o : Option Said) (justice now kind : Bool) (said : Said) (number next : ℕ) (ls : List Line)
        → Leads now kind ls o → ((s : Said) → kind_by now s ls ≡ kind → AreOne now kind s (suc number) next ls)
        → (let t = reading_turn (reading_state c justices justice said) now o in
        IsSaid (reading_state c justices kind) next
        (said_behind number o (λ s. said_by (shape_if justices c kind) (suc number) s ls))
        (if t.goes_on then fold_lines reading_step limit t.state (suc number) ls else folded_to t.state number true))
    said_rest None justice now kind said number next ls leads again = (refl, refl)
    said_rest (Some s) justice now kind said number next ls leads again = again s leads

    pub folded_said : (ls : List Line) (justice kind : Bool) (said : Said) (number : ℕ) → kind_by justice said ls ≡ kind
        → AreOne justice kind said number (number + length ls) ls
    folded_said [] justice kind said number is =
        let same : number ≡ number + 0 = omega arith in
        let kinds : justice ≡ kind = sym (kind_none justice said) ∙ is in
        ap (λ (k : Bool). folded_to (reading_state c justices k said) number false) kinds
        ∙ ap (λ (n : ℕ). folded_to (reading_state c justices kind said) n false) same
    folded_said (l ∷ ls) justice kind said number is =
        let text = text_of l in
        let now = kind_with justice said text in
        let on : Turn ReadingState → Folded ReadingState = λ t.
        if t.goes_on then fold_lines reading_step limit t.state (suc number) ls else folded_to t.state number true in
        let next = number + length (l ∷ ls) in
        let same : suc number + length ls ≡ next = omega arith in
        let rest = said_rest (said_in c justices justice said text) justice now kind said number next ls
        (leads justice kind said l ls is)
        (λ s so. subst (λ (n : ℕ). AreOne now kind s (suc number) n ls) same
        (folded_said ls now kind s (suc number) so)) in
        subst (IsSaid (reading_state c justices kind) next (said_by (shape_if justices c kind) number said (l ∷ ls)))
        (ap on (sym (checked_is justice said text)))
        (subst (λ (o : Option Said). IsSaid (reading_state c justices kind) next
        (said_behind number o (λ s. said_by (shape_if justices c kind) (suc number) s ls))
        (on (reading_step (reading_state c justices justice said) text)))
        (by_kind justice kind said l ls is) rest)

    -- what was folded of all lines
    pub folded_all : (ls : List Line) → AreOne false (are_of_justice ls) Nothing 1 (1 + length ls) ls
    folded_all ls = folded_said ls false (are_of_justice ls) Nothing 1 (same_kind ls)
