-- What is read of a witness file, line by line, is what the file as a whole says.
use Rattle.std.proofs.Common.{◌≡◌, ◌≢◌, ◌&&◌, ◌||◌, ◌<◌, ◌++◌, ◌∷◌, ◌∙◌, if◌then◌else◌, rules, ℕ, suc, List, [], Bool}
use Rattle.std.proofs.Common.{true, false, length, Option, Some, None, Result, Ok, refl, sym, ap, ap₂, subst}
use Rattle.std.proofs.Common.{append_assoc, append-nil, bytes_eq, codes, filter, inl, inr, map, nat_lt, option_map}
use Rattle.std.proofs.Common.{Decides, Contains, eq-eqb, lt-ltb}
use Rattle.std.specs.List.{AllByRecursion, AllZip}
use Rattle.std.proofs.lemmas.List.{map-append}
use Rattle.std.proofs.lemmas.List.Elements.{All-contains, All-from_recursion, Contains-push}
use Rattle.std.proofs.lemmas.Slice.Eq.{bytes_eq-Decides}
use Rattle.aig_circuit.specs.declared.circuit.Circuit.{Circuit}
use Rattle.aig_circuit.specs.declared.circuit.Reset.{Reset}
use Rattle.aig_circuit.specs.declared.circuit.Reset.TheVariants as resets
use Rattle.aig_circuit.specs.declared.value.Val.{Val}
use Rattle.aig_meaning.specs.Trace.{IsFirstState, MayStartAt}
use Rattle.aig_lines.specs.Lines.{Line, lines_of}
use Rattle.aig_rows.specs.Spelling.{value_of as number_of}
use Rattle.aig_witness.specs.Laws.{WitnessFilesAreRead}
use Rattle.aig_step.specs.Stimulus.{Entry, Step, Stop, entry_in, judged_lines, text_of, values_of}
use Rattle.aig_step.specs.StimulusText.{AreSteps}
use Rattle.aig_step.specs.TraceText.{values_text}
use Rattle.aig_witness.specs.Witness.{Claim, Nothing, Property, Said, SaysClaim, Shape, Steps, Version, Whole, begun_at}
use Rattle.aig_witness.specs.Witness.{first_state_in, is_canonical, may_start_at, may_start_in, number_below}
use Rattle.aig_witness.specs.Witness.{Says, property_by, property_in, said_behind, said_by, said_with, shape_of}
use Rattle.aig_witness.specs.Witness.{with_entry}
use Rattle.aig_witness.specs.WitnessText.{IsWitnessFile, property_texts}
use Rattle.aig_witness.specs.WrongLine.{IsRightBehind, NamesBadState}
use Rattle.aig_step.proofs.LineValues.{says_values, values_back}
use Rattle.aig_step.proofs.StimulusTexts.{IsEntryText, entry_read, says_step}
use Rattle.aig_witness.proofs.Witnessing.{may_start, number_read}

-- what texts of lines say
unfoldable pub said_texts : Shape → ℕ → Said → List (List ℕ) → Result Said ℕ
said_texts shape n said [] = Ok said
said_texts shape n said (t ∷ ts) = said_behind n (said_with shape said t) (λ next. said_texts shape (suc n) next ts)

behind_same : (n : ℕ) (o : Option Said) (f g : Said → Result Said ℕ) → ((s : Said) → f s ≡ g s)
    → said_behind n o f ≡ said_behind n o g
behind_same n None f g same = refl
behind_same n (Some s) f g same = same s

pub by_texts : (shape : Shape) (n : ℕ) (said : Said) (ls : List Line)
    → said_by shape n said ls ≡ said_texts shape n said (map text_of ls)
unfolding said_texts
by_texts shape n said [] = refl
by_texts shape n said (l ∷ ls) =
    behind_same n (said_with shape said (text_of l)) (λ next. said_by shape (suc n) next ls)
    (λ next. said_texts shape (suc n) next (map text_of ls)) (λ s. by_texts shape (suc n) s ls)

or_true : (b : Bool) → (b || true) ≡ true
or_true true = refl
or_true false = refl

all_judged : (ls : List Line) → filter (λ (l : Line). l.ended || true) ls ≡ ls
all_judged [] = refl
all_judged (l ∷ ls) = search (rules, or_true, all_judged ls)

-- the texts of the lines that are judged at the end
pub said_all : (shape : Shape) (bytes : List ℕ)
    → said_by shape 1 Nothing (judged_lines bytes true) ≡ said_texts shape 1 Nothing (map text_of (lines_of bytes))
said_all shape bytes = search (rules, all_judged, by_texts)

-- the line of the first state
one_may : (r : Reset) (v : Val) → MayStartAt r v → may_start_at r v ≡ true
one_may resets.Zero v is = ap (may_start_at resets.Zero) is
one_may resets.One v is = ap (may_start_at resets.One) is
one_may resets.Uninit v is = refl

all_may : (rs : List Reset) (vs : List Val) → AllZip MayStartAt rs vs → may_start_in rs vs ≡ true
all_may [] [] all = refl
all_may [] (v ∷ vs) all = absurd all
all_may (r ∷ rs) [] all = absurd all
all_may (r ∷ rs) (v ∷ vs) all = ap₂ (λ (a b : Bool). a && b) (one_may r v all.0) (all_may rs vs all.1)

pub first_said : (rs : List Reset) (first : List Val) → AllZip MayStartAt rs first
    → first_state_in rs (values_text first) ≡ Some first
first_said rs first all = search (rules, says_values, all_may)

-- the line of the bad state
pub number_said : (bound : ℕ) (digits : List ℕ) (p : ℕ) → is_canonical digits ≡ true → number_of digits ≡ p → p < bound
    → number_below bound digits ≡ Some p
number_said bound digits p canonical number below = search (rules, nat_lt, lt-ltb)

-- no step has the text of the end
pub no_stop : (vs : List Val) → values_text vs ≢ codes "."
no_stop vs is = let says : values_of (codes ".") ≡ Some vs = ap values_of (sym is) ∙ says_values vs in cc

pub no_end : (steps : List (List Val)) → ¬ Contains (map values_text steps) (codes ".")
no_end steps has =
    All-contains (λ (t : List ℕ). t ≢ codes ".") (map values_text steps) (codes ".")
    (All-from_recursion (λ (t : List ℕ). t ≢ codes ".") (map values_text steps) (none steps)) has refl where
      none : (steps : List (List Val)) → AllByRecursion (λ (t : List ℕ). t ≢ codes ".") (map values_text steps)
      none [] = tt
      none (given ∷ steps) = (no_stop given, none steps)

long_too : (c : Circuit) (steps : List (List Val)) (given : List Val) → AreSteps c steps
    → length given ≡ length c.inputs → AreSteps c (steps ++ given ∷ [])
long_too c [] given are long = (long, tt)
long_too c (first ∷ steps) given are long = (are.0, long_too c steps given are.1 long)

-- lines of these texts claim this, and have not ended
pub record AreClaimed (c : Circuit) (claim : Claim) (texts : List (List ℕ)) : Type 0 where
  pub named : List ℕ
  pub names : NamesBadState (length c.bad) named claim.property
  pub starts : IsFirstState c claim.first
  pub each : AreSteps c claim.steps
  pub are : texts ≡ codes "1" ∷ named ∷ values_text claim.first ∷ map values_text claim.steps

module _ (c : Circuit) where
  abbrev shape : Shape
  shape = shape_of c

  -- what lines are of which this is said
  abbrev pub IsAfter : Said → List (List ℕ) → Type 0
  IsAfter Nothing before = before ≡ []
  IsAfter Version before = before ≡ codes "1" ∷ []
  IsAfter (Property p) before =
      (named : List ℕ) × NamesBadState (length c.bad) named p × (before ≡ codes "1" ∷ named ∷ [])
  IsAfter (Steps claim) before = AreClaimed c claim before
  IsAfter (Whole claim) before = (front : List (List ℕ)) × AreClaimed c claim front × (before ≡ front ++ codes "." ∷ [])

  pub whole_is : (claim : Claim) (before : List (List ℕ)) → (after : IsAfter (Whole claim) before)
      → before ≡ codes "1" ∷ after.1.named ∷ values_text claim.first ∷ (map values_text claim.steps ++ codes "." ∷ [])
  whole_is claim before after = after.2 ∙ ap (λ (ts : List (List ℕ)). ts ++ codes "." ∷ []) after.1.are

  -- what one more line of this text says, if it is right
  abbrev pub IsNext : (before : List (List ℕ)) → (text : List ℕ) → Option Said → Type 0
  IsNext before text None = ¬ IsRightBehind c before text
  IsNext before text (Some next) = IsRightBehind c before text × IsAfter next (before ++ text ∷ [])

  first : (text : List ℕ) (is : Bool) → Decides is (text ≡ codes "1")
      → IsNext [] text (if is then Some Version else None)
  first text true decides = (decides.0 refl, ap (λ (t : List ℕ). t ∷ []) (decides.0 refl))
  first text false decides = λ right. let other : false ≡ true = decides.1 right in cc

  second : (text : List ℕ) (o : Option ℕ) → property_in (length c.bad) text ≡ o
      → IsNext (codes "1" ∷ []) text (option_map Property o)
  second text None is = λ (p, names).
      let some : property_in (length c.bad) text ≡ Some p =
      ap (property_in (length c.bad)) names.text_is
      ∙ number_said (length c.bad) names.digits p names.canonical names.number names.below in cc
  second text (Some p) is =
      let names = number_read (length c.bad) text p is in ((p, names), (text, names, refl))

  third : (p : ℕ) (named text : List ℕ) (o : Option (List Val)) → NamesBadState (length c.bad) named p
      → first_state_in shape.resets text ≡ o → IsNext (codes "1" ∷ named ∷ []) text (option_map (begun_at p) o)
  third p named text None names is = λ right.
      let some : first_state_in shape.resets text ≡ Some right.0 =
      ap (first_state_in shape.resets) right.2 ∙ first_said shape.resets right.0 right.1 in cc
  third p named text (Some values) names is =
      let may = may_start shape.resets (values_of text) values is in
      let same = sym (values_back text values may.0) in (
        (values, may.1, same),
        record {
          named = named;
          names = names;
          starts = may.1;
          each = tt;
          are = ap (λ (t : List ℕ). codes "1" ∷ named ∷ t ∷ []) same;
        },
      )

  entry : (claim : Claim) (before : List (List ℕ)) (text : List ℕ) (o : Option Entry) → AreClaimed c claim before
      → IsEntryText c text o → IsNext before text (option_map (with_entry claim) o)
  entry claim before text None claimed read = λ right.
      read (subst (λ (ts : List (List ℕ)). IsRightBehind c ts text) claimed.are right).1
  entry claim before text (Some (Step given)) claimed read = (
    subst (λ (ts : List (List ℕ)). IsRightBehind c ts text) (sym claimed.are)
        (no_end claim.steps, inl (given, read.long, read.text_is)),
    record {
      named = claimed.named;
      names = claimed.names;
      starts = claimed.starts;
      each = long_too c claim.steps given claimed.each read.long;
      are = ap₂ (λ (ts : List (List ℕ)) (t : List ℕ). ts ++ t ∷ []) claimed.are read.text_is
          ∙ ap (λ (ts : List (List ℕ)). codes "1" ∷ claimed.named ∷ values_text claim.first ∷ ts)
          (sym (map-append values_text claim.steps (given ∷ [])));
    },
  )
  entry claim before text (Some Stop) claimed read = (
    subst (λ (ts : List (List ℕ)). IsRightBehind c ts text) (sym claimed.are) (no_end claim.steps, inr read),
    (before, claimed, ap (λ (t : List ℕ). before ++ t ∷ []) read),
  )

  pub next_line : (said : Said) (before : List (List ℕ)) (text : List ℕ) → IsAfter said before
      → IsNext before text (said_with shape said text)
  next_line Nothing before text after =
      rw after (first text (bytes_eq text (codes "1")) (bytes_eq-Decides text (codes "1")))
  next_line Version before text after = rw after (second text (property_in (length c.bad) text) refl)
  next_line (Property p) before text (named, names, is) =
      rw is (third p named text (first_state_in shape.resets text) names refl)
  next_line (Steps claim) before text after =
      entry claim before text (entry_in shape.inputs text) after (entry_read c text (entry_in shape.inputs text) refl)
  next_line (Whole claim) before text after = λ right.
      (subst (λ (ts : List (List ℕ)). IsRightBehind c ts text) (whole_is claim before after) right).0
      (Contains-push (map values_text claim.steps) (codes "."))

  -- what is said at last
  said_line : (n : ℕ) (claim : Claim) (before ts : List (List ℕ)) (t : List ℕ) (o : Option Said) → IsNext before t o
      → ((next : Said) → IsAfter next (before ++ t ∷ []) → said_texts shape (suc n) next ts ≡ Ok (Whole claim)
      → IsAfter (Whole claim) ((before ++ t ∷ []) ++ ts))
      → said_behind n o (λ next. said_texts shape (suc n) next ts) ≡ Ok (Whole claim)
      → IsAfter (Whole claim) (before ++ t ∷ ts)
  said_line n claim before ts t None wrong others said = cc
  said_line n claim before ts t (Some next) right others said =
      subst (IsAfter (Whole claim)) (append_assoc before (t ∷ []) ts) (others next right.1 said)

  said_lines : (n : ℕ) (claim : Claim) (before ts : List (List ℕ)) (said : Said) → IsAfter said before
      → said_texts shape n said ts ≡ Ok (Whole claim) → IsAfter (Whole claim) (before ++ ts)
  unfolding said_texts
  said_lines n claim before [] said after is =
      let same : said ≡ Whole claim = cc in
      subst (IsAfter (Whole claim)) (sym (append-nil before)) (subst (λ (s : Said). IsAfter s before) same after)
  said_lines n claim before (t ∷ ts) said after is =
      said_line n claim before ts t (said_with shape said t) (next_line said before t after)
      (λ next after_next. said_lines (suc n) claim (before ++ t ∷ []) ts next after_next) is

-- lines of steps are said
module _ (shape : Shape) where
  steps_said : (n : ℕ) (claim : Claim) (more : List (List Val))
      → AllByRecursion (λ (given : List Val). length given ≡ shape.inputs) more
      → said_texts shape n (Steps claim) (map values_text more ++ codes "." ∷ [])
      ≡ Ok (Whole (record claim { steps = claim.steps ++ more }))
  unfolding said_texts
  steps_said n claim [] each =
      ap (λ (ss : List (List Val)). Ok (Whole (record claim { steps = ss }))) (sym (append-nil claim.steps))
  steps_said n claim (given ∷ more) each =
      ap (λ (o : Option Entry). said_behind n (option_map (with_entry claim) o)
      (λ next. said_texts shape (suc n) next (map values_text more ++ codes "." ∷ [])))
      (says_step shape.inputs given each.0)
      ∙ steps_said (suc n) (record claim { steps = claim.steps ++ given ∷ [] }) more each.1
      ∙ ap (λ (ss : List (List Val)). Ok (Whole (record claim { steps = ss })))
      (append_assoc claim.steps (given ∷ []) more)

-- lines of these texts make the claim
pub record AreTexts (shape : Shape) (bytes : List ℕ) (claim : Claim) : Type 0 where
  pub digits : List ℕ
  pub canonical : is_canonical digits ≡ true
  pub number : number_of digits ≡ claim.property
  pub below : claim.property < shape.properties
  pub starts : AllZip MayStartAt shape.resets claim.first
  pub each : AllByRecursion (λ (given : List Val). length given ≡ shape.inputs) claim.steps
  pub texts : map text_of (lines_of bytes) ≡ property_texts shape.letter digits claim

named_too : (letter count : ℕ) (digits : List ℕ)
    → property_by letter count (letter ∷ digits) ≡ number_below count digits
named_too letter count digits =
    ap (λ (b : Bool). if b then number_below count digits else None) (eq-eqb letter letter refl)

pub texts_say : (shape : Shape) (bytes : List ℕ) (claim : Claim) → AreTexts shape bytes claim → Says shape bytes claim
unfolding said_texts
texts_say shape bytes claim are =
    let named = named_too shape.letter shape.properties are.digits
    ∙ number_said shape.properties are.digits claim.property are.canonical are.number are.below in
    said_all shape bytes ∙ ap (said_texts shape 1 Nothing) are.texts
    ∙ ap (λ (o : Option ℕ). said_behind 2 (option_map Property o) (λ next. said_texts shape 3 next
    (values_text claim.first ∷ (map values_text claim.steps ++ codes "." ∷ [])))) named
    ∙ ap (λ (o : Option (List Val)). said_behind 3 (option_map (begun_at claim.property) o)
    (λ next. said_texts shape 4 next (map values_text claim.steps ++ codes "." ∷ [])))
    (first_said shape.resets claim.first are.starts)
    ∙ steps_said shape 4 (record { property = claim.property; first = claim.first; steps = [] }) claim.steps are.each

-- the file as a whole
module _ (c : Circuit) (bytes : List ℕ) (claim : Claim) where
  is_file : SaysClaim c bytes claim → IsWitnessFile c bytes claim
  is_file says =
      let texts = map text_of (lines_of bytes) in
      let after = said_lines c 1 claim [] texts Nothing refl (sym (said_all (shape_of c) bytes) ∙ says) in
      let names = after.1.names in
      record {
        digits = names.digits;
        canonical = names.canonical;
        number = names.number;
        below = names.below;
        starts = after.1.starts;
        each = after.1.each;
        texts = whole_is c claim texts after
            ∙ ap (λ (t : List ℕ). codes "1" ∷ t ∷ values_text claim.first
            ∷ (map values_text claim.steps ++ codes "." ∷ [])) names.text_is;
      }

  says_file : IsWitnessFile c bytes claim → SaysClaim c bytes claim
  says_file file = texts_say (shape_of c) bytes claim (record {
    digits = file.digits;
    canonical = file.canonical;
    number = file.number;
    below = file.below;
    starts = file.starts;
    each = file.each;
    texts = file.texts;
  })

pub witness_files_are_read : WitnessFilesAreRead
witness_files_are_read c bytes claim = (is_file c bytes claim, says_file c bytes claim)
