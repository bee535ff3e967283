-- A claim has exactly one verdict and is written in a file, and of a wrong file the first wrong line is reported.
use Rattle.std.proofs.Common.{◌≡◌, ◌+◌, ◌++◌, ◌∙◌, ◌∷◌, ◌≢◌, ◌<◌, ◌^◌, ◌↔◌, ℕ, suc, List, [], Bool, true, false, Option}
use Rattle.std.proofs.Common.{None, Some, Result, Ok, ap, arith, codes, inl, inr, length, length-append, map, refl}
use Rattle.std.proofs.Common.{subst, sym, append_assoc, append-nil, get_or, rules, zero, ap₂, nat_lt, decimal, Decides}
use Rattle.std.proofs.Common.{lt-ltb, ne_eqb}
use Rattle.std.specs.List.{AllByRecursion, AllZip, list_all}
use Rattle.std.proofs.lemmas.List.{length-map}
use Rattle.std.proofs.lemmas.List.Elements.{Contains-push, All-from_recursion}
use Rattle.std.proofs.lemmas.Bool.{cases_lt}
use Rattle.std.proofs.lemmas.Fmt.{decimal_digit, first_decimal}
use Rattle.std.proofs.lemmas.List.Sums.{list_all-from_AllPass}
use Rattle.aig_circuit.specs.declared.circuit.Circuit.{Circuit}
use Rattle.aig_circuit.specs.declared.value.Val.TheVariants.{Zero, One, X}
use Rattle.aig_circuit.specs.declared.value.Val.{Val}
use Rattle.aig_circuit.specs.Wellformed.{IsWellFormed}
use Rattle.aig_meaning.specs.Meaning.{Row}
use Rattle.aig_meaning.specs.Trace.{Follow, IsTrace, MayStartAt}
use Rattle.aig_meaning.proofs.Traces.{one_trace, inputs_length}
use Rattle.aig_lines.specs.Lines.{Line, bytes_of, line, lines_of}
use Rattle.aig_lines.specs.Laws.{EndInLineFeeds, IsOneLine}
use Rattle.aig_lines.proofs.Pieces.{lines_again}
use Rattle.aig_rows.specs.CanonicalNumber.{is_padded}
use Rattle.aig_rows.specs.Spelling.{is_digit}
use Rattle.aig_rows.proofs.Canonical.{decimal_is_number}
use Rattle.aig_rows.proofs.Grammar.NumberLines.{and_no}
use Rattle.aig_step.specs.Stimulus.{judged_lines, text_of, without_return}
use Rattle.aig_step.specs.TraceText.{values_text, character_of}
use Rattle.aig_witness.specs.Laws.{FirstWrongLinesAreFound, OneVerdict, ClaimsHaveFiles}
use Rattle.aig_witness.specs.Witness.{Nothing, Property, Said, Shape, Steps, Version, Whole, is_whole, said_behind}
use Rattle.aig_witness.specs.Witness.{said_with, shape_of, wrong_line, IsVerdictOf, is_canonical, Claim, Says}
use Rattle.aig_witness.specs.Witness.{SaysClaim}
use Rattle.aig_witness.specs.WrongLine.{HaveEnd, IsFirstWrong}
use Rattle.aig_witness.specs.declared.search.StepSearch.{StepSearch}
use Rattle.aig_witness.specs.declared.verdict.Verdict.{Verdict}
use Rattle.aig_witness.specs.declared.verdict.Verdict.TheVariants.{Confirmed, NotConfirmed}
use Rattle.aig_witness.specs.Parts.Witnessing.{TellsRows, are_ones, is_one, looked, verdict_of}
use Rattle.aig_witness.specs.WitnessText.{property_texts}
use Rattle.aig_witness.proofs.WitnessTexts.{IsAfter, IsNext, by_texts, next_line, no_end, said_texts, whole_is}
use Rattle.aig_witness.proofs.WitnessTexts.{texts_say, witness_files_are_read}
use Rattle.aig_witness.proofs.Confirmed.{tells_more, tells_nothing}
use Rattle.aig_witness.proofs.Witnessing.{not_one, one_of, ones_are, ones_not}

module _ (c : Circuit) where
  abbrev shape : Shape
  shape = shape_of c

  has_end : (said : Said) (before : List (List ℕ)) → IsAfter c said before → Decides (is_whole said) (HaveEnd before)
  has_end Nothing before after = rw after (λ (no : false ≡ true). cc, λ has. absurd has)
  has_end Version before after = rw after (λ (no : false ≡ true). cc, λ has. absurd has)
  has_end (Property p) before (named, names, is) = rw is (λ (no : false ≡ true). cc, λ has. absurd has)
  has_end (Steps claim) before after =
      (λ (no : false ≡ true). cc, λ has. absurd (no_end claim.steps (subst HaveEnd after.are has)))
  has_end (Whole claim) before after = (
    λ _. subst HaveEnd (sym (whole_is c claim before after)) (Contains-push (map values_text claim.steps) (codes ".")),
    λ _. refl,
  )

  -- what is said by more lines of these texts tells which of them is the first wrong one
  abbrev IsTold : Bool → (lines number : ℕ) → (before texts : List (List ℕ)) → Result Said ℕ → Type 0
  IsTold ended lines number before texts said =
      (wrong_line lines ended said ≡ Some number) ↔ IsFirstWrong c ended before texts number

  told_missing : (ended : Bool) (lines number : ℕ) (before : List (List ℕ)) (said : Said) (whole : Bool)
      → is_whole said ≡ whole → lines ≡ length before → IsAfter c said before
      → IsTold ended lines number before [] (Ok said)
  told_missing true lines number before said true is long after = rw is (
    λ none. cc,
    λ wrong. absurd (wrong.2 ((has_end said before after).0 is)),
  )
  told_missing true lines number before said false is long after = rw is (
    λ some.
        let same : suc lines ≡ number = cc in
        (omega (arith, same, long), refl, λ has. let other = (has_end said before after).1 has in cc),
    λ wrong. ap (λ (n : ℕ). Some n) (omega (arith, wrong.0, long)),
  )
  told_missing false lines number before said whole is long after = (λ none. cc, λ wrong. let other = wrong.1 in cc)

  told_line : (ended : Bool) (lines number n : ℕ) (before ts : List (List ℕ)) (t : List ℕ) (o : Option Said)
      → n ≡ suc (length before) → IsNext c before t o
      → ((next : Said) → IsAfter c next (before ++ t ∷ [])
      → IsTold ended lines number (before ++ t ∷ []) ts (said_texts shape (suc n) next ts))
      → IsTold ended lines number before (t ∷ ts) (said_behind n o (λ next. said_texts shape (suc n) next ts))
  told_line ended lines number n before ts t None counted wrong others = (
    λ some. let same : n ≡ number = cc in inl (wrong, sym same ∙ counted),
    λ first. elim first [
      | inl here ↦ ap (λ (k : ℕ). Some k) (counted ∙ sym here.1)
      | inr later ↦ absurd (wrong later.0)
    ],
  )
  told_line ended lines number n before ts t (Some next) counted right others =
      let behind = others next right.1 in (
        λ some. inr (right.0, behind.0 some),
        λ first. elim first [ inl here ↦ absurd (here.0 right.0) | inr later ↦ behind.1 later.1 ],
      )

  told_lines : (ended : Bool) (lines number n : ℕ) (before ts : List (List ℕ)) (said : Said) → n ≡ suc (length before)
      → lines ≡ length before + length ts → IsAfter c said before
      → IsTold ended lines number before ts (said_texts shape n said ts)
  unfolding said_texts
  told_lines ended lines number n before [] said counted long after =
      told_missing ended lines number before said (is_whole said) refl (omega (arith, long)) after
  told_lines ended lines number n before (t ∷ ts) said counted long after =
      let more = length-append before (t ∷ []) in
      told_line ended lines number n before ts t (said_with shape said t) counted (next_line c said before t after)
      (λ next after_next. told_lines ended lines number (suc n) (before ++ t ∷ []) ts next
      (omega (arith, counted, more)) (omega (arith, long, more)) after_next)

pub first_wrong_lines_are_found : FirstWrongLinesAreFound
first_wrong_lines_are_found c bytes ended number =
    let lines = judged_lines bytes ended in
    let texts = map text_of lines in
    let same = ap (wrong_line (length lines) ended) (by_texts (shape_of c) 1 Nothing lines) in
    let told = told_lines c ended (length lines) number 1 [] texts Nothing refl
    (omega (arith, length-map lines text_of)) refl in
    (λ is. told.0 (sym same ∙ is), λ wrong. same ∙ told.1 wrong)

-- A claim on a well-formed circuit has exactly one verdict.

-- what was found in the rows before is followed through the others
some_verdict : (p : ℕ) (before rows : List Row) (s : StepSearch) → TellsRows p before s
    → (v : Verdict) × IsVerdictOf p (before ++ rows) v
some_verdict p before [] s tells = (
  verdict_of s.found,
  subst (λ (rs : List Row). IsVerdictOf p rs (verdict_of s.found)) (sym (append-nil before))
      tells.found,
)
some_verdict p before (row ∷ rows) s tells =
    let bad = get_or row.bad p Zero in
    let more = tells_more p before row s (is_one bad) (are_ones row.constraints) tells (one_of bad) (not_one bad)
    (ones_are row.constraints) (ones_not row.constraints) in
    let later = some_verdict p (before ++ row ∷ []) rows (looked s (is_one bad) (are_ones row.constraints)) more in
    (later.0, subst (λ (rs : List Row). IsVerdictOf p rs later.0) (append_assoc before (row ∷ []) rows) later.1)

abbrev unbegun : StepSearch
unbegun = record { literal = 0; steps = 0; holds = true; found = None }

same_verdict : (p : ℕ) (rows : List Row) (v w : Verdict) → IsVerdictOf p rows v → IsVerdictOf p rows w → v ≡ w
same_verdict p rows (Confirmed m) (Confirmed n) is other =
    elim (cases_lt m n) [
      | inl low ↦ absurd (other.first m low is.confirmed)
      | inr high ↦ elim (cases_lt n m) [
        | inl low ↦ absurd (is.first n low other.confirmed)
        | inr high_too ↦ let same : m ≡ n = omega (arith, high, high_too) in ap Confirmed same
      ]
    ]
same_verdict p rows (Confirmed m) NotConfirmed is other = absurd (other m is.confirmed)
same_verdict p rows NotConfirmed (Confirmed n) is other = absurd (is n other.confirmed)
same_verdict p rows NotConfirmed NotConfirmed is other = refl

pub one_verdict : OneVerdict
one_verdict c bytes claim formed says =
    let file = (witness_files_are_read c bytes claim).0 says in
    let one = one_trace c claim.first claim.steps formed file.starts file.each in
    let found = some_verdict claim.property [] one.0 unbegun
    (tells_nothing claim.property unbegun (record { steps = refl; holds = refl; found = refl })) in (
      found.0,
      record { rows = one.0; trace = one.1; is_verdict = found.1 },
      λ other is.
          same_verdict claim.property one.0 other found.0
          (subst (λ (rs : List Row). IsVerdictOf claim.property rs other) (one.2 is.rows is.trace) is.is_verdict)
          found.1,
    )

-- Each claim that can be made of a circuit is written in a file.

-- a byte that neither ends a line nor is dropped at its end
abbrev Stays : ℕ → Type 0
Stays b = (b ≢ 10) × (b ≢ 13)

abbrev IsKept : List ℕ → Type 0
IsKept text = AllByRecursion Stays text

-- texts as lines
abbrev pub as_lines : List (List ℕ) → List Line
as_lines texts = map (λ (text : List ℕ). line text true) texts

return_kept : (text : List ℕ) → IsKept text → without_return text ≡ text
return_kept [] kept = refl
return_kept (b ∷ bs) kept = rw (ne_eqb b 13 kept.0.1) (ap (λ (t : List ℕ). b ∷ t) (return_kept bs kept.1))

same_texts : (texts : List (List ℕ)) → AllByRecursion IsKept texts → map text_of (as_lines texts) ≡ texts
same_texts [] kept = refl
same_texts (t ∷ ts) kept =
    ap₂ (λ (u : List ℕ) (us : List (List ℕ)). u ∷ us) (return_kept t kept.0) (same_texts ts kept.1)

one_line : (text : List ℕ) → IsKept text → AllByRecursion (λ b. b ≢ 10) text
one_line [] kept = tt
one_line (b ∷ bs) kept = (kept.0.0, one_line bs kept.1)

are_lines : (texts : List (List ℕ)) → AllByRecursion IsKept texts
    → AllByRecursion IsOneLine (as_lines texts) × EndInLineFeeds (as_lines texts)
are_lines [] kept = (tt, tt)
are_lines (t ∷ []) kept = ((one_line t kept.0, tt), λ (e : true ≡ false). cc)
are_lines (t ∷ u ∷ us) kept =
    let rest = are_lines (u ∷ us) kept.1 in ((one_line t kept.0, rest.0), (refl, rest.1))

-- the lines of a file have the texts that were written
pub read_again : (texts : List (List ℕ)) → AllByRecursion IsKept texts
    → map text_of (lines_of (bytes_of (as_lines texts))) ≡ texts
read_again texts kept =
    let are = are_lines texts kept in
    ap (λ (ls : List Line). map text_of ls) (lines_again (as_lines texts) are.0 are.1) ∙ same_texts texts kept

value_stays : (v : Val) → Stays (character_of v)
value_stays Zero = (λ e. omega (arith, e), λ e. omega (arith, e))
value_stays One = (λ e. omega (arith, e), λ e. omega (arith, e))
value_stays X = (λ e. omega (arith, e), λ e. omega (arith, e))

values_kept : (vs : List Val) → IsKept (values_text vs)
values_kept [] = tt
values_kept (v ∷ vs) = (value_stays v, values_kept vs)

pub steps_kept : (steps : List (List Val)) → AllByRecursion IsKept (map values_text steps ++ codes "." ∷ [])
steps_kept [] = (((λ e. omega (arith, e), λ e. omega (arith, e)), tt), tt)
steps_kept (given ∷ steps) = (values_kept given, steps_kept steps)

digit_stays : (b : ℕ) → is_digit b ≡ true → Stays b
digit_stays b is = (
  λ e. let no : is_digit 10 ≡ true = subst (λ (n : ℕ). is_digit n ≡ true) e is in cc,
  λ e. let no : is_digit 13 ≡ true = subst (λ (n : ℕ). is_digit n ≡ true) e is in cc,
)

digits_kept : (digits : List ℕ) → AllByRecursion (λ b. is_digit b ≡ true) digits → IsKept digits
digits_kept [] are = tt
digits_kept (b ∷ bs) are = (digit_stays b are.0, digits_kept bs are.1)

-- what `decimal` writes is canonical
not_padded : (digits : List ℕ) → 48 < get_or digits 0 0 → is_padded digits ≡ false
not_padded [] high = refl
not_padded (a ∷ []) high = refl
not_padded (a ∷ b ∷ bs) high = rw (ne_eqb a 48 (λ e. omega (arith, e, high))) (and_no (is_digit b))

decimal_not_padded : (n : ℕ) → n < 2 ^ 64 → is_padded (decimal n) ≡ false
decimal_not_padded zero small = ap is_padded (decimal_digit 0 (omega arith))
decimal_not_padded (suc n) small = not_padded (decimal (suc n)) (first_decimal (suc n) (omega arith) small)

decimal_is_canonical : (n : ℕ) → n < 2 ^ 64 → is_canonical (decimal n) ≡ true
decimal_is_canonical n small =
    let number = decimal_is_number n small in
    let all : list_all is_digit (decimal n) ≡ true =
    list_all-from_AllPass is_digit (decimal n)
    (All-from_recursion (λ b. is_digit b ≡ true) (decimal n) number.digits) in
    search (rules, nat_lt, lt-ltb, decimal_not_padded)

-- the steps of a trace have a value for each input
pub each_long : (c : Circuit) (state : List Val) (vectors : List (List Val)) (rows : List Row)
    → Follow c state vectors rows
    → AllByRecursion (λ (given : List Val). length given ≡ length c.inputs) vectors
each_long c state [] rows follow = tt
each_long c state (v ∷ vs) [] follow = absurd follow
each_long c state (v ∷ vs) (r ∷ rs) follow =
    (ap length (sym follow.1) ∙ inputs_length c r follow.2, each_long c r.next vs rs follow.3)

-- the file of a claim whose property is named by this letter
abbrev pub file_by : ℕ → Claim → List ℕ
file_by letter claim = bytes_of (as_lines (property_texts letter (decimal claim.property) claim))

-- what can be claimed by a file of this shape
pub record IsClaimable (shape : Shape) (claim : Claim) : Type 0 where
  pub letter : Stays shape.letter
  pub few : shape.properties < 2 ^ 64
  pub below : claim.property < shape.properties
  pub starts : AllZip MayStartAt shape.resets claim.first
  pub each : AllByRecursion (λ (given : List Val). length given ≡ shape.inputs) claim.steps

pub file_by_says : (shape : Shape) (claim : Claim) → IsClaimable shape claim
    → Says shape (file_by shape.letter claim) claim
file_by_says shape claim is =
    let small : claim.property < 2 ^ 64 = omega (arith, is.below, is.few) in
    let number = decimal_is_number claim.property small in
    let texts = property_texts shape.letter (decimal claim.property) claim in
    let kept : AllByRecursion IsKept texts = (
      ((λ e. omega (arith, e), λ e. omega (arith, e)), tt),
      (
        (is.letter, digits_kept (decimal claim.property) number.digits),
        (values_kept claim.first, steps_kept claim.steps),
      ),
    ) in
    texts_say shape (file_by shape.letter claim) claim (record {
      digits = decimal claim.property;
      canonical = decimal_is_canonical claim.property small;
      number = number.value;
      below = is.below;
      starts = is.starts;
      each = is.each;
      texts = read_again texts kept;
    })

-- the file of a claim of a bad state
abbrev pub file_of : Claim → List ℕ
file_of claim = file_by 98 claim

pub file_says : (c : Circuit) (claim : Claim) (rows : List Row) → IsWellFormed c → claim.property < length c.bad
    → IsTrace c claim.first claim.steps rows → SaysClaim c (file_of claim) claim
file_says c claim rows formed below trace = file_by_says (shape_of c) claim (record {
  letter = (λ e. omega (arith, e), λ e. omega (arith, e));
  few = omega (arith, formed.limits.literals.1.0);
  below = below;
  starts = trace.0;
  each = each_long c claim.first claim.steps rows trace.1;
})

pub claims_have_files : ClaimsHaveFiles
claims_have_files c claim rows formed below trace = (file_of claim, file_says c claim rows formed below trace)
