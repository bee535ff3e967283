-- Lines of a witness file, comments among them, are told as those that are no comments.
use Rattle.std.proofs.Common.{◌≡◌, ◌+◌, ◌≤◌, ◌∙◌, ◌∷◌, ◌&&◌, ◌||◌, ℕ, zero, suc, List, [], Bool, true, false, ap}
use Rattle.std.proofs.Common.{arith, cond, filter, if◌then◌else◌, length, nat_le, not, refl, subst, sym}
use Rattle.std.proofs.lemmas.Bool.{le-leb, leb-true}
use Rattle.std.specs.List.{AllByRecursion}
use Rattle.aig_lines.proofs.Cutting.{pieces}
use Rattle.aig_lines.proofs.Pieces.{lines_again}
use Rattle.aig_lines.specs.Feeding.{Folded, Turn, checked_line, fold_lines, folded_to, turn}
use Rattle.aig_lines.specs.Laws.{EndInLineFeeds, IsOneLine}
use Rattle.aig_lines.specs.Lines.{Line, lines_of}
use Rattle.aig_step.specs.Stimulus.{judged_lines, text_of}
use Rattle.aig_verdicts.specs.Comments.{begins_with, is_comment, line_number, lines_said, uncommented}
use Rattle.aig_verdicts.specs.declared.comment.TheConstants.{LONGEST_COMMENT}

-- ---- the lines of the bytes without comments

one_kept : (said : Bool) (l : Line) (ls : List Line) → IsOneLine l → AllByRecursion IsOneLine ls
    → AllByRecursion IsOneLine (cond said (l ∷ ls) ls)
one_kept true l ls one all = (one, all)
one_kept false l ls one all = all

one_each : (ls : List Line) → AllByRecursion IsOneLine ls → AllByRecursion IsOneLine (lines_said ls)
one_each [] all = tt
one_each (l ∷ ls) all = one_kept (not (is_comment (text_of l))) l (lines_said ls) all.0 (one_each ls all.1)

last_kept : (said : Bool) (l : Line) → EndInLineFeeds (l ∷ []) → EndInLineFeeds (cond said (l ∷ []) [])
last_kept true l ended = ended
last_kept false l ended = tt

front_kept : (said : Bool) (l : Line) (ls : List Line) → l.ended ≡ true → EndInLineFeeds ls
    → EndInLineFeeds (cond said (l ∷ ls) ls)
front_kept true l [] is ended = λ other. cc
front_kept true l (m ∷ ls) is ended = (is, ended)
front_kept false l ls is ended = ended

ended_each : (ls : List Line) → EndInLineFeeds ls → EndInLineFeeds (lines_said ls)
ended_each [] ended = tt
ended_each (l ∷ []) ended = last_kept (not (is_comment (text_of l))) l ended
ended_each (l ∷ m ∷ ls) ended =
    front_kept (not (is_comment (text_of l))) l (lines_said (m ∷ ls)) ended.0 (ended_each (m ∷ ls) ended.1)

pub said_again : (bytes : List ℕ) → lines_of (uncommented bytes) ≡ lines_said (lines_of bytes)
unfolding uncommented
said_again bytes =
    let are = pieces bytes in
    lines_again (lines_said (lines_of bytes)) (one_each (lines_of bytes) are.one_each)
    (ended_each (lines_of bytes) are.ended)

at_element : {X : Type 0} (p q : X → Bool) (x : X) (xs : List X) (a b : Bool) → p x ≡ a → q x ≡ b
    → filter p (filter q xs) ≡ filter q (filter p xs)
    → filter p (filter q (x ∷ xs)) ≡ filter q (filter p (x ∷ xs))
at_element p q x xs true true is also again = simp (is, also) (ap (λ ys. x ∷ ys) again)
at_element p q x xs true false is also again = simp (is, also) again
at_element p q x xs false true is also again = simp (is, also) again
at_element p q x xs false false is also again = simp (is, also) again

swapped : {X : Type 0} (p q : X → Bool) (xs : List X) → filter p (filter q xs) ≡ filter q (filter p xs)
swapped p q [] = refl
swapped p q (x ∷ xs) = at_element p q x xs (p x) (q x) refl refl (swapped p q xs)

pub said_judged : (bytes : List ℕ) (over : Bool)
    → judged_lines (uncommented bytes) over ≡ lines_said (judged_lines bytes over)
said_judged bytes over =
    ap (filter (λ (l : Line). l.ended || over)) (said_again bytes)
    ∙ swapped (λ (l : Line). l.ended || over) (λ (l : Line). not (is_comment (text_of l))) (lines_of bytes)

-- ---- the number of a line

pub no_line : (ls : List Line) → line_number ls 0 ≡ 0
no_line [] = refl
no_line (l ∷ ls) = refl

short : (begins : Bool) (text : List ℕ) → (begins && nat_le (length text) LONGEST_COMMENT) ≡ true
    → length text ≤ LONGEST_COMMENT
short true text is = leb-true (length text) LONGEST_COMMENT is
short false text is = cc

-- counted from 1 on
counted_all : (plain all : ℕ) (ls : List Line) → 1 ≤ plain
    → ((more : ℕ) → plain ≡ 1 + more → suc all ≡ 1 + line_number ls (suc more)) → all ≡ line_number ls plain
counted_all zero all ls least is = absurd (omega arith)
counted_all (suc more) all ls least is = let here = is more (omega arith) in omega arith

comment_short : (text : List ℕ) → is_comment text ≡ true → length text ≤ LONGEST_COMMENT
comment_short text is = short (begins_with 99 text) text is

module _ {S : Type 0} (step : S → List ℕ → Turn S) (limit : ℕ) (long : LONGEST_COMMENT ≤ limit) where
  -- comments are passed over
  abbrev pub passing : S → List ℕ → Turn S
  passing s text = if is_comment text then turn s true else step s text

  comment_line : (s : S) (text : List ℕ) → is_comment text ≡ true → checked_line passing limit s text ≡ turn s true
  comment_line s text is =
      let short = comment_short text is in
      rw (le-leb (length text) limit (omega arith), is) refl

  other_line : (s : S) (text : List ℕ) → is_comment text ≡ false
      → checked_line passing limit s text ≡ checked_line step limit s text
  other_line s text is = ap (λ (b : Bool). if nat_le (length text) limit then (if b then turn s true else step s text)
      else turn s false) is

  -- a line has its own number at least
  at_least_rest : (ls : List Line) (number : ℕ) (s : S) (goes : Bool)
      → ((t : S) → suc number ≤ (fold_lines step limit t (suc number) ls).number)
      → number ≤ (if goes then fold_lines step limit s (suc number) ls else folded_to s number true).number
  at_least_rest ls number s true again = let more = again s in omega arith
  at_least_rest ls number s false again = omega arith

  at_least : (ls : List Line) (number : ℕ) (s : S) → number ≤ (fold_lines step limit s number ls).number
  at_least [] number s = omega arith
  at_least (l ∷ ls) number s =
      let t = checked_line step limit s (text_of l) in
      at_least_rest ls number t.state t.goes_on (λ u. at_least ls (suc number) u)

  -- what was folded without comments, from this number on, and with them
  pub record AreOne (ls : List Line) (first counted : ℕ) (plain all : Folded S) : Type 0 where
    pub state : all.state ≡ plain.state
    pub refused : all.refused ≡ plain.refused
    pub number : (more : ℕ) → plain.number ≡ first + more → suc all.number ≡ counted + line_number ls (suc more)

  -- of which the first line is a comment
  comment_first : (l : Line) (ls : List Line) (number counted : ℕ) (plain all rest : Folded S)
      → is_comment (text_of l) ≡ true → all ≡ rest → AreOne ls number (suc counted) plain rest
      → AreOne (l ∷ ls) number counted plain all
  comment_first l ls number counted plain all rest is same one = record {
    state = ap (λ (f : Folded S). f.state) same ∙ one.state;
    refused = ap (λ (f : Folded S). f.refused) same ∙ one.refused;
    number = λ more at.
        let there = one.number more at in
        let here : suc all.number ≡ suc counted + line_number ls (suc more) =
        ap (λ (f : Folded S). suc f.number) same ∙ there in
        rw is (omega arith);
  }

  -- or none
  number_first : (l : Line) (ls : List Line) (number counted more : ℕ) (plain all : ℕ) → is_comment (text_of l) ≡ false
      → suc number ≤ plain → ((less : ℕ) → plain ≡ suc number + less → suc all ≡ suc counted + line_number ls (suc less))
      → plain ≡ number + more → suc all ≡ counted + line_number (l ∷ ls) (suc more)
  number_first l ls number counted zero plain all is least again at = absurd (omega arith)
  number_first l ls number counted (suc less) plain all is least again at =
      let there = again less (omega arith) in rw is (omega arith)

  number_here : (l : Line) (ls : List Line) (number counted more : ℕ) → is_comment (text_of l) ≡ false
      → number ≡ number + more → suc counted ≡ counted + line_number (l ∷ ls) (suc more)
  number_here l ls number counted zero is at = let none = no_line ls in rw is (omega arith)
  number_here l ls number counted (suc more) is at = absurd (omega arith)

  said_rest : (l : Line) (ls : List Line) (number counted : ℕ) (s : S) (goes : Bool)
      → is_comment (text_of l) ≡ false
      → ((t : S) → AreOne ls (suc number) (suc counted) (fold_lines step limit t (suc number) (lines_said ls))
      (fold_lines passing limit t (suc counted) ls))
      → AreOne (l ∷ ls) number counted
      (if goes then fold_lines step limit s (suc number) (lines_said ls) else folded_to s number true)
      (if goes then fold_lines passing limit s (suc counted) ls else folded_to s counted true)
  said_rest l ls number counted s true is again =
      let one = again s in
      record {
        state = one.state;
        refused = one.refused;
        number = λ more at. number_first l ls number counted more _ _ is (at_least (lines_said ls) (suc number) s)
            one.number at;
      }
  said_rest l ls number counted s false is again =
      record { state = refl; refused = refl; number = λ more at. number_here l ls number counted more is at }

  first_line : (l : Line) (ls : List Line) (number counted : ℕ) (s : S) (comment : Bool)
      → is_comment (text_of l) ≡ comment
      → ((t : S) (n k : ℕ) → AreOne ls n k (fold_lines step limit t n (lines_said ls)) (fold_lines passing limit t k ls))
      → AreOne (l ∷ ls) number counted
      (fold_lines step limit s number (cond (not comment) (l ∷ lines_said ls) (lines_said ls)))
      (fold_lines passing limit s counted (l ∷ ls))
  first_line l ls number counted s true is again =
      let on : Turn S → Folded S = λ t.
      if t.goes_on then fold_lines passing limit t.state (suc counted) ls else folded_to t.state counted true in
      comment_first l ls number counted _ _ _ is (ap on (comment_line s (text_of l) is)) (again s number (suc counted))
  first_line l ls number counted s false is again =
      let on : Turn S → Folded S = λ t.
      if t.goes_on then fold_lines passing limit t.state (suc counted) ls else folded_to t.state counted true in
      let t = checked_line step limit s (text_of l) in
      subst (AreOne (l ∷ ls) number counted _) (sym (ap on (other_line s (text_of l) is)))
      (said_rest l ls number counted t.state t.goes_on is (λ u. again u (suc number) (suc counted)))

  passed : (ls : List Line) (s : S) (number counted : ℕ)
      → AreOne ls number counted (fold_lines step limit s number (lines_said ls)) (fold_lines passing limit s counted ls)
  passed [] s number counted = record { state = refl; refused = refl; number = λ more at. omega arith }
  passed (l ∷ ls) s number counted =
      first_line l ls number counted s (is_comment (text_of l)) refl (λ t n k. passed ls t n k)

  -- from the first line on
  pub passed_all : (ls : List Line) (s : S)
      → (let plain = fold_lines step limit s 1 (lines_said ls) in
      let all = fold_lines passing limit s 1 ls in
      (all.state ≡ plain.state) × (all.refused ≡ plain.refused) × (all.number ≡ line_number ls plain.number))
  passed_all ls s =
      let one = passed ls s 1 1 in
      let least = at_least (lines_said ls) 1 s in
      (one.state, one.refused, counted_all _ _ ls least one.number)
