-- A bad line of what was read at first is a bad line of all of it, whatever comes after.
use Rattle.std.proofs.Common.{◌≡◌, ◌∙◌, ◌++◌, ◌∷◌, ◌==◌, ◌||◌, ℕ, suc, List, [], Bool, true, false, codes, filter, length}
use Rattle.std.proofs.Common.{bytes_eq, take, drop, Option, None, Some, Result, Ok, Err, refl, ap, sym, subst, take-append-drop}
use Rattle.std.proofs.Common.{◌<◌, ◌≤◌, ◌+◌, arith, option_map, zero}
use Rattle.std.proofs.lemmas.List.Elements.{filter-append}
use Rattle.std.specs.List.{AllByRecursion}
use Rattle.aig_circuit.specs.declared.circuit.Circuit.{Circuit}
use Rattle.aig_lines.specs.Lines.{Line, begun_by, line, lines_of}
use Rattle.aig_step.specs.Outcome.{first_bad_line}
use Rattle.aig_step.specs.Stimulus.{Entry, Stimulus, before_rest, entry_of, judged_lines, lines_say, text_of}
use Rattle.aig_verdicts.proofs.Passed.{no_line, said_judged}
use Rattle.aig_verdicts.specs.Comments.{is_comment, line_number, lines_said, uncommented}
use Rattle.aig_verdicts.specs.Kinds.{are_of_justice, first_bad_file_line, shape_if}
use Rattle.aig_witness.specs.Witness.{Nothing, Said, Shape, said_behind, said_by, said_with, shape_of, wrong_line}

-- the lines all have a line feed, or none has
abbrev All : Bool → List Line → Type 0
All feed ls = AllByRecursion (λ (l : Line). l.ended ≡ feed) ls

-- the lines of a text, cut where the last line feed is, and those of the text with more after it
record Parted (xs ys : List ℕ) : Type 0 where
  whole : List Line
  begun : List Line
  behind : List Line
  are_whole : All true whole
  are_begun : All false begun
  front : lines_of xs ≡ whole ++ begun
  both : lines_of (xs ++ ys) ≡ whole ++ behind

begin : (b : ℕ) (xs ys : List ℕ) (whole begun behind : List Line) → (b == 10) ≡ false → All true whole → All false begun
    → lines_of xs ≡ whole ++ begun → lines_of (xs ++ ys) ≡ whole ++ behind → Parted (b ∷ xs) ys
unfolding lines_of
begin b xs ys [] [] behind other w n front both = record {
  whole = [];
  begun = line (b ∷ []) false ∷ [];
  behind = begun_by b behind;
  are_whole = tt;
  are_begun = (refl, tt);
  front = rw other (ap (begun_by b) front);
  both = rw other (ap (begun_by b) both);
}
begin b xs ys [] (l ∷ ls) behind other w n front both = record {
  whole = [];
  begun = line (b ∷ l.text) l.ended ∷ ls;
  behind = begun_by b behind;
  are_whole = tt;
  are_begun = n;
  front = rw other (ap (begun_by b) front);
  both = rw other (ap (begun_by b) both);
}
begin b xs ys (l ∷ ls) begun behind other w n front both = record {
  whole = line (b ∷ l.text) l.ended ∷ ls;
  begun = begun;
  behind = behind;
  are_whole = w;
  are_begun = n;
  front = rw other (ap (begun_by b) front);
  both = rw other (ap (begun_by b) both);
}

with_byte : (b : ℕ) (xs ys : List ℕ) (feed : Bool) → (b == 10) ≡ feed → Parted xs ys → Parted (b ∷ xs) ys
unfolding lines_of
with_byte b xs ys true is p = record {
  whole = line [] true ∷ p.whole;
  begun = p.begun;
  behind = p.behind;
  are_whole = (refl, p.are_whole);
  are_begun = p.are_begun;
  front = rw is (ap (λ ls. line [] true ∷ ls) p.front);
  both = rw is (ap (λ ls. line [] true ∷ ls) p.both);
}
with_byte b xs ys false is p =
    begin b xs ys p.whole p.begun p.behind is p.are_whole p.are_begun p.front p.both

parted : (xs ys : List ℕ) → Parted xs ys
unfolding lines_of
parted [] ys = record {
  whole = [];
  begun = [];
  behind = lines_of ys;
  are_whole = tt;
  are_begun = tt;
  front = refl;
  both = refl;
}
parted (b ∷ xs) ys = with_byte b xs ys (b == 10) refl (parted xs ys)

-- lines that are judged before the end of a text, and at it
none_judged : (begun : List Line) → All false begun → filter (λ (l : Line). l.ended || false) begun ≡ []
none_judged [] n = refl
none_judged (l ∷ ls) n = rw n.0 (none_judged ls n.1)

kept_line : (feed : Bool) (text : List ℕ) (ls : List Line) → feed ≡ true
    → filter (λ (l : Line). l.ended || false) (line text feed ∷ ls)
    ≡ line text feed ∷ filter (λ (l : Line). l.ended || false) ls
kept_line true text ls is = refl
kept_line false text ls is = cc

whole_judged : (whole begun : List Line) → All true whole → All false begun
    → filter (λ (l : Line). l.ended || false) (whole ++ begun) ≡ whole
whole_judged [] begun w n = none_judged begun n
whole_judged (l ∷ ls) begun w n =
    kept_line l.ended l.text (ls ++ begun) w.0 ∙ ap (λ ks. l ∷ ks) (whole_judged ls begun w.1 n)

or_true : (b : Bool) → (b || true) ≡ true
or_true true = refl
or_true false = refl

pub all_judged : (ls : List Line) → filter (λ (l : Line). l.ended || true) ls ≡ ls
all_judged [] = refl
all_judged (l ∷ ls) = rw (or_true l.ended) (ap (λ ks. l ∷ ks) (all_judged ls))

judged : (xs ys : List ℕ) → (behind : List Line) × (judged_lines (xs ++ ys) true ≡ judged_lines xs false ++ behind)
judged xs ys =
    let p = parted xs ys in (
      p.behind,
      ap (filter (λ (l : Line). l.ended || true)) p.both ∙ all_judged (p.whole ++ p.behind)
          ∙ sym (ap (λ ls. ls ++ p.behind)
          (ap (filter (λ (l : Line). l.ended || false)) p.front
          ∙ whole_judged p.whole p.begun p.are_whole p.are_begun)),
    )

-- a bad line of a stimulus
bad_stays_at : (entry : Option Entry) (number k : ℕ) (rest more : Stimulus) → (rest.bad ≡ Some k → more.bad ≡ Some k)
    → (before_rest number entry rest).bad ≡ Some k → (before_rest number entry more).bad ≡ Some k
bad_stays_at None number k rest more next is = is
bad_stays_at (Some entry) number k rest more next is = next is

bad_stays : (inputs number k : ℕ) (ls behind : List Line) → (lines_say inputs number ls).bad ≡ Some k
    → (lines_say inputs number (ls ++ behind)).bad ≡ Some k
bad_stays inputs number k [] behind is = cc
bad_stays inputs number k (l ∷ ls) behind is =
    bad_stays_at (entry_of inputs l) number k _ _ (bad_stays inputs (suc number) k ls behind) is

-- a wrong line of a witness file
wrong_stays_at : (said : Option Said) (number k : ℕ) (rest more : Said → Result Said ℕ)
    → ((next : Said) → rest next ≡ Err k → more next ≡ Err k)
    → said_behind number said rest ≡ Err k → said_behind number said more ≡ Err k
wrong_stays_at None number k rest more stays is = is
wrong_stays_at (Some said) number k rest more stays is = stays said is

wrong_stays : (shape : Shape) (number k : ℕ) (said : Said) (ls behind : List Line)
    → said_by shape number said ls ≡ Err k
    → said_by shape number said (ls ++ behind) ≡ Err k
wrong_stays shape number k said [] behind is = cc
wrong_stays shape number k said (l ∷ ls) behind is =
    wrong_stays_at (said_with shape said (text_of l)) number k _ _
    (λ next. wrong_stays shape (suc number) k next ls behind) is

wrong_is : (lines k : ℕ) (r : Result Said ℕ) → wrong_line lines false r ≡ Some k → r ≡ Err k
wrong_is lines k (Ok said) is = cc
wrong_is lines k (Err number) is = cc

pub bad_line_stays : (c : Circuit) (n k : ℕ) (text : List ℕ) → first_bad_line c (take n text) false ≡ Some k
    → first_bad_line c text true ≡ Some k
bad_line_stays c n k text is =
    let j = judged (take n text) (drop n text) in
    let all = ap (λ t. judged_lines t true) (take-append-drop n text) in
    subst (λ ls. (lines_say (length c.inputs) 1 ls).bad ≡ Some k) (sym j.1 ∙ all)
    (bad_stays (length c.inputs) 1 k (judged_lines (take n text) false) j.0 is)

one_wrong : (c : Circuit) (k : ℕ) (kind : Bool) (l : Line) (behind : List Line) (same : Bool)
    → bytes_eq (text_of l) (codes "1") ≡ same
    → said_by (shape_of c) 1 Nothing (l ∷ []) ≡ Err k
    → said_by (shape_if (length c.justice.sizes) c kind) 1 Nothing (l ∷ behind) ≡ Err k
one_wrong c k kind l behind true same is = let other = rw same at is in cc
one_wrong c k kind l behind false same is = rw same (rw same at is)

-- the kind of a file is known by its first two lines; before them no line is right for one kind alone
kind_stays : (c : Circuit) (k : ℕ) (lines behind : List Line)
    → said_by (shape_if (length c.justice.sizes) c (are_of_justice lines)) 1 Nothing lines ≡ Err k
    → said_by (shape_if (length c.justice.sizes) c (are_of_justice (lines ++ behind))) 1 Nothing (lines ++ behind) ≡ Err k
kind_stays c k [] behind is = cc
kind_stays c k (l ∷ []) behind is =
    one_wrong c k (are_of_justice (l ∷ behind)) l behind (bytes_eq (text_of l) (codes "1")) refl is
kind_stays c k (l ∷ m ∷ ls) behind is =
    wrong_stays (shape_if (length c.justice.sizes) c (are_of_justice (l ∷ m ∷ ls))) 1 k Nothing (l ∷ m ∷ ls) behind is

-- a wrong line has a number among the lines
wrong_at : (said : Option Said) (number k : ℕ) (ls : List Line) (rest : Said → Result Said ℕ)
    → ((next : Said) → rest next ≡ Err k → k < suc number + length ls) → said_behind number said rest ≡ Err k
    → k < number + suc (length ls)
wrong_at None number k ls rest within is = let same : number ≡ k = cc in omega arith
wrong_at (Some said) number k ls rest within is = let here = within said is in omega arith

wrong_within : (shape : Shape) (number k : ℕ) (said : Said) (ls : List Line) → said_by shape number said ls ≡ Err k
    → k < number + length ls
wrong_within shape number k said [] is = cc
wrong_within shape number k said (l ∷ ls) is =
    wrong_at (said_with shape said (text_of l)) number k ls _
    (λ next. wrong_within shape (suc number) k next ls) is

-- and that is counted alike, whatever comes after
counted_at : (l : Line) (ls behind : List Line) (k : ℕ) (comment : Bool) → is_comment (text_of l) ≡ comment
    → suc k ≤ length (lines_said (l ∷ ls))
    → ((n : ℕ) → n ≤ length (lines_said ls) → line_number (ls ++ behind) n ≡ line_number ls n)
    → line_number (l ∷ (ls ++ behind)) (suc k) ≡ line_number (l ∷ ls) (suc k)
counted_at l ls behind k true is within again =
    let here : suc k ≤ length (lines_said ls) = rw is at within in rw is (ap suc (again (suc k) here))
counted_at l ls behind k false is within again =
    let here : suc k ≤ suc (length (lines_said ls)) = rw is at within in rw is (ap suc (again k (omega arith)))

counted_stays : (ls behind : List Line) (k : ℕ) → k ≤ length (lines_said ls)
    → line_number (ls ++ behind) k ≡ line_number ls k
counted_stays [] behind zero within = no_line behind
counted_stays [] behind (suc k) within = absurd (omega arith)
counted_stays (l ∷ ls) behind zero within = refl
counted_stays (l ∷ ls) behind (suc k) within =
    counted_at l ls behind k (is_comment (text_of l)) refl within (λ n. counted_stays ls behind n)

-- the number before it was counted with the comments
record IsCounted (count : ℕ → ℕ) (o : Option ℕ) (k : ℕ) : Type 0 where
  before : ℕ
  some : o ≡ Some before
  counted : count before ≡ k

counted_from : (count : ℕ → ℕ) (o : Option ℕ) (k : ℕ) → option_map count o ≡ Some k → IsCounted count o k
counted_from count None k is = cc
counted_from count (Some n) k is = record { before = n; some = refl; counted = cc }

-- the first wrong line among lines that are no comments
abbrev among : Circuit → Bool → List Line → Option ℕ
among c over ls =
    wrong_line (length ls) over (said_by (shape_if (length c.justice.sizes) c (are_of_justice ls)) 1 Nothing ls)

pub wrong_line_stays : (c : Circuit) (n k : ℕ) (text : List ℕ) → first_bad_file_line c (take n text) false ≡ Some k
    → first_bad_file_line c text true ≡ Some k
wrong_line_stays c n k text is =
    let j = judged (take n text) (drop n text) in
    let all : judged_lines text true ≡ judged_lines (take n text) false ++ j.0 =
    sym (ap (λ t. judged_lines t true) (take-append-drop n text)) ∙ j.1 in
    let lines = judged_lines (take n text) false in
    let said = lines_said lines in
    let front = counted_from (line_number lines) (among c false said) k
    (subst (λ ls. option_map (line_number lines) (among c false ls) ≡ Some k) (said_judged (take n text) false) is) in
    let wrong = wrong_is (length said) front.before
    (said_by (shape_if (length c.justice.sizes) c (are_of_justice said)) 1 Nothing said) front.some in
    let within = wrong_within (shape_if (length c.justice.sizes) c (are_of_justice said)) 1 front.before Nothing said
    wrong in
    let both : judged_lines (uncommented text) true ≡ said ++ lines_said j.0 =
    said_judged text true ∙ ap lines_said all ∙ filter-append _ lines j.0 in
    let stays : among c true (said ++ lines_said j.0) ≡ Some front.before =
    ap (wrong_line (length (said ++ lines_said j.0)) true) (kind_stays c front.before said (lines_said j.0) wrong) in
    ap (option_map (line_number (judged_lines text true))) (ap (among c true) both ∙ stays)
    ∙ ap (λ m. Some m)
    (ap (λ ls. line_number ls front.before) all ∙ counted_stays lines j.0 front.before (omega arith) ∙ front.counted)
