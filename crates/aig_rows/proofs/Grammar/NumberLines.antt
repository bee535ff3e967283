-- How the numbers of a line are spelled and how they are read: each follows from the other.
use Rattle.std.proofs.Common.{◌≡◌, ◌≤◌, ◌-◌, ◌+◌, ◌&&◌, ◌∷◌, ◌++◌, ◌∙◌, ◌⊎◌, rules, ℕ, zero, suc, Bool, true, false}
use Rattle.std.proofs.Common.{cond, List, [], length, Option, None, Some, refl, sym, ap, subst, arith, append_assoc}
use Rattle.std.proofs.Common.{eqb, inl, inr, length-append, eqb-true}
use Rattle.std.proofs.lemmas.List.{length-replicate}
use Rattle.std.proofs.lemmas.Bool.{and_parts}
use Rattle.aig_lines.specs.Lines.{Line}
use Rattle.aig_rows.specs.Spelling.{is_digit, IsNumber, IsGap, IsLineEnd, AreMoreNumbers, zeros, EndInNumbers}
use Rattle.aig_rows.specs.Spelling.{IsNumberLine}
use Rattle.aig_rows.specs.Scanning.{◌>>=◌, is_line_end, after_gap, number_at, more_numbers_at, numbers_at}
use Rattle.aig_rows.proofs.Grammar.Spellings.{StopsAt, number_reads, number_is_read, gap_reads, gap_is_read, end_reads}
use Rattle.aig_rows.proofs.Grammar.Spellings.{end_is_read, number_begins, more_begins, gap_is_no_end}

-- one more number at the front
more_line : (least : ℕ) (ended : Bool) (gap digits rest : List ℕ) (n : ℕ) (ns : List ℕ) → IsGap gap
    → IsNumber digits n → EndInNumbers (least - 1) ended rest ns
    → EndInNumbers least ended (gap ++ (digits ++ rest)) (n ∷ ns)
more_line least ended gap digits rest n ns g d m =
    let enough : least - 1 ≤ length m.written = m.enough in
    record {
      written = n ∷ m.written;
      left_out = m.left_out;
      numbers = gap ++ (digits ++ m.numbers);
      ending = m.ending;
      are = ap (λ (t : List ℕ). n ∷ t) m.are;
      enough = omega arith;
      text_is = rw m.text_is (simp append_assoc);
      spelled = (gap, digits, m.numbers, refl, g, d, m.spelled);
      ends = m.ends;
    }

-- no number is left
no_more : (ended : Bool) (bytes : List ℕ) (most : ℕ) → is_line_end ended bytes ≡ true
    → EndInNumbers 0 ended bytes (zeros most)
no_more ended bytes most h = record {
  written = [];
  left_out = most;
  numbers = [];
  ending = bytes;
  are = refl;
  enough = omega arith;
  text_is = refl;
  spelled = refl;
  ends = end_reads ended bytes h;
}

pub some_then : {A B : Type 0} (x : Option A) (f : A → Option B) (z : B) → (x >>= f) ≡ Some z
    → (y : A) × (x ≡ Some y) × (f y ≡ Some z)
some_then None f z h = cc
some_then (Some y) f z h = (y, refl, h)

true_some : {A : Type 0} (t : Bool) (x y : A) → cond t (Some x) None ≡ Some y → (t ≡ true) × (x ≡ y)
true_some true x y h = (refl, cc)
true_some false x y h = cc

length-zeros : (count : ℕ) → length (zeros count) ≡ count
length-zeros count = length-replicate count 0

abbrev IsEnd : ℕ → ℕ → Bool → List ℕ → List ℕ → Type 0
IsEnd least most ended bytes ns = EndInNumbers least ended bytes ns × (length ns ≡ most)

zeros_end : (least most : ℕ) (ended : Bool) (bytes ns : List ℕ) → (eqb least 0 && is_line_end ended bytes) ≡ true
    → zeros most ≡ ns → IsEnd least most ended bytes ns
zeros_end least most ended bytes ns t is = search (rules, and_parts, eqb-true, no_more, length-zeros)

-- one of two
pub branches : {A : Type 0} (t : Bool) (x y z : A) → cond t x y ≡ z → ((t ≡ true) × (x ≡ z)) ⊎ ((t ≡ false) × (y ≡ z))
branches true x y z h = inl (refl, h)
branches false x y z h = inr (refl, h)

abbrev one_more_at : ℕ → ℕ → Bool → List ℕ → Option (List ℕ)
one_more_at least most ended bytes = do
  digits ← after_gap bytes
  first ← number_at digits
  others ← more_numbers_at ended (least - 1) most first.1
  Some (first.0 ∷ others)

pub more_reads : (least most : ℕ) (ended : Bool) (bytes ns : List ℕ) → least ≤ most
    → more_numbers_at ended least most bytes ≡ Some ns → IsEnd least most ended bytes ns
unfolding more_numbers_at
more_reads least zero ended bytes ns l h =
    let g : (is_line_end ended bytes ≡ true) × ([] ≡ ns) = true_some _ _ _ h in
    let none : least ≡ 0 = omega arith in
    subst (λ (t : List ℕ). IsEnd least 0 ended bytes t) g.1
    (subst (λ (k : ℕ). EndInNumbers k ended bytes []) (sym none) (no_more ended bytes 0 g.0), refl)
more_reads least (suc most) ended bytes ns l h =
    elim
    (branches (eqb least 0 && is_line_end ended bytes) (Some (zeros (suc most))) (one_more_at least most ended bytes)
    (Some ns) h) as (λ _. IsEnd least (suc most) ended bytes ns) [
      | inl e ↦ zeros_end least (suc most) ended bytes ns e.0 cc
      | inr e ↦
          let a = some_then _ _ _ e.1 in
          let b = some_then _ _ _ a.2 in
          let d = some_then _ _ _ b.2 in
          let gap = gap_reads bytes a.0 a.1 in
          let number = number_reads a.0 b.0.1 b.0.0 b.1 in
          let others = more_reads (least - 1) most ended b.0.1 d.0 (omega arith) d.1 in
          let found : b.0.0 ∷ d.0 ≡ ns = cc in
          let spelled : bytes ≡ gap.0 ++ (number.0 ++ b.0.1) = gap.1 ∙ ap (λ (t : List ℕ). gap.0 ++ t) number.1 in
          subst (λ (t : List ℕ). IsEnd least (suc most) ended bytes t) found (
            subst (λ (t : List ℕ). EndInNumbers least ended t (b.0.0 ∷ d.0)) (sym spelled)
                (more_line least ended gap.0 number.0 b.0.1 b.0.0 d.0 gap.2 number.2 others.0),
            ap suc others.1,
          )
    ]

pub and_no : (t : Bool) → (t && false) ≡ false
and_no true = refl
and_no false = refl

one_more_is_read : (ended : Bool) (least most : ℕ) (gap digits rest : List ℕ) (n : ℕ) (ns : List ℕ) → IsGap gap
    → IsNumber digits n → StopsAt is_digit rest → more_numbers_at ended (least - 1) most rest ≡ Some ns
    → more_numbers_at ended least (suc most) (gap ++ (digits ++ rest)) ≡ Some (n ∷ ns)
unfolding more_numbers_at
one_more_is_read ended least most gap digits rest n ns g d follows others =
    search (rules, gap_is_no_end, and_no, gap_is_read, number_begins, number_is_read)

-- numbers that are left out are read as zeros
left_out_is_read : (ended : Bool) (bytes : List ℕ) (most : ℕ) → is_line_end ended bytes ≡ true
    → more_numbers_at ended 0 most bytes ≡ Some (zeros most)
unfolding more_numbers_at
left_out_is_read ended bytes zero h = rw h refl
left_out_is_read ended bytes (suc most) h = rw h refl

more_is_read : (ended : Bool) (least most : ℕ) (numbers ending written : List ℕ) (left_out : ℕ)
    → AreMoreNumbers numbers written → IsLineEnd ended ending → least ≤ length written
    → length written + left_out ≡ most
    → more_numbers_at ended least most (numbers ++ ending) ≡ Some (written ++ zeros left_out)
more_is_read ended least most numbers ending [] left_out h ends enough all =
    let none : least ≡ 0 = omega arith in search (rules, left_out_is_read, end_is_read)
more_is_read ended least zero numbers ending (n ∷ ns) left_out h ends enough all = absurd (omega arith)
more_is_read ended least (suc most) numbers ending (n ∷ ns) left_out h ends enough all =
    let text : numbers ++ ending ≡ h.0 ++ (h.1 ++ (h.2 ++ ending)) = search (rules, append_assoc) in
    rw text
    (one_more_is_read ended least most h.0 h.1 (h.2 ++ ending) n (ns ++ zeros left_out) h.4 h.5
    (more_begins ended h.2 ending ns h.6 ends)
    (more_is_read ended (least - 1) most h.2 ending ns left_out h.6 ends (omega arith) (omega arith)))

-- what stands at the end of a line is read
pub end_is_numbers : (ended : Bool) (least most : ℕ) (text ns : List ℕ) → EndInNumbers least ended text ns
    → length ns ≡ most → more_numbers_at ended least most text ≡ Some ns
end_is_numbers ended least most text ns h long = search (rules, length-zeros, length-append, more_is_read)

-- what stands at the end of a line begins with no digit
pub numbers_begin : (ended : Bool) (least : ℕ) (text ns : List ℕ) → EndInNumbers least ended text ns
    → StopsAt is_digit text
numbers_begin ended least text ns h =
    subst (StopsAt is_digit) (sym h.text_is) (more_begins ended h.numbers h.ending h.written h.spelled h.ends)

-- a line whose numbers are read holds them
pub row_reads : (l : Line) (least most : ℕ) (ns : List ℕ) → least ≤ most
    → numbers_at l.ended least most l.text ≡ Some ns → IsNumberLine least l ns × (length ns ≡ suc most)
unfolding numbers_at
row_reads l least most ns small h =
    let b = some_then _ _ _ h in
    let d = some_then _ _ _ b.2 in
    let number = number_reads l.text b.0.1 b.0.0 b.1 in
    let others = more_reads least most l.ended b.0.1 d.0 small d.1 in
    let found : b.0.0 ∷ d.0 ≡ ns = cc in (
      record {
        first = b.0.0;
        more = d.0;
        digits = number.0;
        rest = b.0.1;
        are = sym found;
        begins = number.1;
        spelled = number.2;
        others = others.0;
      },
      sym (ap length found) ∙ ap suc others.1,
    )

numbers_are_read : (ended : Bool) (least most : ℕ) (digits rest : List ℕ) (n : ℕ) (ns : List ℕ) → IsNumber digits n
    → StopsAt is_digit rest → more_numbers_at ended least most rest ≡ Some ns
    → numbers_at ended least most (digits ++ rest) ≡ Some (n ∷ ns)
unfolding numbers_at
numbers_are_read ended least most digits rest n ns d follows others =
    rw (number_is_read digits rest n d follows, others) refl

-- the numbers that a line holds are read
pub row_is_read : (l : Line) (least most : ℕ) (ns : List ℕ) → IsNumberLine least l ns → length ns ≡ suc most
    → numbers_at l.ended least most l.text ≡ Some ns
row_is_read l least most ns h long =
    let count : length h.more ≡ most = let e : length ns ≡ length (h.first ∷ h.more) = ap length h.are in omega arith in
    search (rules, numbers_are_read, numbers_begin, end_is_numbers, h.begins, h.are)
