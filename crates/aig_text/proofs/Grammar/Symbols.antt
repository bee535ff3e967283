-- How symbol lines and the line `c` are spelled and read, and symbols that name no two things alike.
use Rattle.std.proofs.Common.{◌≡◌, ◌∷◌, ◌++◌, ◌∙◌, ◌<◌, ◌&&◌, ◌||◌, rules, ℕ, Bool, true, false, List, [], Some, refl}
use Rattle.std.proofs.Common.{ap, eqb, sym, nat_cmp, eqb-true, eq-eqb}
use Rattle.std.specs.List.{AllByRecursion}
use Rattle.std.specs.Cmp.{unsigned_tied}
use Rattle.std.specs.FinSet as set
use Rattle.std.specs.FinSet.{contains-insert, contains-empty}
use Rattle.std.proofs.lemmas.Bool.{and_parts, or_parts, or_from}
use Rattle.std.proofs.lemmas.Cmp.{nat_cmp_total}
use Rattle.aig_circuit.specs.declared.circuit.Kind.{Kind}
use Rattle.aig_circuit.specs.declared.circuit.Kind.TheVariants.{Input, Constraint, Latch, Output, Bad, Justice}
use Rattle.aig_circuit.specs.declared.circuit.Kind.TheVariants.{Fairness}
use Rattle.aig_circuit.specs.declared.circuit.Symbol.{Symbol}
use Rattle.aig_circuit.specs.Wellformed.{NameTheSame, NameApart}
use Rattle.aig_core.specs.declared.names.Names.{Names}
use Rattle.aig_core.specs.Names.{is_named, with_name, nothing_named}
use Rattle.aig_lines.specs.Lines.{Line}
use Rattle.aig_rows.specs.Spelling.{IsNumber}
use Rattle.aig_rows.specs.Scanning.{is_line_end}
use Rattle.aig_rows.proofs.Grammar.Spellings.{number_reads, number_is_read, end_reads, end_is_read, digits_are_no_end}
use Rattle.aig_rows.proofs.Grammar.NumberLines.{some_then}
use Rattle.aig_text.specs.Tail.{kind_letter, IsSymbolLine, IsCommentLine}
use Rattle.aig_text.specs.Scanning.{kind_at, after_space, symbol, symbol_at, begins_comment, is_comment_line}
use Rattle.aig_text.specs.Sections.{Header}
use Rattle.aig_text.specs.Reading.{count_named}

-- the letter
abbrev IsLetter : ℕ → Kind → Type 0
IsLetter b k = b ∷ [] ≡ kind_letter k

letter_reads : (b : ℕ) (k : Kind) → kind_at b ≡ Some k → IsLetter b k
letter_reads b k h = search (rules, eqb-true)

-- one space
space_reads : (bytes rest : List ℕ) → after_space bytes ≡ Some rest → bytes ≡ 32 ∷ rest
space_reads [] rest h = cc
space_reads (b ∷ bytes) rest h = search (rules, eqb-true)

-- a symbol
pub symbol_reads : (l : Line) (text : List ℕ) (s : Symbol) → l.text ≡ text → symbol_at text ≡ Some s → IsSymbolLine l s
unfolding symbol_at
symbol_reads l [] s is h = cc
symbol_reads l (b ∷ bytes) s is h =
    let a = some_then _ _ _ h in
    let p = some_then _ _ _ a.2 in
    let n = some_then _ _ _ p.2 in
    let letter : IsLetter b a.0 = letter_reads b a.0 a.1 in
    let number = number_reads bytes p.0.1 p.0.0 p.1 in
    let space : p.0.1 ≡ 32 ∷ n.0 = space_reads p.0.1 n.0 n.1 in
    let whole : symbol a.0 p.0.0 n.0 ≡ s = cc in
    rw (← whole) (record {
      digits = number.0;
      text =
          is ∙ ap (λ (t : List ℕ). b ∷ t) number.1 ∙ ap (λ (t : List ℕ). t ++ (number.0 ++ p.0.1)) letter
          ∙ ap (λ (t : List ℕ). kind_letter a.0 ++ (number.0 ++ t)) space;
      position = number.2;
    })

read_of : (k : Kind) (digits name : List ℕ) (n : ℕ) → IsNumber digits n
    → symbol_at (kind_letter k ++ (digits ++ (32 ∷ name))) ≡ Some (symbol k n name)
unfolding symbol_at
read_of Input digits name n h = rw (number_is_read digits (32 ∷ name) n h refl) refl
read_of k digits name n h = rw (number_is_read digits (32 ∷ name) n h refl) refl

pub symbol_is_read : (l : Line) (s : Symbol) → IsSymbolLine l s → symbol_at l.text ≡ Some s
symbol_is_read l s h = ap symbol_at h.text ∙ read_of s.kind h.digits s.name s.position h.position

-- a symbol line does not begin the comment: its letter is another, or a number follows the letter
no_comment : (k : Kind) (ended : Bool) (rest : List ℕ) → is_line_end ended rest ≡ false
    → begins_comment ended (kind_letter k ++ rest) ≡ false
no_comment Constraint ended rest more = more
no_comment k ended rest more = refl

pub symbol_is_no_comment : (l : Line) (s : Symbol) → IsSymbolLine l s → is_comment_line l ≡ false
unfolding is_comment_line
symbol_is_no_comment l s h = search (rules, no_comment, digits_are_no_end)

-- the line `c`
comment_begins : (l : Line) (text : List ℕ) → l.text ≡ text → begins_comment l.ended text ≡ true → IsCommentLine l
comment_begins l [] is h = cc
comment_begins l (b ∷ bytes) is h = search (rules, and_parts, eqb-true, end_reads)

pub comment_reads : (l : Line) → is_comment_line l ≡ true → IsCommentLine l
unfolding is_comment_line
comment_reads l h = comment_begins l l.text refl h

pub comment_is_read : (l : Line) → IsCommentLine l → is_comment_line l ≡ true
unfolding is_comment_line
comment_is_read l h = ap (begins_comment l.ended) h.text ∙ end_is_read l.ended h.ending h.ends

-- Symbols of which each is new where it stands name no two things alike, and the other way round.
same_kind : Kind → Kind → Bool
same_kind Input Input = true
same_kind Latch Latch = true
same_kind Output Output = true
same_kind Bad Bad = true
same_kind Constraint Constraint = true
same_kind Justice Justice = true
same_kind Fairness Fairness = true
same_kind _ _ = false

kind_is_same : (k : Kind) → same_kind k k ≡ true
unfolding same_kind
kind_is_same Input = refl
kind_is_same k = refl

same_is_kind : (k j : Kind) → same_kind k j ≡ true → k ≡ j
unfolding same_kind
same_is_kind Input Input h = refl
same_is_kind Latch Latch h = refl
same_is_kind Output Output h = refl
same_is_kind Bad Bad h = refl
same_is_kind Constraint Constraint h = refl
same_is_kind Justice Justice h = refl
same_is_kind Fairness Fairness h = refl
same_is_kind _ _ h = cc

has_more : (s : set.FinSet nat_cmp) (p q : ℕ) → set.contains (set.insert s p) q ≡ (eqb q p || set.contains s q)
has_more s p q = contains-insert nat_cmp_total s p q ∙ ap (λ b. b || set.contains s q) (unsigned_tied q p)

-- what is named after one more name
named_after : (b : Names) (k j : Kind) (p q : ℕ)
    → is_named (with_name b k p) j q ≡ ((same_kind k j && eqb q p) || is_named b j q)
unfolding same_kind
named_after b Input Input p q = has_more b.inputs p q
named_after b Latch Latch p q = has_more b.latches p q
named_after b Output Output p q = has_more b.outputs p q
named_after b Bad Bad p q = has_more b.bad p q
named_after b Constraint Constraint p q = has_more b.constraints p q
named_after b Justice Justice p q = has_more b.justice p q
named_after b Fairness Fairness p q = has_more b.fairness p q
named_after b _ _ p q = refl

none_named : (k : Kind) (q : ℕ) → is_named nothing_named k q ≡ false
none_named Input q = contains-empty nat_cmp q
none_named k q = contains-empty nat_cmp q

-- each symbol names something that is there and has no name before it
abbrev pub AreNew : Header → Names → List Symbol → Type 0
AreNew h before [] = Unit {0}
AreNew h before (s ∷ ss) =
    (s.position < count_named h s.kind) × (is_named before s.kind s.position ≡ false) × AreNew h
    (with_name before s.kind s.position) ss

abbrev Unnamed : Names → Symbol → Type 0
Unnamed before t = is_named before t.kind t.position ≡ false

abbrev pub IsPlaced : Header → Symbol → Type 0
IsPlaced h s = s.position < count_named h s.kind

not_both : (s t : Symbol) → (same_kind s.kind t.kind && eqb t.position s.position) ≡ false → ¬ NameTheSame s t
not_both s t h same = search (rules, same_kind, kind_is_same, eq-eqb)

old_and_apart : (before : Names) (s : Symbol) (ss : List Symbol)
    → AllByRecursion (Unnamed (with_name before s.kind s.position)) ss
    → AllByRecursion (Unnamed before) ss × AllByRecursion (λ t. ¬ NameTheSame s t) ss
old_and_apart before s [] h = (tt, tt)
old_and_apart before s (t ∷ ts) h =
    let p =
    or_parts (same_kind s.kind t.kind && eqb t.position s.position) (is_named before t.kind t.position)
    (sym (named_after before s.kind t.kind s.position t.position) ∙ h.0) in
    let rest = old_and_apart before s ts h.1 in
    ((p.1, rest.0), (not_both s t p.0, rest.1))

all_new : (h : Header) (before : Names) (ss : List Symbol) → AreNew h before ss
    → AllByRecursion (Unnamed before) ss × NameApart ss
all_new h before [] n = (tt, tt)
all_new h before (s ∷ ss) n =
    let rest = all_new h (with_name before s.kind s.position) ss n.2 in search (rules, old_and_apart)

pub new_apart : (h : Header) (ss : List Symbol) → AreNew h nothing_named ss → NameApart ss
new_apart h ss n = (all_new h nothing_named ss n).1

pub new_placed : (h : Header) (before : Names) (ss : List Symbol) → AreNew h before ss → AllByRecursion (IsPlaced h) ss
new_placed h before [] n = tt
new_placed h before (s ∷ ss) n = (n.0, new_placed h (with_name before s.kind s.position) ss n.2)

-- and symbols that name nothing alike are new
still_new : (before : Names) (s : Symbol) (ss : List Symbol) → AllByRecursion (Unnamed before) ss
    → AllByRecursion (λ t. ¬ NameTheSame s t) ss → AllByRecursion (Unnamed (with_name before s.kind s.position)) ss
still_new before s [] old apart = tt
still_new before s (t ∷ ts) old apart = (
  search (rules, named_after, or_from, same_kind, and_parts, same_is_kind, eqb-true),
  still_new before s ts old.1 apart.1,
)

apart_from : (h : Header) (before : Names) (ss : List Symbol) → AllByRecursion (IsPlaced h) ss
    → AllByRecursion (Unnamed before) ss → NameApart ss → AreNew h before ss
apart_from h before [] placed old apart = tt
apart_from h before (s ∷ ss) placed old apart = (
  placed.0,
  old.0,
  apart_from h (with_name before s.kind s.position) ss placed.1
      (still_new before s ss old.1 apart.0) apart.1,
)

none_before : (ss : List Symbol) → AllByRecursion (Unnamed nothing_named) ss
none_before [] = tt
none_before (s ∷ ss) = (none_named s.kind s.position, none_before ss)

pub apart_new : (h : Header) (ss : List Symbol) → AllByRecursion (IsPlaced h) ss → NameApart ss
    → AreNew h nothing_named ss
apart_new h ss placed apart = apart_from h nothing_named ss placed (none_before ss) apart
