-- Headers and symbol lines are judged by what is kept of their numbers as by the numbers.
use Rattle.std.proofs.Common.{◌≡◌, ◌<◌, ◌^◌, ◌∷◌, ◌||◌, ◌≤◌, ◌++◌, ◌∙◌, rules, ℕ, List, [], Bool, true, false, map, min}
use Rattle.std.proofs.Common.{length, drop, refl, ap₂, ltb, Option, Some, None, Err, cond, ap, append_assoc, arith}
use Rattle.std.proofs.Common.{decimal, Ok, bytes_eq, nat_le, ltb-false, le-leb}
use Rattle.std.specs.List.{list_any, before_first}
use Rattle.std.proofs.lemmas.Bool.{cases_Bool, or_parts, cases_lt, lt-leb}
use Rattle.aig_circuit.specs.Wellformed.{largest_index}
use Rattle.aig_circuit.specs.declared.circuit.Kind.{Kind}
use Rattle.aig_circuit.specs.declared.circuit.Kind.TheVariants.{Input}
use Rattle.aig_circuit.specs.SymbolText.{kind_letter, symbol_text}
use Rattle.aig_circuit.specs.declared.circuit.Symbol.{Symbol}
use Rattle.aig_core.specs.declared.names.Names.{Names}
use Rattle.aig_core.specs.Names.{is_named}
use Rattle.aig_lines.specs.Lines.{line}
use Rattle.aig_fault.specs.declared.kind.Kind.TheVariants as kinds
use Rattle.aig_rows.specs.Scanning.{more_numbers_at}
use Rattle.aig_rows.specs.Kept.{kept, kept_numbers, kept_first}
use Rattle.aig_fault.specs.declared.kind.Kind.{Kind as FaultKind}
use Rattle.aig_rows.specs.Reading.{at_line, unless_wrong}
use Rattle.aig_rows.specs.CanonicalNumber.{canonical_before, is_padded}
use Rattle.aig_rows.proofs.Kept.Numbers.{kept_small, kept_large}
use Rattle.aig_rows.proofs.Kept.Checks.{above_kept}
use Rattle.aig_rows.proofs.Canonical.{canonical_reads, decimal_is_number, digits_are_decimal}
use Rattle.aig_rows.proofs.Grammar.Spellings.{number_is_read}
use Rattle.aig_text.specs.Sections.{least_header_numbers, most_header_numbers, Header}
use Rattle.aig_text.specs.Reading.{header_within, header_of, ends_word, count_named, checked_symbol, fault_in_symbol}
use Rattle.aig_text.specs.Tail.{IsSymbolLine}
use Rattle.aig_text.specs.Scanning.{symbol, symbol_at}
use Rattle.aig_text.specs.Parts.Kept.{kept_symbol, position_at}
use Rattle.aig_text.proofs.Grammar.Symbols.{symbol_reads}

any_kept : (limit : ℕ) (ns : List ℕ) → limit < 2 ^ 33
    → list_any (λ n. ltb limit n) (map kept ns) ≡ list_any (λ n. ltb limit n) ns
any_kept limit [] l = refl
any_kept limit (n ∷ ns) l = ap₂ (λ (a b : Bool). a || b) (above_kept limit n l) (any_kept limit ns l)

all_kept : (limit : ℕ) (ns : List ℕ) → limit < 2 ^ 33 → list_any (λ n. ltb limit n) ns ≡ false → map kept ns ≡ ns
all_kept limit [] l h = refl
all_kept limit (n ∷ ns) l h =
    let p = or_parts (ltb limit n) (list_any (λ n. ltb limit n) ns) h in
    search (rules, ltb-false, kept_small, all_kept limit ns l p.1)

-- the header
header_kept : (limit : ℕ) (read : Option (List ℕ)) → limit < 2 ^ 33
    → header_within limit (kept_numbers read) ≡ header_within limit read
unfolding header_within
header_kept limit None l = refl
header_kept limit (Some ns) l = search (rules, cases_Bool, any_kept, all_kept)

pub header_found : (word text rest : List ℕ) (limit : ℕ) (ended : Bool) (read : Option (List ℕ))
    → bytes_eq (before_first ends_word text) word ≡ true → rest ≡ drop (length word) text
    → kept_numbers (more_numbers_at ended least_header_numbers most_header_numbers rest) ≡ read
    → header_within (min limit largest_index) read ≡ header_of word limit (line text ended)
unfolding header_of
header_found word text rest limit ended read same is h = search (rules, header_kept)

pub no_header_found : (word text rest : List ℕ) (limit : ℕ) (ended : Bool)
    → bytes_eq (before_first ends_word text) word ≡ true → rest ≡ drop (length word) text
    → kept_numbers (more_numbers_at ended least_header_numbers most_header_numbers rest) ≡ None
    → Err kinds.BadHeader ≡ header_of word limit (line text ended)
unfolding header_within
no_header_found word text rest limit ended same is h = header_found word text rest limit ended None same is h

-- Symbol lines are judged by what is kept of their positions as by the positions.

-- the symbol after what is kept of it
record Behind (o : Option Symbol) (k : Symbol) : Type 0 where
  pub position : ℕ
  pub is : o ≡ Some (symbol k.kind position k.name)
  pub kept_is : kept position ≡ k.position

behind : (o : Option Symbol) (k : Symbol) → kept_symbol o ≡ Some k → Behind o k
behind None k h = cc
behind (Some s) k h = search rules

module _ (h : Header) (before : Names) where
  pub no_symbol : (o : Option Symbol) → kept_symbol o ≡ None → checked_symbol h before o ≡ Err kinds.BadSymbol
  unfolding checked_symbol
  no_symbol None e = refl
  no_symbol (Some s) e = cc

  judged : (s : Symbol) (far twice : Bool) → nat_le (count_named h s.kind) s.position ≡ far
      → is_named before s.kind s.position ≡ twice
      → checked_symbol h before (Some s)
      ≡ unless_wrong s (cond far (Some kinds.SymbolRange) (cond twice (Some kinds.SymbolTwice) None))
  unfolding checked_symbol
  judged s far twice f t = rw (f, t) refl

  judged_far : (s : Symbol) → nat_le (count_named h s.kind) s.position ≡ true
      → checked_symbol h before (Some s) ≡ Err kinds.SymbolRange
  unfolding checked_symbol
  judged_far s f = rw f refl

  pub symbol_far : (o : Option Symbol) (kind : Kind) (position : ℕ) (name : List ℕ)
      → kept_symbol o ≡ Some (symbol kind position name) → count_named h kind < 2 ^ 33 → count_named h kind ≤ position
      → checked_symbol h before o ≡ Err kinds.SymbolRange
  symbol_far o kind position name e small far = search (rules, behind, judged_far, le-leb, cases_lt, kept_small)

  near : (o : Option Symbol) (kind : Kind) (position : ℕ) (name : List ℕ)
      → kept_symbol o ≡ Some (symbol kind position name) → count_named h kind < 2 ^ 33 → position < count_named h kind
      → o ≡ Some (symbol kind position name)
  near o kind position name e small close = search (rules, behind, cases_lt, kept_small, kept_large)

  pub symbol_twice : (o : Option Symbol) (kind : Kind) (position : ℕ) (name : List ℕ)
      → kept_symbol o ≡ Some (symbol kind position name) → count_named h kind < 2 ^ 33 → position < count_named h kind
      → is_named before kind position ≡ true → checked_symbol h before o ≡ Err kinds.SymbolTwice
  symbol_twice o kind position name e small close again =
      ap (checked_symbol h before) (near o kind position name e small close)
      ∙ judged (symbol kind position name) false true (lt-leb (count_named h kind) position close) again

  pub symbol_right : (o : Option Symbol) (kind : Kind) (position : ℕ) (name : List ℕ)
      → kept_symbol o ≡ Some (symbol kind position name) → count_named h kind < 2 ^ 33 → position < count_named h kind
      → is_named before kind position ≡ false → checked_symbol h before o ≡ Ok (symbol kind position name)
  symbol_right o kind position name e small close new =
      ap (checked_symbol h before) (near o kind position name e small close)
      ∙ judged (symbol kind position name) false false (lt-leb (count_named h kind) position close) new

  -- a symbol that is right is that of the line
  line_tells : (n : ℕ) (t s : Symbol) (fault : Option FaultKind)
      → at_line n (unless_wrong t fault) ≡ Ok s → t ≡ s
  line_tells n t s None h = cc
  line_tells n t s (Some kind) h = cc

  pub right_is_told : (n : ℕ) (o : Option Symbol) (s : Symbol) → at_line n (checked_symbol h before o) ≡ Ok s
      → o ≡ Some s
  unfolding checked_symbol
  right_is_told n None s r = cc
  right_is_told n (Some t) s r = ap (λ (u : Symbol). Some u) (line_tells n t s (fault_in_symbol h before t) r)

-- a position that is read at once
pub position_read : (text name : List ℕ) (position : ℕ) → position < 2 ^ 33
    → canonical_before 32 text ≡ Some (position, name) → kept_first (position_at text) ≡ Some (position, name)
unfolding position_at
position_read text name position small h =
    ap (λ (t : List ℕ). kept_first (position_at t)) (canonical_reads position 32 text name small h)
    ∙ rw (
    number_is_read (decimal position) (32 ∷ name) position (decimal_is_number position (omega (arith, small))) refl
    )
    (ap (λ (n : ℕ). Some (n, name)) (kept_small position (omega (arith, small))))

-- a line whose position has no zero before its other digits is spelled as the symbol is written
behind_letter : (k : Kind) (rest : List ℕ) → drop 1 (kind_letter k ++ rest) ≡ rest
behind_letter Input rest = refl
behind_letter k rest = refl

pub canonical_line : (text : List ℕ) (s : Symbol) → s.position < 2 ^ 64 → symbol_at text ≡ Some s
    → is_padded (drop 1 text) ≡ false → text ++ 10 ∷ [] ≡ symbol_text s
canonical_line text s small read plain =
    let l : IsSymbolLine (line text true) s = symbol_reads (line text true) text s refl read in
    let behind = ap (drop 1) l.text ∙ behind_letter s.kind (l.digits ++ (32 ∷ s.name)) in
    let digits = digits_are_decimal l.digits (32 ∷ s.name) s.position small l.position (rw behind at plain) in
    ap (λ (t : List ℕ). t ++ 10 ∷ []) l.text
    ∙ ap (λ (d : List ℕ). (kind_letter s.kind ++ (d ++ (32 ∷ s.name))) ++ 10 ∷ []) digits
    ∙ simp append_assoc
