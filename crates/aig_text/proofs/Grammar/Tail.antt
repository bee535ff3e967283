-- A tail that is read tells its symbols and its comment, and the other way round.
use Rattle.std.proofs.Common.{◌≡◌, ◌≢◌, ◌+◌, ◌<◌, ◌∷◌, ◌++◌, ◌∙◌, rules, ℕ, Bool, false, cond, List, [], Option, None}
use Rattle.std.proofs.Common.{Some, Ok, Result, refl, sym, ap, append_assoc, append-nil, inl, inr, arith}
use Rattle.std.specs.List.{AllByRecursion, AllZip}
use Rattle.std.proofs.lemmas.Bool.{leb-false, lt-leb}
use Rattle.std.proofs.lemmas.Grind.{common_steps}
use Rattle.aig_circuit.specs.declared.circuit.Circuit.{Circuit}
use Rattle.aig_circuit.specs.declared.circuit.Symbol.{Symbol}
use Rattle.aig_circuit.specs.Wellformed.{IsAmong, HasGoodSymbols, count_of}
use Rattle.aig_circuit.specs.declared.circuit.Kind.{Kind}
use Rattle.aig_circuit.specs.declared.circuit.Kind.TheVariants.{Input}
use Rattle.aig_circuit.proofs.Checking.{back, front}
use Rattle.aig_core.specs.declared.names.Names.{Names}
use Rattle.aig_core.specs.Names.{is_named, with_name, nothing_named}
use Rattle.aig_lines.specs.Lines.{Line, bytes_of}
use Rattle.aig_lines.specs.Laws.{IsOneLine}
use Rattle.aig_fault.specs.declared.stopped.Stopped.{Stopped}
use Rattle.aig_fault.specs.declared.kind.Kind.TheVariants as kinds
use Rattle.aig_rows.specs.Reading.{◌>>=◌, at_line}
use Rattle.aig_rows.proofs.Steps.{both_ok, ok_at_line, ok_same}
use Rattle.aig_rows.proofs.Grammar.NumberLines.{branches as branch}
use Rattle.aig_rows.proofs.Grammar.Rows.{unless_none}
use Rattle.aig_text.specs.Sections.{Header}
use Rattle.aig_text.specs.Tail.{IsSymbolLine, IsComment, AreTailLines}
use Rattle.aig_text.specs.Scanning.{symbol_at, is_comment_line}
use Rattle.aig_text.specs.Reading.{count_named, checked_symbol, with_comment, with_symbol, tail_at}
use Rattle.aig_text.proofs.Grammar.Symbols.{symbol_reads, symbol_is_read, symbol_is_no_comment, comment_reads}
use Rattle.aig_text.proofs.Grammar.Symbols.{comment_is_read, AreNew, IsPlaced, new_apart, new_placed, apart_new}
use Rattle.aig_text.proofs.Grammar.Headers.{HasCounts, own_header}
use Rattle.aig_text.proofs.Grammar.Sections.{bare}

-- the circuit with these symbols and this comment more
abbrev pub with_tail : Circuit → List Symbol → Option (List ℕ) → Circuit
with_tail c ss comment = record c { symbols = c.symbols ++ ss; comment = comment }

-- lines that tell symbols and a comment
pub record TellsTail (h : Header) (before : Names) (c d : Circuit) (ls : List Line) : Type 0 where
  pub named : List Line
  pub rest : List Line
  pub symbols : List Symbol
  pub comment : Option (List ℕ)
  pub are : ls ≡ named ++ rest
  pub spelled : AllZip IsSymbolLine named symbols
  pub new : AreNew h before symbols
  pub is_comment : IsComment rest comment
  pub circuit : with_tail c symbols comment ≡ d

-- one symbol
abbrev pub IsNew : Header → Names → Symbol → Type 0
IsNew h before s = (s.position < count_named h s.kind) × (is_named before s.kind s.position ≡ false)

by_tests : (far twice : Bool) → cond far (Some kinds.SymbolRange) (cond twice (Some kinds.SymbolTwice) None) ≡ None
    → (far ≡ false) × (twice ≡ false)
by_tests false false h = (refl, refl)
by_tests b d h = cc

pub checked_tells : (h : Header) (before : Names) (o : Option Symbol) (s : Symbol) → checked_symbol h before o ≡ Ok s
    → (o ≡ Some s) × IsNew h before s
unfolding checked_symbol
checked_tells h before None s e = cc
checked_tells h before (Some t) s e = search (rules, unless_none, by_tests, leb-false)

pub new_is_checked : (h : Header) (before : Names) (s : Symbol) → IsNew h before s
    → checked_symbol h before (Some s) ≡ Ok s
unfolding checked_symbol
new_is_checked h before s n = rw (lt-leb (count_named h s.kind) s.position n.0, n.1) refl

-- one line more
more_tail : (h : Header) (before : Names) (c d : Circuit) (l : Line) (ls : List Line) (s : Symbol) → IsSymbolLine l s
    → IsNew h before s → TellsTail h (with_name before s.kind s.position) (with_symbol c s) d ls
    → TellsTail h before c d (l ∷ ls)
more_tail h before c d l ls s line n t = record {
  named = l ∷ t.named;
  rest = t.rest;
  symbols = s ∷ t.symbols;
  comment = t.comment;
  are = ap (λ (ks : List Line). l ∷ ks) t.are;
  spelled = (line, t.spelled);
  new = (n.0, n.1, t.new);
  is_comment = t.is_comment;
  circuit = search (rules, append_assoc);
}

whole_tail : (h : Header) (before : Names) (c : Circuit) (ls : List Line) (comment : Option (List ℕ))
    → IsComment ls comment → TellsTail h before c (record c { comment = comment }) ls
whole_tail h before c ls comment is = record {
  named = [];
  rest = ls;
  symbols = [];
  comment = comment;
  are = refl;
  spelled = tt;
  new = tt;
  is_comment = is;
  circuit = ap (λ (ss : List Symbol). record c { symbols = ss; comment = comment }) (append-nil c.symbols);
}

abbrev then_tail : Header → Names → Circuit → ℕ → List Line → Symbol → Result Circuit Stopped
then_tail h before c n ls s = tail_at h (with_name before s.kind s.position) (with_symbol c s) (n + 1) ls

-- where there is no comment before
pub tail_tells : (h : Header) (before : Names) (c : Circuit) (n : ℕ) (ls : List Line) (d : Circuit) → c.comment ≡ None
    → tail_at h before c n ls ≡ Ok d → TellsTail h before c d ls
unfolding tail_at
tail_tells h before c n [] d none is =
    let same : c ≡ d = ok_same {E = Stopped} c d is in
    let bare : record c { comment = None } ≡ c = ap (λ (o : Option (List ℕ)). record c { comment = o }) (sym none) in
    rw (bare ∙ same) at (whole_tail h before c [] None tt)
tail_tells h before c n (l ∷ ls) d none is =
    elim
    (branch (is_comment_line l) (Ok (with_comment c (bytes_of ls)))
    (at_line n (checked_symbol h before (symbol_at l.text)) >>= then_tail h before c n ls) (Ok d) is) as
    (λ _. TellsTail h before c d (l ∷ ls)) [
      | inl e ↦ search (rules, ok_same, whole_tail, comment_reads)
      | inr e ↦
          let b = both_ok (at_line n (checked_symbol h before (symbol_at l.text))) (then_tail h before c n ls) d e.1 in
          let s =
          checked_tells h before (symbol_at l.text) b.0
          (ok_at_line n (checked_symbol h before (symbol_at l.text)) b.0 b.1) in
          more_tail h before c d l ls b.0 (symbol_reads l l.text b.0 refl s.0) s.1
          (tail_tells h (with_name before b.0.kind b.0.position) (with_symbol c b.0) (n + 1) ls d none b.2)
    ]

-- and lines that hold symbols and a comment are read as them
comment_found : (h : Header) (before : Names) (c : Circuit) (n : ℕ) (ls : List Line) (comment : Option (List ℕ))
    → c.comment ≡ None → IsComment ls comment → tail_at h before c n ls ≡ Ok (record c { comment = comment })
unfolding tail_at
comment_found h before c n [] None none is = ap (λ (o : Option (List ℕ)). Ok (record c { comment = o })) none
comment_found h before c n (l ∷ ls) (Some bytes) none is =
    rw (comment_is_read l is.0) (ap (λ (b : List ℕ). Ok (with_comment c b)) (sym is.1))
comment_found h before c n ls comment none is = absurd is

tail_is_found : (h : Header) (before : Names) (c : Circuit) (n : ℕ) (named rest : List Line) (ss : List Symbol)
    (comment : Option (List ℕ)) → c.comment ≡ None → AllZip IsSymbolLine named ss → AreNew h before ss → IsComment
    rest comment
    → tail_at h before c n (named ++ rest) ≡ Ok (with_tail c ss comment)
unfolding tail_at
tail_is_found h before c n [] rest [] comment none z new is = search (rules, comment_found, append-nil)
tail_is_found h before c n (l ∷ ls) rest (s ∷ ss) comment none z new is =
    rw (symbol_is_no_comment l s z.0, symbol_is_read l s z.0, new_is_checked h before s (new.0, new.1))
    (tail_is_found h (with_name before s.kind s.position) (with_symbol c s) (n + 1) ls rest ss comment none z.1 new.2 is
    ∙ ap (λ (ts : List Symbol). Ok (record c { symbols = ts; comment = comment })) (append_assoc c.symbols (s ∷ []) ss))
tail_is_found h before c n ls rest ss comment none z new is = absurd z

-- a name stands in one line, as the line does
none_among : (xs : List ℕ) → AllByRecursion (λ b. b ≢ 10) xs → ¬ IsAmong 10 xs
none_among [] h = λ a. a
none_among (x ∷ xs) h = λ a. elim a as (λ _. ⊥) [ inl e ↦ h.0 (sym e) | inr r ↦ none_among xs h.1 r ]

name_in_line : (l : Line) (s : Symbol) → IsSymbolLine l s → AllByRecursion (λ b. b ≢ 10) l.text → ¬ IsAmong 10 s.name
name_in_line l s h one = search (rules, none_among, back)

names_in_lines : (named : List Line) (ss : List Symbol) → AllZip IsSymbolLine named ss
    → AllByRecursion IsOneLine named → AllByRecursion (λ (s : Symbol). ¬ IsAmong 10 s.name) ss
names_in_lines [] [] z one = tt
names_in_lines (l ∷ ls) (s ∷ ss) z one = (name_in_line l s z.0 one.0, names_in_lines ls ss z.1 one.1)
names_in_lines ls ss z one = absurd z

-- The tail of a circuit: what it tells besides, and how it is read again.

-- as many things as the header tells may be named
count_is : (h : Header) (c : Circuit) → HasCounts h c → (k : Kind) → count_named h k ≡ count_of c k
count_is h c e Input = cc
count_is h c e k = cc

placed : (h : Header) (c : Circuit) → HasCounts h c → (ss : List Symbol) → AllByRecursion (IsPlaced h) ss
    → AllByRecursion (λ (s : Symbol). s.position < count_of c s.kind) ss
placed h c e [] p = tt
placed h c e (s ∷ ss) p = (rw (count_is h c e s.kind) at p.0, placed h c e ss p.1)

-- lines that tell the tail of a circuit that had none
module _ (h : Header) (before : Names) (c d : Circuit) (ls : List Line) (t : TellsTail h before c d ls)
    (none : c.symbols ≡ []) where
  pub tail_holds : AreTailLines ls d
  tail_holds = search rules

-- the symbols that lines tell are good
pub good_symbols : (h : Header) (c d : Circuit) (ls : List Line) → TellsTail h nothing_named c d ls → c.symbols ≡ []
    → HasCounts h d → AllByRecursion IsOneLine ls → HasGoodSymbols d
good_symbols h c d ls t none counts one =
    grind (arith, common_steps, front, placed, new_placed, new_apart, names_in_lines)

own_count : (limit : ℕ) (c : Circuit) (k : Kind) → count_of c k ≡ count_named (own_header limit c) k
own_count limit c Input = refl
own_count limit c k = refl

own_placed : (limit : ℕ) (c : Circuit) (ss : List Symbol)
    → AllByRecursion (λ (s : Symbol). s.position < count_of c s.kind) ss
    → AllByRecursion (IsPlaced (own_header limit c)) ss
own_placed limit c [] p = tt
own_placed limit c (s ∷ ss) p =
    (rw (own_count limit c s.kind) at p.0, own_placed limit c ss p.1)

-- the tail of a circuit with good symbols is read as it
pub own_tail : (limit : ℕ) (c : Circuit) (n : ℕ) (ls : List Line) → HasGoodSymbols c → AreTailLines ls c
    → tail_at (own_header limit c) nothing_named (bare c) n ls ≡ Ok c
own_tail limit c n ls good a =
    ap (tail_at (own_header limit c) nothing_named (bare c) n) a.are
    ∙ tail_is_found (own_header limit c) nothing_named (bare c) n a.named a.rest c.symbols c.comment refl a.symbols
    (apart_new (own_header limit c) c.symbols (own_placed limit c c.symbols good.positions) good.apart) a.comment
