-- Rows that words tell, and the other way round.
use Rattle.std.proofs.Common.{◌≡◌, ◌≤◌, ◌∷◌, ◌++◌, ◌∙◌, ◌+◌, ℕ, zero, suc, List, [], length, get_or, take, drop}
use Rattle.std.proofs.Common.{Result, Ok, Err, refl, ap, sym, arith, ltb, ltb-false, le-ltb, subst, append_assoc}
use Rattle.std.proofs.Common.{take-append-drop}
use Rattle.std.specs.List.{concat}
use Rattle.std.proofs.Math.Seq.{take-append_seam, drop-append_seam}
use Rattle.std.proofs.lemmas.List.{length-append, length-take-le}
use Rattle.std.proofs.lemmas.Slice.Zip.{AllZip-long}
use Rattle.aig_fault.specs.declared.kind.Kind.{Kind}
use Rattle.aig_rows.specs.Rows.{Form, roles_of}
use Rattle.aig_rows.specs.Reading.{◌>>=◌, fault_in_row, own_literal, unless_wrong}
use Rattle.aig_rows.proofs.Kept.Checks.{right_parts}
use Rattle.aig_rows.proofs.Grammar.Entries.{AreGoodRows, IsGoodRow, MayStand}
use Rattle.aig_rows.proofs.Grammar.Rows.{all_may_stand, carried_behind, none_wrong, unless_none}
use Rattle.aig_rows.proofs.Steps.{both_ok, ok_same, passed}
use Rattle.aig_arrays.specs.Decoded.{Ahead, at_word, behind, row_decoded, rows_decoded, width, words_decoded}
use Rattle.aig_fault.specs.declared.stopped.Stopped.{Stopped}
use Rattle.aig_arrays.specs.Decoded.{bad_counts, bad_entry}

-- the words that are ahead after so many others
abbrev pub ahead : ℕ → List ℕ → Ahead
ahead at words = record { at = at; words = words }

ok_at_word : {A : Type 0} (n : ℕ) (r : Result A Kind) (x : A) → at_word n r ≡ Ok x → r ≡ Ok x
ok_at_word n (Ok y) x h = cc
ok_at_word n (Err e) x h = cc

-- so many words are there and tell something, and what is ahead is after them
pub record IsDecodedFirst {A : Type 0} (count : ℕ) (tell : List ℕ → Result A Kind) (a : Ahead)
    (p : A × Ahead) : Type 0 where
  pub first : List ℕ
  pub words : a.words ≡ first ++ p.1.words
  pub counted : length first ≡ count
  pub tells : tell first ≡ Ok p.0

abbrev with_behind : {A : Type 0} → ℕ → Ahead → A → Result (A × Ahead) Stopped
with_behind count a found = Ok (found, behind count a)

pub first_decoded : {A : Type 0} (count : ℕ) (tell : List ℕ → Result A Kind) (a : Ahead) (p : A × Ahead)
    → words_decoded count tell a ≡ Ok p → IsDecodedFirst count tell a p
first_decoded {A} count tell a p h =
    let first = take count a.words in
    let t = passed (ltb (length a.words) count) bad_counts (at_word a.at (tell first) >>= with_behind count a) p h in
    let b = both_ok (at_word a.at (tell first)) (with_behind count a) p t.1 in
    let same : (b.0, behind count a) ≡ p = ok_same {E = Stopped} (b.0, behind count a) p b.2 in
    subst (IsDecodedFirst count tell a) same (record {
      first = first;
      words = sym (take-append-drop count a.words);
      counted = length-take-le count a.words (ltb-false (length a.words) count t.0);
      tells = ok_at_word a.at (tell first) b.0 b.1;
    })

-- and such words are decoded, or refused
module _ {A : Type 0} (count : ℕ) (tell : List ℕ → Result A Kind) (at : ℕ) (first rest : List ℕ) where
  there : length first ≡ count
      → words_decoded count tell (ahead at (first ++ rest))
      ≡ ◌>>=◌ {B = A × Ahead} (at_word at (tell first)) (λ found. Ok (found, ahead (at + count) rest))
  there long =
      let enough : count ≤ length (first ++ rest) = omega (arith, long, length-append first rest) in
      let front : take count (first ++ rest) ≡ first =
      ap (λ (n : ℕ). take n (first ++ rest)) (sym long) ∙ take-append_seam first rest in
      let back : drop count (first ++ rest) ≡ rest =
      ap (λ (n : ℕ). drop n (first ++ rest)) (sym long) ∙ drop-append_seam first rest in
      rw (le-ltb (length (first ++ rest)) count enough, front, back) refl

  pub tells_first : (x : A) → length first ≡ count → tell first ≡ Ok x
      → words_decoded count tell (ahead at (first ++ rest)) ≡ Ok (x, ahead (at + count) rest)
  tells_first x long h =
      there long
      ∙ ap (λ (r : Result A Kind).
      ◌>>=◌ {B = A × Ahead} (at_word at r) (λ found. Ok (found, ahead (at + count) rest)))
      h

  pub wrong_first : (kind : Kind) → length first ≡ count → tell first ≡ Err kind
      → words_decoded count tell (ahead at (first ++ rest)) ≡ Err (bad_entry at kind)
  wrong_first kind long h =
      there long
      ∙ ap (λ (r : Result A Kind).
      ◌>>=◌ {B = A × Ahead} (at_word at r) (λ found. Ok (found, ahead (at + count) rest)))
      h

-- one row
record IsRowFirst (form : Form) (bound carried : ℕ) (a : Ahead) (p : List ℕ × Ahead) : Type 0 where
  pub words : a.words ≡ p.0 ++ p.1.words
  pub good : IsGoodRow form bound carried p.0

row_found : (form : Form) (bound carried : ℕ) (a : Ahead) (p : List ℕ × Ahead) → row_decoded form bound carried a ≡ Ok p
    → IsRowFirst form bound carried a p
row_found form bound carried a p h =
    let t = first_decoded (width form) (λ row. unless_wrong row (fault_in_row form bound carried row)) a p h in
    let u = unless_none t.first p.0 (fault_in_row form bound carried t.first) t.tells in
    let good =
    all_may_stand bound carried (own_literal form.first carried (get_or t.first 0 0)) (roles_of form) t.first t.counted
    (right_parts form bound carried t.first u.0) in
    record {
      words = t.words ∙ ap (λ (ns : List ℕ). ns ++ p.1.words) u.1;
      good = subst (λ (ns : List ℕ). IsGoodRow form bound carried ns) u.1 good;
    }

-- a row that may stand has no fault
good_is_decoded : (form : Form) (bound carried at : ℕ) (ns rest : List ℕ) → IsGoodRow form bound carried ns
    → row_decoded form bound carried (ahead at (ns ++ rest)) ≡ Ok (ns, ahead (at + width form) rest)
good_is_decoded form bound carried at ns rest g =
    let own = own_literal form.first carried (get_or ns 0 0) in
    let right = none_wrong bound carried own (roles_of form) ns g in
    let none : unless_wrong ns (fault_in_row form bound carried ns) ≡ Ok ns =
    rw (right.defined, right.within, right.reset, right.sized) refl in
    tells_first (width form) (λ row. unless_wrong row (fault_in_row form bound carried row)) at ns rest ns
    (AllZip-long (MayStand bound carried own) (roles_of form) ns g) none

-- words that are so many rows, and others
pub record AreRowsFirst (form : Form) (bound carried count : ℕ) (words : List ℕ) (rows : List (List ℕ))
    (rest : List ℕ) : Type 0 where
  pub are : words ≡ concat rows ++ rest
  pub good : AreGoodRows form bound carried rows
  pub counted : length rows ≡ count

abbrev pub with_first : List ℕ → List (List ℕ) × Ahead → Result (List (List ℕ) × Ahead) Stopped
with_first first others = Ok (first ∷ others.0, others.1)

abbrev then_rows : Form → ℕ → ℕ → ℕ → List ℕ × Ahead → Result (List (List ℕ) × Ahead) Stopped
then_rows form bound carried count first =
    rows_decoded form bound (carried_behind form carried first.0) count first.1 >>= with_first first.0

pub rows_found : (form : Form) (bound carried count : ℕ) (a : Ahead) (p : List (List ℕ) × Ahead)
    → rows_decoded form bound carried count a ≡ Ok p → AreRowsFirst form bound carried count a.words p.0 p.1.words
unfolding rows_decoded
rows_found form bound carried zero a p h =
    subst (λ (q : List (List ℕ) × Ahead). AreRowsFirst form bound carried zero a.words q.0 q.1.words)
    (ok_same {E = Stopped} ([], a) p h) (record { are = refl; good = tt; counted = refl })
rows_found form bound carried (suc count) a p h =
    let f = both_ok (row_decoded form bound carried a) (then_rows form bound carried count) p h in
    let r = row_found form bound carried a f.0 f.1 in
    let next : ℕ = carried_behind form carried f.0.0 in
    let o = both_ok (rows_decoded form bound next count f.0.1) (with_first f.0.0) p f.2 in
    let others = rows_found form bound next count f.0.1 o.0 o.1 in
    subst (λ (q : List (List ℕ) × Ahead). AreRowsFirst form bound carried (suc count) a.words q.0 q.1.words)
    (ok_same {E = Stopped} (f.0.0 ∷ o.0.0, o.0.1) p o.2)
    (record {
      are =
          r.words ∙ ap (λ (ns : List ℕ). f.0.0 ++ ns) others.are
          ∙ sym (append_assoc f.0.0 (concat o.0.0) o.0.1.words);
      good = (r.good, others.good);
      counted = ap suc others.counted;
    })

-- and such words are decoded as the rows
pub rows_are_decoded : (form : Form) (bound carried at : ℕ) (rest : List ℕ) (rows : List (List ℕ))
    → AreGoodRows form bound carried rows
    → (k : ℕ)
    × (rows_decoded form bound carried (length rows) (ahead at (concat rows ++ rest)) ≡ Ok (rows, ahead k rest))
unfolding rows_decoded
rows_are_decoded form bound carried at rest [] g = (at, refl)
rows_are_decoded form bound carried at rest (ns ∷ rows) g =
    let o =
    rows_are_decoded form bound (carried_behind form carried ns) (at + width form) rest rows g.1 in (
      o.0,
      rw (
        append_assoc ns (concat rows) rest,
        good_is_decoded form bound carried at ns (concat rows ++ rest) g.0,
        o.1,
      ) refl,
    )
