-- Statements that are put one after the other.
use Rattle.std.proofs.Common.{◌≡◌, ◌↔◌, ◌%◌, ◌==◌, ◌+◌, ◌<◌, ◌++◌, ◌∙◌, ℕ, List, Bool}
use Rattle.std.proofs.Common.{IsTrue, length}
use Rattle.std.proofs.Common.{take, get_or, sym, ap, arith, subst, take_all, zero-add}
use Rattle.std.specs.List.{enumerate_from, flat_map, range_with_len}
use Rattle.std.proofs.lemmas.Grind.{common_steps, flat_map-append}
use Rattle.std.proofs.lemmas.List.FromFn.{get_or-enumerate_from, get_or-range_with_len, length-enumerate_from}
use Rattle.std.proofs.lemmas.List.FromFn.{length-range_with_len}
use Rattle.aig_io.specs.Output.{Appended, Out}
use Rattle.aig_io.proofs.Puts.{put_twice}
use Rattle.aig_dot.specs.Dot.{statement_text, statements_text}
use Rattle.aig_dot.specs.Graph.{Statement}

-- a test tells what a fact says
pub is_test : (b : Bool) (n : ℕ) → (IsTrue b ↔ (n % 2 ≡ 1)) → b ≡ (n % 2 == 1)
is_test b n tells = grind (arith, common_steps)

-- the statements of one entry more
statements_of_more : {X : Type 0} (f : X → List Statement) (xs : List X) (i : ℕ) (d : X) → i < length xs
    → flat_map f (take i xs) ++ f (get_or xs i d) ≡ flat_map f (take (i + 1) xs)
statements_of_more f xs i d below = grind (arith, common_steps)

-- those of all entries, each with its position
pub all_entries : {X : Type 0} (f : ℕ × X → List Statement) (xs : List X) (i : ℕ) → i ≡ length xs
    → flat_map f (take i (enumerate_from 0 xs)) ≡ flat_map f (enumerate_from 0 xs)
all_entries f xs i end = ap (flat_map f) (take_all i (enumerate_from 0 xs) (omega (arith, length-enumerate_from 0 xs)))

pub all_positions : (f : ℕ → List Statement) (n i : ℕ) → i ≡ n
    → flat_map f (take i (range_with_len 0 n)) ≡ flat_map f (range_with_len 0 n)
all_positions f n i end = ap (flat_map f) (take_all i (range_with_len 0 n) (omega (arith, length-range_with_len 0 n)))

module _ {W : Type 0} where
  -- statements before others
  pub put_both : (a b c : Out W) (xs ys : List Statement) → Appended a b (statements_text xs)
      → Appended b c (statements_text ys) → Appended a c (statements_text (xs ++ ys))
  put_both a b c xs ys p q = rw (flat_map-append statement_text xs ys) (put_twice _ _ _ _ _ p q)

  -- those of one entry more
  pub put_entry : {X : Type 0} (f : X → List Statement) (xs : List X) (i : ℕ) (d x : X) (a b c : Out W)
      → x ≡ get_or xs i d → i < length xs → Appended a b (statements_text (flat_map f (take i xs)))
      → Appended b c (statements_text (f x)) → Appended a c (statements_text (flat_map f (take (i + 1) xs)))
  put_entry f xs i d x a b c is below p q =
      subst (λ (list : List Statement). Appended a c (statements_text list)) (statements_of_more f xs i d below)
      (put_both a b c (flat_map f (take i xs)) (f (get_or xs i d)) p
      (subst (λ y. Appended b c (statements_text (f y))) is q))

  pub put_next_entry : {X : Type 0} (f : ℕ × X → List Statement) (xs : List X) (i : ℕ) (d x : X) (a b c : Out W)
      → x ≡ get_or xs i d → i < length xs
      → Appended a b (statements_text (flat_map f (take i (enumerate_from 0 xs))))
      → Appended b c (statements_text (f (i, x)))
      → Appended a c (statements_text (flat_map f (take (i + 1) (enumerate_from 0 xs))))
  put_next_entry f xs i d x a b c is below p q =
      put_entry f (enumerate_from 0 xs) i (0, d) (i, x) a b c
      (ap (λ y. (i, y)) is ∙ ap (λ n. (n, get_or xs i d)) (sym (zero-add i))
      ∙ sym (get_or-enumerate_from 0 xs i (0, d) below))
      (omega (arith, length-enumerate_from 0 xs)) p q

  pub put_next_position : (f : ℕ → List Statement) (n i : ℕ) (a b c : Out W) → i < n
      → Appended a b (statements_text (flat_map f (take i (range_with_len 0 n))))
      → Appended b c (statements_text (f i))
      → Appended a c (statements_text (flat_map f (take (i + 1) (range_with_len 0 n))))
  put_next_position f n i a b c below p q =
      put_entry f (range_with_len 0 n) i 0 i a b c (sym (zero-add i) ∙ sym (get_or-range_with_len 0 n i 0 below))
      (omega (arith, length-range_with_len 0 n)) p q
