-- What is kept of a number answers each question that is asked of it.
use Rattle.std.proofs.Common.{◌≡◌, ◌<◌, ◌≤◌, ◌+◌, ◌-◌, ◌%◌, ◌^◌, ◌&&◌, ◌∙◌, ◌++◌, ◌∷◌, rules, ℕ, List, Bool, true}
use Rattle.std.proofs.Common.{false, eqb, zero, map, take, drop, length, get_or, refl, sym, ap, arith, Option, Some}
use Rattle.std.proofs.Common.{None, [], suc, append_assoc, lt-ltb, le-ltb, eqb-true, take-append-drop, drop-set-lt}
use Rattle.std.proofs.Common.{drop-drop, set, length-set}
use Rattle.std.specs.List.{prefix_len}
use Rattle.std.proofs.lemmas.Bool.{and_parts}
use Rattle.std.proofs.lemmas.List.Sums.{prefix_len_is}
use Rattle.std.proofs.lemmas.List.{take_more_set, drop-replicate}
use Rattle.aig_rows.specs.Spelling.{is_digit, zeros}
use Rattle.aig_rows.specs.Scanning.{◌>>=◌, after_gap, number_at, more_numbers_at, is_line_end}
use Rattle.aig_rows.specs.Kept.{kept, kept_numbers, kept_first}

pub kept_small : (n : ℕ) → n < 2 ^ 36 → kept n ≡ n
kept_small n h = rw (lt-ltb n (2 ^ 36) h) refl

pub kept_large : (n : ℕ) → 2 ^ 36 ≤ n → kept n ≡ 2 ^ 36 + n % 2
kept_large n h = rw (le-ltb n (2 ^ 36) h) refl

-- as many digits stand at the front as come before the first byte that is none
pub digits_end : (bytes : List ℕ) (i : ℕ) → i ≤ length bytes → ((k : ℕ) → k < i → is_digit (get_or bytes k 0) ≡ true)
    → (i < length bytes → is_digit (get_or bytes i 0) ≡ false) → i ≡ prefix_len is_digit bytes
digits_end bytes i within before here = sym (prefix_len_is is_digit bytes i 0 within before here)

-- numbers with others before them
abbrev pub put_before : List ℕ → Option (List ℕ) → Option (List ℕ)
put_before front None = None
put_before front (Some ns) = Some (front ++ ns)

put_one : (front : List ℕ) (n : ℕ) (r : Option (List ℕ))
    → put_before (front ++ n ∷ []) r ≡ put_before front (put_before (n ∷ []) r)
put_one front n None = refl
put_one front n (Some ns) = ap (λ (xs : List ℕ). Some xs) (append_assoc front (n ∷ []) ns)

-- the number after what is kept of it
abbrev pub Behind : ℕ → List ℕ → Option (ℕ × List ℕ) → Type 0
Behind value after read = (n : ℕ) × (read ≡ Some (n, after)) × (kept n ≡ value)

pub behind : (read : Option (ℕ × List ℕ)) (value : ℕ) (after : List ℕ) → kept_first read ≡ Some (value, after)
    → Behind value after read
behind None value after h = cc
behind (Some x) value after h = search rules

kept_more : (n : ℕ) (r : Option (List ℕ))
    → kept_numbers (r >>= λ others. Some (n ∷ others)) ≡ put_before (kept n ∷ []) (kept_numbers r)
kept_more n None = refl
kept_more n (Some ns) = refl

-- a test of the end of a line, where numbers may be left out
module _ (ended : Bool) (least : ℕ) where
  abbrev may_end : List ℕ → Bool
  may_end bytes = eqb least 0 && is_line_end ended bytes

  numbers_one : (k j : ℕ) (bytes digits after : List ℕ) (n : ℕ) → k ≡ suc j → may_end bytes ≡ false
      → after_gap bytes ≡ Some digits → number_at digits ≡ Some (n, after)
      → put_before (kept n ∷ []) (kept_numbers (more_numbers_at ended (least - 1) j after))
      ≡ kept_numbers (more_numbers_at ended least k bytes)
  unfolding more_numbers_at
  numbers_one k j bytes digits after n e goes gap h =
      rw (e, goes, gap, h) (sym (kept_more n (more_numbers_at ended (least - 1) j after)))

  -- one more number
  pub numbers_more : (k j : ℕ) (front bytes digits after : List ℕ) (value : ℕ) → k ≡ suc j → may_end bytes ≡ false
      → after_gap bytes ≡ Some digits → kept_first (number_at digits) ≡ Some (value, after)
      → put_before (front ++ value ∷ []) (kept_numbers (more_numbers_at ended (least - 1) j after))
      ≡ put_before front (kept_numbers (more_numbers_at ended least k bytes))
  numbers_more k j front bytes digits after value e goes gap h = search (rules, behind, put_one, numbers_one)

kept-zeros : (count : ℕ) → map kept (zeros count) ≡ zeros count
kept-zeros zero = refl
kept-zeros (suc count) = ap (λ (ns : List ℕ). 0 ∷ ns) (kept-zeros count)

left_out_at : (ended : Bool) (count : ℕ) (bytes : List ℕ) → is_line_end ended bytes ≡ true
    → more_numbers_at ended 0 count bytes ≡ Some (zeros count)
unfolding more_numbers_at
left_out_at ended zero bytes h = rw h refl
left_out_at ended (suc count) bytes h = rw h refl

-- the numbers that are stored, and zeros at the places of the others
pub record AreStored (ended : Bool) (least n i : ℕ) (items bytes : List ℕ) (whole : Option (List ℕ)) : Type 0 where
  pub long : length items ≡ n
  pub empty : drop i items ≡ zeros (n - i)
  pub are : put_before (take i items) (kept_numbers (more_numbers_at ended (least - i) (n - i) bytes)) ≡ whole

pub still_empty : (n i : ℕ) (items : List ℕ) (value : ℕ) → drop i items ≡ zeros (n - i)
    → drop (i + 1) (set items i value) ≡ zeros (n - (i + 1))
still_empty n i items value h =
    let left : n - (i + 1) ≡ n - i - 1 = omega arith in
    let others : drop 1 (zeros (n - i)) ≡ zeros (n - i - 1) = drop-replicate 1 (n - i) 0 in
    rw (drop-set-lt (i + 1) items i value (omega arith) ∙ sym (drop-drop 1 i items), h, others, left) refl

-- one more number is stored at its place
pub stored_more : (ended : Bool) (least n i : ℕ) (items bytes digits after : List ℕ) (value : ℕ)
    (whole : Option (List ℕ)) → i < n → AreStored ended least n i items bytes whole
    → (eqb (least - i) 0 && is_line_end ended bytes) ≡ false → after_gap bytes ≡ Some digits
    → kept_first (number_at digits) ≡ Some (value, after)
    → AreStored ended least n (i + 1) (set items i value) after whole
stored_more ended least n i items bytes digits after value whole l s goes gap h =
    let inside : i < length items = let e : length items ≡ n = s.long in omega arith in
    let less : least - (i + 1) ≡ least - i - 1 = omega arith in
    record {
      long = length-set _ _ _ ∙ s.long;
      empty = still_empty n i items value s.empty;
      are =
          ap (λ front. put_before front (kept_numbers (more_numbers_at ended (least - (i + 1)) (n - (i + 1)) after)))
          (take_more_set items i value inside)
          ∙ rw less
          (numbers_more ended (least - i) (n - i) (n - (i + 1)) (take i items) bytes digits after value
          (omega arith) goes gap h) ∙ s.are;
    }

-- no more numbers stand there
pub stored_all : (ended : Bool) (least n i : ℕ) (items bytes : List ℕ) (whole : Option (List ℕ))
    → AreStored ended least n i items bytes whole → (eqb (least - i) 0 && is_line_end ended bytes) ≡ true
    → whole ≡ Some items
stored_all ended least n i items bytes whole s ends =
    search (rules, and_parts, eqb-true, take-append-drop, left_out_at, kept-zeros)
