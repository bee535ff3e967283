-- How a number, a gap and the end of a line are spelled and how they are read: each follows from the other.
use Rattle.std.proofs.Common.{◌≡◌, ◌+◌, ◌<◌, ◌≤◌, ◌∷◌, ◌++◌, ◌∙◌, ◌&&◌, ◌||◌, ◌⊎◌, rules, ℕ, suc, Bool, true, false}
use Rattle.std.proofs.Common.{cond, List, [], length, take, drop, None, Some, refl, sym, ap, subst, arith, eqb, inl}
use Rattle.std.proofs.Common.{inr, append_assoc, append-nil, take-append-drop, length-take-le, eqb-true, ne_eqb}
use Rattle.std.proofs.Common.{leb-true, slice_index, nat_le}
use Rattle.std.specs.List.{AllByRecursion, prefix_len}
use Rattle.std.proofs.Math.Seq.{take-append_seam, drop-append_seam}
use Rattle.std.proofs.lemmas.List.Sums.{prefix_len-le-length}
use Rattle.std.proofs.lemmas.Bool.{eqb-false, and_parts, or_cases}
use Rattle.aig_rows.specs.Spelling.{is_digit, is_space, IsNumber, AreSpaces, IsGap, IsLineEnd, AreMoreNumbers}
use Rattle.aig_rows.specs.Scanning.{number_at, after_gap, is_line_end}

-- what stands here does not begin with an element that passes
abbrev pub StopsAt : (ℕ → Bool) → List ℕ → Type 0
StopsAt p [] = Unit {0}
StopsAt p (b ∷ bs) = p b ≡ false

pub one_more : (n : ℕ) → 1 + n ≡ suc n
one_more n = omega arith

-- the elements at the front that pass do so, and are as many as stand before one that does not
pub front_passes : (p : ℕ → Bool) (bs : List ℕ) → AllByRecursion (λ b. p b ≡ true) (take (prefix_len p bs) bs)
front_passes p [] = tt
front_passes p (b ∷ bs) =
    elim (p b) as (λ t. p b ≡ t → AllByRecursion (λ b. p b ≡ true) (take (cond t (1 + prefix_len p bs) 0) (b ∷ bs))) [
      | true ↦ λ e. rw one_more (e, front_passes p bs)
      | false ↦ λ _. tt
    ] refl

front_len : (p : ℕ → Bool) (text rest : List ℕ) → AllByRecursion (λ b. p b ≡ true) text → StopsAt p rest
    → prefix_len p (text ++ rest) ≡ length text
front_len p [] [] h n = refl
front_len p [] (b ∷ bs) h n = rw n refl
front_len p (b ∷ bs) rest h n = rw h.0 (one_more (prefix_len p (bs ++ rest)) ∙ ap suc (front_len p bs rest h.1 n))

guard_some : {X : Type 0} (t : Bool) (x y : X) → cond t None (Some x) ≡ Some y → (t ≡ false) × (x ≡ y)
guard_some true x y h = cc
guard_some false x y h = (refl, cc)

some_cond : {X : Type 0} (t : Bool) (x : X) → t ≡ false → cond t None (Some x) ≡ Some x
some_cond true x h = cc
some_cond false x h = refl

front_is_long : (p : ℕ → Bool) (bs : List ℕ) → eqb (prefix_len p bs) 0 ≡ false → 0 < length (take (prefix_len p bs) bs)
front_is_long p bs h = search (rules, length-take-le, prefix_len-le-length, eqb-false)

cut_at_front : (p : ℕ → Bool) (bs rest : List ℕ) → drop (prefix_len p bs) bs ≡ rest
    → bs ≡ take (prefix_len p bs) bs ++ rest
cut_at_front p bs rest h =
    sym (take-append-drop (prefix_len p bs) bs) ∙ ap (λ (r : List ℕ). take (prefix_len p bs) bs ++ r) h

-- one number
pub number_reads : (bytes rest : List ℕ) (n : ℕ) → number_at bytes ≡ Some (n, rest)
    → (digits : List ℕ) × (bytes ≡ digits ++ rest) × IsNumber digits n
unfolding number_at
number_reads bytes rest n h = search (rules, guard_some, cut_at_front, front_is_long, front_passes)

pub number_is_read : (digits rest : List ℕ) (n : ℕ) → IsNumber digits n → StopsAt is_digit rest
    → number_at (digits ++ rest) ≡ Some (n, rest)
unfolding number_at
number_is_read digits rest n h follows =
    search (rules, front_len, take-append_seam, drop-append_seam, some_cond, ne_eqb)

-- one gap
pub gap_reads : (bytes rest : List ℕ) → after_gap bytes ≡ Some rest → (gap : List ℕ) × (bytes ≡ gap ++ rest) × IsGap gap
unfolding after_gap
gap_reads bytes rest h =
    let k : ℕ = prefix_len is_space bytes in
    let g : (eqb k 0 ≡ false) × (drop k bytes ≡ rest) = guard_some _ _ _ h in (
      take k bytes,
      cut_at_front is_space bytes rest g.1,
      (front_is_long is_space bytes g.0, front_passes is_space bytes),
    )

pub gap_is_read : (gap rest : List ℕ) → IsGap gap → StopsAt is_space rest → after_gap (gap ++ rest) ≡ Some rest
unfolding after_gap
gap_is_read gap rest h follows = search (rules, front_len, drop-append_seam, some_cond, ne_eqb)

-- the end of a line
no_bytes : (xs : List ℕ) → eqb (length xs) 0 ≡ true → xs ≡ []
no_bytes [] h = refl
no_bytes (x ∷ xs) h = let e : length (x ∷ xs) ≡ 0 = eqb-true _ _ h in absurd (omega arith)

one_byte : (xs : List ℕ) (b : ℕ) → (eqb (length xs) 1 && eqb (slice_index xs 0) b) ≡ true → xs ≡ b ∷ []
one_byte [] b h = cc
one_byte (x ∷ []) b h = ap (λ (y : ℕ). y ∷ []) (eqb-true x b (and_parts (eqb (length (x ∷ [])) 1) (eqb x b) h).1)
one_byte (x ∷ y ∷ xs) b h = let e : length (x ∷ y ∷ xs) ≡ 1 = eqb-true _ _ (and_parts _ _ h).0 in absurd (omega arith)

no_and : (a b : Bool) → (a && (b && false)) ≡ false
no_and true true = refl
no_and b d = refl

-- what may follow the spaces at the end of a line
abbrev IsRest : Bool → List ℕ → Type 0
IsRest ended rest = (rest ≡ []) ⊎ ((ended ≡ true) × (rest ≡ 13 ∷ []))

abbrev is_rest : Bool → List ℕ → Bool
is_rest ended rest = eqb (length rest) 0 || (ended && (eqb (length rest) 1 && eqb (slice_index rest 0) 13))

rest_from_test : (ended : Bool) (rest : List ℕ) → is_rest ended rest ≡ true → IsRest ended rest
rest_from_test ended rest h = search (rules, or_cases, no_bytes, and_parts, one_byte)

test_from_rest : (ended : Bool) (rest : List ℕ) → IsRest ended rest → is_rest ended rest ≡ true
test_from_rest ended rest (inl e) = rw e refl
test_from_rest ended rest (inr e) = rw (e.1, e.0) refl

rest_begins : (p : ℕ → Bool) → p 13 ≡ false → (ended : Bool) (rest : List ℕ) → IsRest ended rest → StopsAt p rest
rest_begins p h ended rest (inl e) = subst (StopsAt p) (sym e) tt
rest_begins p h ended rest (inr e) = subst (StopsAt p) (sym e.1) h

-- an ending is spaces and such a rest
end_from_parts : (ended : Bool) (spaces rest : List ℕ) → AreSpaces spaces → IsRest ended rest
    → IsLineEnd ended (spaces ++ rest)
end_from_parts ended spaces rest h (inl e) = (spaces, h, inl (ap (λ (r : List ℕ). spaces ++ r) e ∙ append-nil spaces))
end_from_parts ended spaces rest h (inr e) = (spaces, h, inr (e.0, ap (λ (r : List ℕ). spaces ++ r) e.1))

abbrev HasParts : Bool → List ℕ → Type 0
HasParts ended bytes =
    (spaces : List ℕ) × (rest : List ℕ) × (bytes ≡ spaces ++ rest) × AreSpaces spaces × IsRest ended rest

parts_of_end : (ended : Bool) (bytes : List ℕ) → IsLineEnd ended bytes → HasParts ended bytes
parts_of_end ended bytes h = search (rules, append-nil)

pub end_reads : (ended : Bool) (bytes : List ℕ) → is_line_end ended bytes ≡ true → IsLineEnd ended bytes
unfolding is_line_end
end_reads ended bytes h =
    let k : ℕ = prefix_len is_space bytes in
    subst (IsLineEnd ended) (take-append-drop k bytes)
    (end_from_parts ended (take k bytes) (drop k bytes) (front_passes is_space bytes)
    (rest_from_test ended (drop k bytes) h))

end_at : (ended : Bool) (spaces rest : List ℕ) → AreSpaces spaces → IsRest ended rest
    → is_line_end ended (spaces ++ rest) ≡ true
unfolding is_line_end
end_at ended spaces rest h e = search (rules, front_len, rest_begins, drop-append_seam, test_from_rest)

pub end_is_read : (ended : Bool) (bytes : List ℕ) → IsLineEnd ended bytes → is_line_end ended bytes ≡ true
end_is_read ended bytes h =
    let parts : HasParts ended bytes = parts_of_end ended bytes h in
    rw parts.2 (end_at ended parts.0 parts.1 parts.3 parts.4)

-- what numbers, gaps and endings begin with
space_is_no_digit : (b : ℕ) → is_space b ≡ true → is_digit b ≡ false
space_is_no_digit b h = rw (eqb-true b 32 h) refl

digit_is_no_space : (b : ℕ) → is_digit b ≡ true → is_space b ≡ false
digit_is_no_space b h =
    let low : 48 ≤ b = leb-true 48 b (and_parts (nat_le 48 b) (nat_le b 57) h).0 in ne_eqb b 32 (λ e. omega arith)

gap_begins : (gap rest : List ℕ) → IsGap gap → StopsAt is_digit (gap ++ rest)
gap_begins [] rest h = let long : 0 < 0 = h.0 in absurd (omega arith)
gap_begins (b ∷ bs) rest h = space_is_no_digit b h.1.0

pub number_begins : (digits rest : List ℕ) (n : ℕ) → IsNumber digits n → StopsAt is_space (digits ++ rest)
number_begins [] rest n h = let long : 0 < 0 = h.some in absurd (omega arith)
number_begins (b ∷ bs) rest n h = digit_is_no_space b h.digits.0

spaces_begin : (spaces rest : List ℕ) → AreSpaces spaces → StopsAt is_digit rest → StopsAt is_digit (spaces ++ rest)
spaces_begin [] rest h follows = follows
spaces_begin (b ∷ bs) rest h follows = space_is_no_digit b h.0

end_begins : (ended : Bool) (ending : List ℕ) → IsLineEnd ended ending → StopsAt is_digit ending
end_begins ended ending h = search (rules, parts_of_end, spaces_begin, rest_begins)

pub more_begins : (ended : Bool) (numbers ending ns : List ℕ) → AreMoreNumbers numbers ns → IsLineEnd ended ending
    → StopsAt is_digit (numbers ++ ending)
more_begins ended numbers ending [] h ends = rw h (end_begins ended ending ends)
more_begins ended numbers ending (n ∷ ns) h ends = search (rules, append_assoc, gap_begins, h.1 ++ h.2)

-- a line does not end where a number follows
digit_is_no_rest : (ended : Bool) (digits rest : List ℕ) (n : ℕ) → IsNumber digits n
    → is_rest ended (digits ++ rest) ≡ false
digit_is_no_rest ended [] rest n h = let long : 0 < 0 = h.some in absurd (omega arith)
digit_is_no_rest ended (b ∷ bs) rest n h = search (rules, leb-true, and_parts, ne_eqb, no_and)

pub gap_is_no_end : (ended : Bool) (gap digits rest : List ℕ) (n : ℕ) → IsGap gap → IsNumber digits n
    → is_line_end ended (gap ++ (digits ++ rest)) ≡ false
unfolding is_line_end
gap_is_no_end ended gap digits rest n g d = search (rules, front_len, number_begins, drop-append_seam, digit_is_no_rest)

pub digits_are_no_end : (ended : Bool) (digits rest : List ℕ) (n : ℕ) → IsNumber digits n
    → is_line_end ended (digits ++ rest) ≡ false
unfolding is_line_end
digits_are_no_end ended digits rest n d = search (rules, front_len, number_begins, digit_is_no_rest)
