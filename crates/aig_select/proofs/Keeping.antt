-- What stays is moved to the front, one more each time.
use Rattle.std.proofs.Common.{◌≡◌, ◌+◌, ◌<◌, ◌≤◌, ◌∷◌, ◌++◌, ◌∙◌, ℕ, zero, suc, List, [], length, take, drop, set, get_or, Bool}
use Rattle.std.proofs.Common.{true, false, cond, refl, sym, ap, ap₂, subst, arith, append_assoc, append-nil}
use Rattle.std.proofs.lemmas.List.{drop_more, drop-set-lt, length-set, take_more_set, drop_all}
use Rattle.aig_select.specs.Staying.{staying}

module _ {X : Type 0} where
  pub staying_nothing : (ms : List Bool) → staying {T = X} ms [] ≡ []
  staying_nothing [] = refl
  staying_nothing (m ∷ ms) = refl

  staying_after : (ms : List Bool) (i : ℕ) (x : X) (rest : List X) → staying (drop i ms) (x ∷ rest)
      ≡ cond (get_or ms i false) (x ∷ staying (drop (suc i) ms) rest) (staying (drop (suc i) ms) rest)
  staying_after [] zero x rest = refl
  staying_after [] (suc i) x rest = refl
  staying_after (m ∷ ms) zero x rest = refl
  staying_after (m ∷ ms) (suc i) x rest = staying_after ms i x rest

  pub staying_at : (ms : List Bool) (i : ℕ) (x : X) (rest : List X) → staying (drop i ms) (x ∷ rest)
      ≡ cond (get_or ms i false) (x ∷ staying (drop (i + 1) ms) rest) (staying (drop (i + 1) ms) rest)
  staying_at ms i x rest =
      let same : suc i ≡ i + 1 = omega arith in
      subst (λ (n : ℕ). staying (drop i ms) (x ∷ rest)
      ≡ cond (get_or ms i false) (x ∷ staying (drop n ms) rest) (staying (drop n ms) rest)) same
      (staying_after ms i x rest)

  -- ys began as xs: what is marked of the first stands in front, and from there on ys is as it was
  pub record IsMoved (ms : List Bool) (xs ys : List X) (kept at : ℕ) : Type 0 where
    pub front : take kept ys ++ staying (drop at ms) (drop at xs) ≡ staying ms xs
    pub rest : drop at ys ≡ drop at xs
    pub behind : kept ≤ at
    pub long : length ys ≡ length xs

  module _ (ms : List Bool) (xs ys : List X) (kept at : ℕ) (x : X) (so : IsMoved ms xs ys kept at)
      (there : at < length ys) (read : x ≡ get_or ys at x) where
    same_rest : drop (at + 1) ys ≡ drop (at + 1) xs
    same_rest =
        let one : drop at ys ≡ get_or ys at x ∷ drop (at + 1) ys = drop_more ys at x there in
        let other : drop at xs ≡ get_or xs at x ∷ drop (at + 1) xs = drop_more xs at x (omega (arith, so.long)) in
        let both : get_or ys at x ∷ drop (at + 1) ys ≡ get_or xs at x ∷ drop (at + 1) xs =
        sym one ∙ so.rest ∙ other in
        cc

    step : staying (drop at ms) (drop at xs)
        ≡ cond (get_or ms at false) (x ∷ staying (drop (at + 1) ms) (drop (at + 1) xs))
        (staying (drop (at + 1) ms) (drop (at + 1) xs))
    step =
        let is : drop at xs ≡ x ∷ drop (at + 1) xs =
        sym so.rest ∙ drop_more ys at x there ∙ ap₂ (λ (y : X) (zs : List X). y ∷ zs) (sym read) same_rest in
        ap (staying (drop at ms)) is ∙ staying_at ms at x (drop (at + 1) xs)

    pub moved_more : get_or ms at false ≡ true → IsMoved ms xs (set ys kept x) (kept + 1) (at + 1)
    moved_more marked = record {
      front = ap (λ (zs : List X). zs ++ staying (drop (at + 1) ms) (drop (at + 1) xs))
          (take_more_set ys kept x (omega (arith, so.behind)))
          ∙ append_assoc (take kept ys) (x ∷ []) (staying (drop (at + 1) ms) (drop (at + 1) xs))
          ∙ ap (λ (zs : List X). take kept ys ++ zs)
          (sym (step ∙ ap (λ (b : Bool). cond b (x ∷ staying (drop (at + 1) ms) (drop (at + 1) xs))
          (staying (drop (at + 1) ms) (drop (at + 1) xs))) marked))
          ∙ so.front;
      rest = drop-set-lt (at + 1) ys kept x (omega (arith, so.behind)) ∙ same_rest;
      behind = omega (arith, so.behind);
      long = omega (arith, so.long, length-set ys kept x);
    }

    pub moved_no : get_or ms at false ≡ false → IsMoved ms xs ys kept (at + 1)
    moved_no marked = record {
      front = ap (λ (zs : List X). take kept ys ++ zs)
          (sym (step ∙ ap (λ (b : Bool). cond b (x ∷ staying (drop (at + 1) ms) (drop (at + 1) xs))
          (staying (drop (at + 1) ms) (drop (at + 1) xs))) marked))
          ∙ so.front;
      rest = same_rest;
      behind = omega (arith, so.behind);
      long = so.long;
    }

  pub moved_all : (ms : List Bool) (xs ys : List X) (kept at : ℕ) → IsMoved ms xs ys kept at → length ys ≤ at
      → take kept ys ≡ staying ms xs
  moved_all ms xs ys kept at so behind =
      let none : drop at xs ≡ [] = drop_all at xs (omega (arith, so.long)) in
      sym (append-nil (take kept ys))
      ∙ ap (λ (zs : List X). take kept ys ++ zs)
      (sym (ap (staying (drop at ms)) none ∙ staying_nothing (drop at ms)))
      ∙ so.front
