-- What stays of lists.
use Rattle.std.proofs.Common.{◌≡◌, ◌≤◌, ◌∷◌, ◌∙◌, zero, suc, List, [], length, map, Bool, true, false}
use Rattle.std.proofs.Common.{cond, refl, sym, ap, subst, arith}
use Rattle.std.specs.List.{AllByRecursion, AllZip, Contains, filter}
use Rattle.std.proofs.lemmas.Bool.{false≢true}
use Rattle.aig_select.specs.Staying.{staying}

pub staying_map : {X Y : Type 0} (f : X → Y) (ms : List Bool) (xs : List X) → map f (staying ms xs) ≡ staying ms (map f xs)
staying_map f [] xs = refl
staying_map f (m ∷ ms) [] = refl
staying_map f (true ∷ ms) (x ∷ xs) = ap (λ ys. f x ∷ ys) (staying_map f ms xs)
staying_map f (false ∷ ms) (x ∷ xs) = staying_map f ms xs

module _ {X : Type 0} where
  pub all_staying : (P : X → Type 0) (ms : List Bool) (xs : List X) → AllByRecursion P xs → AllByRecursion P (staying ms xs)
  all_staying P [] xs all = tt
  all_staying P (m ∷ ms) [] all = tt
  all_staying P (true ∷ ms) (x ∷ xs) all = (all.0, all_staying P ms xs all.1)
  all_staying P (false ∷ ms) (x ∷ xs) all = all_staying P ms xs all.1

  pub staying_shorter : (ms : List Bool) (xs : List X) → length (staying ms xs) ≤ length xs
  staying_shorter [] xs = omega arith
  staying_shorter (m ∷ ms) [] = omega arith
  staying_shorter (true ∷ ms) (x ∷ xs) = omega (arith, staying_shorter ms xs)
  staying_shorter (false ∷ ms) (x ∷ xs) = omega (arith, staying_shorter ms xs)

  -- a filter leaves what its test marks
  pub filter_is : (p : X → Bool) (xs : List X) → filter p xs ≡ staying (map p xs) xs
  filter_is p [] = refl
  filter_is p (x ∷ xs) = ap (λ (ys : List X). cond (p x) (x ∷ ys) ys) (filter_is p xs)

  -- Contained in what is left is contained before.
  pub contained_later : (x y : X) (xs : List X) → Contains xs y → Contains (x ∷ xs) y
  contained_later x y xs c = (suc c.0, omega (arith, c.1), c.2)

  one_more_left : (b : Bool) (x y : X) (xs left : List X) → (Contains left y → Contains xs y)
      → Contains (cond b (x ∷ left) left) y → Contains (x ∷ xs) y
  one_more_left true x y xs left before (zero, below, is) = (zero, omega arith, is)
  one_more_left true x y xs left before (suc k, below, is) =
      contained_later x y xs (before (k, omega (arith, below), is))
  one_more_left false x y xs left before there = contained_later x y xs (before there)

  one_more_kept : (b : Bool) (x y : X) (xs left : List X) → (Contains xs y → Contains left y)
      → (y ≡ x → b ≡ true) → Contains (x ∷ xs) y → Contains (cond b (x ∷ left) left) y
  one_more_kept true x y xs left before test (zero, below, is) = (zero, omega arith, is)
  one_more_kept true x y xs left before test (suc k, below, is) =
      contained_later x y left (before (k, omega (arith, below), is))
  one_more_kept false x y xs left before test (zero, below, is) = absurd (false≢true (test (sym is)))
  one_more_kept false x y xs left before test (suc k, below, is) = before (k, omega (arith, below), is)

  one_more_passes : (b : Bool) (p : X → Bool) (x y : X) (left : List X) → p x ≡ b
      → (Contains left y → p y ≡ true) → Contains (cond b (x ∷ left) left) y → p y ≡ true
  one_more_passes true p x y left test before (zero, below, is) = ap p (sym is) ∙ test
  one_more_passes true p x y left test before (suc k, below, is) = before (k, omega (arith, below), is)
  one_more_passes false p x y left test before there = before there

  module _ (p : X → Bool) where
    pub left_contained : (xs : List X) (y : X) → Contains (filter p xs) y → Contains xs y
    left_contained [] y there = there
    left_contained (x ∷ xs) y there = one_more_left (p x) x y xs (filter p xs) (left_contained xs y) there

    pub kept_contained : (xs : List X) (y : X) → p y ≡ true → Contains xs y → Contains (filter p xs) y
    kept_contained [] y passes there = there
    kept_contained (x ∷ xs) y passes there =
        one_more_kept (p x) x y xs (filter p xs) (kept_contained xs y passes)
        (λ same. ap p (sym same) ∙ passes) there

    pub left_passes : (xs : List X) (y : X) → Contains (filter p xs) y → p y ≡ true
    left_passes [] y (k, below, is) = absurd (omega (arith, below))
    left_passes (x ∷ xs) y there = one_more_passes (p x) p x y (filter p xs) refl (left_passes xs y) there

    pub left_fewer : (xs : List X) → length (filter p xs) ≤ length xs
    left_fewer xs = subst (λ (ys : List X). length ys ≤ length xs) (sym (filter_is p xs)) (staying_shorter (map p xs) xs)

-- what is left, by a map
pub map_filter : {X Y : Type 0} (f : X → Y) (p : X → Bool) (xs : List X) → map f (filter p xs) ≡ staying (map p xs) (map f xs)
map_filter f p xs = ap (map f) (filter_is p xs) ∙ staying_map f (map p xs) xs

-- as much stays of lists that are as long
pub as_long : {X Y : Type 0} (ms : List Bool) (xs : List X) (ys : List Y) → length xs ≡ length ys
    → length (staying ms xs) ≡ length (staying ms ys)
as_long [] xs ys same = refl
as_long (m ∷ ms) [] [] same = refl
as_long (m ∷ ms) [] (y ∷ ys) same = absurd (omega (arith, same))
as_long (m ∷ ms) (x ∷ xs) [] same = absurd (omega (arith, same))
as_long (true ∷ ms) (x ∷ xs) (y ∷ ys) same = ap suc (as_long ms xs ys (omega (arith, same)))
as_long (false ∷ ms) (x ∷ xs) (y ∷ ys) same = as_long ms xs ys (omega (arith, same))

-- what holds pair by pair holds of what stays
pub zip_staying : {X Y : Type 0} (R : X → Y → Type 0) (ms : List Bool) (xs : List X) (ys : List Y) → AllZip R xs ys
    → AllZip R (staying ms xs) (staying ms ys)
zip_staying R [] xs ys all = tt
zip_staying R (m ∷ ms) [] [] all = tt
zip_staying R (m ∷ ms) [] (y ∷ ys) all = absurd all
zip_staying R (m ∷ ms) (x ∷ xs) [] all = absurd all
zip_staying R (true ∷ ms) (x ∷ xs) (y ∷ ys) all = (all.0, zip_staying R ms xs ys all.1)
zip_staying R (false ∷ ms) (x ∷ xs) (y ∷ ys) all = zip_staying R ms xs ys all.1

-- Values in the places that stay, and others in those that do not.
abbrev pub spread : {X : Type 0} → List Bool → List X → List X → List X
spread [] others values = others
spread (m ∷ ms) [] values = []
spread (true ∷ ms) (o ∷ others) [] = o ∷ others
spread (true ∷ ms) (o ∷ others) (v ∷ values) = v ∷ spread ms others values
spread (false ∷ ms) (o ∷ others) values = o ∷ spread ms others values

module _ {X : Type 0} where
  pub staying_spread : (ms : List Bool) (others values : List X) → length values ≡ length (staying ms others)
      → staying ms (spread ms others values) ≡ values
  staying_spread [] others [] same = refl
  staying_spread [] others (v ∷ values) same = absurd (omega (arith, same))
  staying_spread (m ∷ ms) [] [] same = refl
  staying_spread (m ∷ ms) [] (v ∷ values) same = absurd (omega (arith, same))
  staying_spread (true ∷ ms) (o ∷ others) [] same = absurd (omega (arith, same))
  staying_spread (true ∷ ms) (o ∷ others) (v ∷ values) same =
      ap (λ (vs : List X). v ∷ vs) (staying_spread ms others values (omega (arith, same)))
  staying_spread (false ∷ ms) (o ∷ others) values same = staying_spread ms others values same

  pub length_spread : (ms : List Bool) (others values : List X) → length (spread ms others values) ≡ length others
  length_spread [] others values = refl
  length_spread (m ∷ ms) [] values = refl
  length_spread (true ∷ ms) (o ∷ others) [] = refl
  length_spread (true ∷ ms) (o ∷ others) (v ∷ values) = ap suc (length_spread ms others values)
  length_spread (false ∷ ms) (o ∷ others) values = ap suc (length_spread ms others values)

pub zip_spread : {X Y : Type 0} (R : X → Y → Type 0) (ms : List Bool) (xs : List X) (others values : List Y)
    → AllZip R xs others → AllZip R (staying ms xs) values → AllZip R xs (spread ms others values)
zip_spread R [] xs others values all left = all
zip_spread R (m ∷ ms) [] [] values all left = tt
zip_spread R (m ∷ ms) [] (o ∷ others) values all left = absurd all
zip_spread R (m ∷ ms) (x ∷ xs) [] values all left = absurd all
zip_spread R (true ∷ ms) (x ∷ xs) (o ∷ others) [] all left = absurd left
zip_spread R (true ∷ ms) (x ∷ xs) (o ∷ others) (v ∷ values) all left =
    (left.0, zip_spread R ms xs others values all.1 left.1)
zip_spread R (false ∷ ms) (x ∷ xs) (o ∷ others) values all left =
    (all.0, zip_spread R ms xs others values all.1 left)
