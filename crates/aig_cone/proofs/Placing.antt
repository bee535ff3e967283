-- The places of latches and gates by their variables.
use Rattle.std.proofs.Common.{◌≡◌, ◌<◌, ◌+◌, ◌∷◌, ◌++◌, ◌∙◌, ℕ, List, [], Some, None, Option}
use Rattle.std.proofs.Common.{sym, ap, ap₂, subst, arith, cond, eqb, length, get_or, take, map}
use Rattle.std.proofs.Common.{length-append, length-take-le}
use Rattle.std.specs.Option.{option_or}
use Rattle.std.specs.Ordering.{nat_cmp}
use Rattle.std.specs.FinMap.{FinMap}
use Rattle.std.proofs.lemmas.Grind.{common_steps}
use Rattle.std.proofs.lemmas.List.{append_assoc, take_more, map-append, length-map}
use Rattle.std.proofs.lemmas.List.Folds.{position_or_len_push}
use Rattle.std.proofs.lemmas.List.Sums.{prefix_len-le-length}
use Rattle.aig_tables.specs.VarMap.{with_new}
use Rattle.aig_tables.proofs.Tables.Maps.{get-with_new}
use Rattle.aig_cone.specs.Parts.Search.{HasPlaces, place_of}

eqb_comm : (a b : ℕ) → eqb a b ≡ eqb b a
eqb_comm a b = grind arith

place_push : (vs : List ℕ) (v w : ℕ)
    → place_of (vs ++ w ∷ []) v ≡ option_or (place_of vs v) (cond (eqb w v) (Some (length vs)) None)
place_push vs v w = grind (arith, common_steps, position_or_len_push, prefix_len-le-length)

-- one more variable has its place
placed_more : (vs : List ℕ) (places : FinMap nat_cmp ℕ) (w n : ℕ) → n ≡ length vs → HasPlaces vs places
    → HasPlaces (vs ++ w ∷ []) (with_new places w n)
placed_more vs places w n is has v =
    get-with_new places w n v
    ∙ ap₂ (λ (o : Option ℕ) b. option_or o (cond b (Some n) None)) (has v) (eqb_comm v w)
    ∙ ap (λ (m : ℕ). option_or (place_of vs v) (cond (eqb w v) (Some m) None)) is
    ∙ sym (place_push vs v w)

-- one more of a list of what has a variable
pub placed_next : {X : Type 0} (f : X → ℕ) (others : List ℕ) (xs : List X) (i n : ℕ) (x : X)
    (places : FinMap nat_cmp ℕ) → i < length xs → n ≡ length others + i
    → HasPlaces (others ++ map f (take i xs)) places
    → HasPlaces (others ++ map f (take (i + 1) xs)) (with_new places (f (get_or xs i x)) n)
placed_next f others xs i n x places below is has =
    let vs : List ℕ = others ++ map f (take i xs) in
    let more : others ++ map f (take (i + 1) xs) ≡ vs ++ f (get_or xs i x) ∷ [] =
    ap (λ ys. others ++ map f ys) (take_more xs i x below)
    ∙ ap (λ ys. others ++ ys) (map-append f (take i xs) (get_or xs i x ∷ []))
    ∙ sym (append_assoc others (map f (take i xs)) (f (get_or xs i x) ∷ [])) in
    let long : n ≡ length vs =
    omega (
      arith,
      is,
      length-append others (map f (take i xs)),
      length-map (take i xs) f,
      length-take-le i xs (omega arith),
    ) in
    subst (λ ys. HasPlaces ys (with_new places (f (get_or xs i x)) n)) (sym more)
    (placed_more vs places (f (get_or xs i x)) n long has)
