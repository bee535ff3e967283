-- Numbers that are put into an array, one after another.
use Rattle.std.proofs.Common.{◌≡◌, ◌+◌, ◌++◌, ◌∷◌, ◌∙◌, ◌<◌, ◌≤◌, ℕ, suc, List, [], ap, ap₂, arith, refl, sym}
use Rattle.std.proofs.Common.{append_assoc, drop, drop-cons, flat_map, get_or, length, length-append, length-drop}
use Rattle.std.proofs.Common.{length-take-le, set, take, take-append-drop}
use Rattle.std.proofs.Math.Seq.{set-append_seam}
use Rattle.std.proofs.lemmas.List.{length-set}
use Rattle.aig_circuit.specs.declared.circuit.Symbol.{Symbol}
use Rattle.aig_arrays.specs.Parts.Placed.{placed}
use Rattle.aig_arrays.specs.Words.{symbol_row, symbol_words}

-- an array stays as long
pub length-placed : (at : ℕ) (xs array : List ℕ) → length (placed at xs array) ≡ length array
length-placed at [] array = refl
length-placed at (x ∷ xs) array = length-placed (at + 1) xs (set array at x) ∙ length-set array at x

-- one list after another
pub placed_twice : (at : ℕ) (xs ys array : List ℕ)
    → placed (at + length xs) ys (placed at xs array) ≡ placed at (xs ++ ys) array
placed_twice at [] ys array = let same : at + 0 ≡ at = omega arith in ap (λ n. placed n ys array) same
placed_twice at (x ∷ xs) ys array =
    let same : at + length (x ∷ xs) ≡ at + 1 + length xs = omega arith in
    ap (λ n. placed n ys (placed (at + 1) xs (set array at x))) same ∙ placed_twice (at + 1) xs ys (set array at x)

-- what stands before and after stays
pub placed_between : (front xs back : List ℕ) → length xs ≤ length back
    → placed (length front) xs (front ++ back) ≡ front ++ (xs ++ drop (length xs) back)
placed_between front [] back room = refl
placed_between front (x ∷ xs) [] room = absurd (omega (arith, room))
placed_between front (x ∷ xs) (b ∷ back) room =
    let one : set (front ++ b ∷ back) (length front) x ≡ (front ++ x ∷ []) ++ back =
    set-append_seam front b back x ∙ sym (append_assoc front (x ∷ []) back) in
    ap₂ (λ n array. placed n xs array) (sym (length-append front (x ∷ []))) one
    ∙ placed_between (front ++ x ∷ []) xs back (omega (arith, room))
    ∙ append_assoc front (x ∷ []) (xs ++ drop (length xs) back)

pub placed_is : (at : ℕ) (xs array : List ℕ) → at + length xs ≤ length array
    → placed at xs array ≡ take at array ++ (xs ++ drop (length xs) (drop at array))
placed_is at xs array room =
    let long : length (take at array) ≡ at = length-take-le at array (omega (arith, room)) in
    ap₂ (λ n all. placed n xs all) (sym long) (sym (take-append-drop at array))
    ∙ placed_between (take at array) xs (drop at array) (omega (arith, room, length-drop at array))

-- a list at the front, and then another one
pub both_at_front : (xs ys array between : List ℕ) (end : ℕ) → between ≡ placed 0 xs array → end ≡ length xs
    → length (xs ++ ys) ≤ length array → placed end ys between ≡ (xs ++ ys) ++ drop (length (xs ++ ys)) array
both_at_front xs ys array between end is end_is room =
    let behind : end ≡ 0 + length xs = omega (arith, end_is) in
    ap₂ (λ n all. placed n ys all) behind is ∙ placed_twice 0 xs ys array ∙ placed_between [] (xs ++ ys) array room

-- where a list and others are to be put, and the list was put, the others are left
pub others_left : (at : ℕ) (xs ys array all : List ℕ) → placed at (xs ++ ys) array ≡ all → (end : ℕ) (new : List ℕ)
    → end ≡ at + length xs → new ≡ placed at xs array → placed end ys new ≡ all
others_left at xs ys array all before end new end_is new_is =
    ap₂ (λ n all. placed n ys all) end_is new_is ∙ placed_twice at xs ys array ∙ before

-- one number more
pub placed_more : (at : ℕ) (xs : List ℕ) (x end : ℕ) (array : List ℕ) → end ≡ at + length xs
    → set (placed at xs array) end x ≡ placed at (xs ++ x ∷ []) array
placed_more at xs x end array end_is =
    others_left at xs (x ∷ []) array (placed at (xs ++ x ∷ []) array) refl end (placed at xs array) end_is refl

-- Entries of which each is put after those before it.
module _ {T : Type 0} (row : T → List ℕ) (items : List T) (i : ℕ) (x : T) (below : i < length items)
    (is : x ≡ get_or items i x) where
  parted : flat_map row (drop i items) ≡ row x ++ flat_map row (drop (i + 1) items)
  parted =
      let next : suc i ≡ i + 1 = omega arith in
      ap (flat_map row) (drop-cons items i x below)
      ∙ ap₂ (λ y n. row y ++ flat_map row (drop n items)) (sym is) next

  pub rows_on : (at : ℕ) (array all : List ℕ) → placed at (flat_map row (drop i items)) array ≡ all
      → (end : ℕ) (new : List ℕ) → end ≡ at + length (row x) → new ≡ placed at (row x) array
      → placed end (flat_map row (drop (i + 1) items)) new ≡ all
  rows_on at array all before =
      others_left at (row x) (flat_map row (drop (i + 1) items)) array all
      (ap (λ xs. placed at xs array) (sym parted) ∙ before)

  pub rows_long : (at total : ℕ) → at + length (flat_map row (drop i items)) ≡ total
      → at + length (row x) + length (flat_map row (drop (i + 1) items)) ≡ total
  rows_long at total before =
      omega (arith, before, ap length parted, length-append (row x) (flat_map row (drop (i + 1) items)))

-- Symbols, likewise.
module _ (start : ℕ) (s : Symbol) (left ss : List Symbol) (is : left ≡ s ∷ ss) where
  words_parted : symbol_words start left ≡ symbol_row start s ++ symbol_words (start + length s.name) ss
  unfolding symbol_words
  words_parted = ap (symbol_words start) is

  pub symbols_on : (at : ℕ) (array all : List ℕ) → placed at (symbol_words start left) array ≡ all
      → (new : List ℕ) → new ≡ placed at (symbol_row start s) array
      → placed (at + 4) (symbol_words (start + length s.name) ss) new ≡ all
  symbols_on at array all before new new_is =
      others_left at (symbol_row start s) (symbol_words (start + length s.name) ss) array all
      (ap (λ xs. placed at xs array) (sym words_parted) ∙ before) (at + 4) new refl new_is

  pub symbols_long : (at total : ℕ) → at + length (symbol_words start left) ≡ total
      → at + 4 + length (symbol_words (start + length s.name) ss) ≡ total
  symbols_long at total before =
      omega (
        arith,
        before,
        ap length words_parted,
        length-append (symbol_row start s) (symbol_words (start + length s.name) ss),
      )

pub symbols_done : (at start : ℕ) (left : List Symbol) (array : List ℕ) → left ≡ []
    → placed at (symbol_words start left) array ≡ array
unfolding symbol_words
symbols_done at start left array none = ap (λ ss. placed at (symbol_words start ss) array) none

-- And names.
module _ (s : Symbol) (left ss : List Symbol) (is : left ≡ s ∷ ss) where
  name_first : flat_map (λ (t : Symbol). t.name) left ≡ s.name ++ flat_map (λ (t : Symbol). t.name) ss
  name_first = ap (flat_map (λ (t : Symbol). t.name)) is

  pub names_on : (at : ℕ) (array all : List ℕ) → placed at (flat_map (λ (t : Symbol). t.name) left) array ≡ all
      → (new : List ℕ) → new ≡ placed at s.name array
      → placed (at + length s.name) (flat_map (λ (t : Symbol). t.name) ss) new ≡ all
  names_on at array all before new new_is =
      others_left at s.name (flat_map (λ (t : Symbol). t.name) ss) array all
      (ap (λ xs. placed at xs array) (sym name_first) ∙ before) (at + length s.name) new refl new_is

  pub names_long : (at total : ℕ) → at + length (flat_map (λ (t : Symbol). t.name) left) ≡ total
      → at + length s.name + length (flat_map (λ (t : Symbol). t.name) ss) ≡ total
  names_long at total before =
      omega (arith, before, ap length name_first, length-append s.name (flat_map (λ (t : Symbol). t.name) ss))
