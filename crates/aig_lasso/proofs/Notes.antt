-- Notes of which goals were met.
use Rattle.std.proofs.Common.{◌≡◌, ◌⊎◌, ◌+◌, ◌<◌, ◌++◌, ◌||◌, ◌∙◌, ℕ, zero, suc, List, [], ◌∷◌, Bool, true, false, ap}
use Rattle.std.proofs.Common.{ap₂, append_assoc, arith, drop, get_or, inl, inr, length, map, refl, replicate, set}
use Rattle.std.proofs.Common.{subst, sym, take}
use Rattle.std.proofs.lemmas.List.{drop-set-lt, drop_more, get_or-map, get_or-replicate, length-replicate, take_more}
use Rattle.std.proofs.lemmas.List.{take_more_set}
use Rattle.std.proofs.lemmas.List.Sums.{AllPass-from_list_all, list_all-from_AllPass}
use Rattle.aig_circuit.specs.declared.value.Val.{Val}
use Rattle.aig_circuit.specs.declared.value.Val.TheVariants.{Zero}
use Rattle.aig_meaning.specs.Meaning.{Row, literal_value}
use Rattle.aig_witness.specs.Parts.Witnessing.{is_one}
use Rattle.aig_witness.specs.Witness.{IsBad}
use Rattle.aig_witness.proofs.Witnessing.{one_of}
use Rattle.aig_lasso.specs.Lasso.{Meet}
use Rattle.aig_lasso.specs.Parts.Searching.{all_met, notes_after, notes_with}
use Rattle.aig_lasso.proofs.Longest.{meet_behind, tails_same}

pub or_false : (b : Bool) → (b || false) ≡ b
or_false true = refl
or_false false = refl

or_true : (b : Bool) → (b || true) ≡ true
or_true true = refl
or_true false = refl

either : (a b : Bool) → (a || b) ≡ true → (a ≡ true) ⊎ (b ≡ true)
either true b is = inl refl
either false b is = inr is

pub notes_length : (notes : List Bool) (vs : List Val) → length (notes_with notes vs) ≡ length notes
notes_length [] vs = refl
notes_length (b ∷ bs) [] = refl
notes_length (b ∷ bs) (v ∷ vs) = ap suc (notes_length bs vs)

note_at : (notes : List Bool) (vs : List Val) (goal : ℕ) (d : Bool) → goal < length notes
    → get_or (notes_with notes vs) goal d ≡ (get_or notes goal d || is_one (get_or vs goal Zero))
note_at [] vs goal d low = absurd (omega (arith, low))
note_at (b ∷ bs) [] goal d low = sym (or_false (get_or (b ∷ bs) goal d))
note_at (b ∷ bs) (v ∷ vs) zero d low = refl
note_at (b ∷ bs) (v ∷ vs) (suc goal) d low = note_at bs vs goal d (omega (arith, low))

module _ (goal : ℕ) (d : Bool) where
  -- what was noted stays noted
  kept : (notes : List Bool) (rows : List Row) → goal < length notes → get_or notes goal d ≡ true
      → get_or (notes_after notes rows) goal d ≡ true
  kept notes [] low is = is
  kept notes (row ∷ rows) low is =
      kept (notes_with notes row.bad) rows (omega (arith, notes_length notes row.bad, low))
      (note_at notes row.bad goal d low ∙ ap (λ (b : Bool). b || is_one (get_or row.bad goal Zero)) is)

  -- what is met is noted
  noted_at : (notes : List Bool) (rows before behind : List Row) (row : Row) → goal < length notes
      → rows ≡ before ++ (row ∷ behind) → IsBad goal row → get_or (notes_after notes rows) goal d ≡ true
  noted_at notes [] [] behind row low parted bad = cc
  noted_at notes [] (b ∷ bs) behind row low parted bad = cc
  noted_at notes (r ∷ rs) [] behind row low parted bad =
      let same : r ≡ row = cc in
      let here : get_or (notes_with notes r.bad) goal d ≡ true =
      note_at notes r.bad goal d low
      ∙ ap (λ (v : Val). get_or notes goal d || is_one v) (subst (IsBad goal) (sym same) bad)
      ∙ or_true (get_or notes goal d) in
      kept (notes_with notes r.bad) rs (omega (arith, notes_length notes r.bad, low)) here
  noted_at notes (r ∷ rs) (b ∷ bs) behind row low parted bad =
      noted_at (notes_with notes r.bad) rs bs behind row (omega (arith, notes_length notes r.bad, low))
      (tails_same r b rs (bs ++ (row ∷ behind)) parted) bad

  -- what is noted was met, or was noted before
  noted_by : (notes : List Bool) (rows : List Row) → goal < length notes
      → get_or (notes_after notes rows) goal d ≡ true → (get_or notes goal d ≡ true) ⊎ Meet rows goal
  noted_by notes [] low is = inl is
  noted_by notes (row ∷ rows) low is =
      elim (noted_by (notes_with notes row.bad) rows (omega (arith, notes_length notes row.bad, low)) is) [
        | inl before ↦ elim (either (get_or notes goal d) (is_one (get_or row.bad goal Zero))
            (sym (note_at notes row.bad goal d low) ∙ before)) [
              | inl noted ↦ inl noted
              | inr here ↦ inr ([], rows, row, refl, one_of (get_or row.bad goal Zero) here)
            ]
        | inr later ↦ inr (meet_behind (row ∷ []) rows goal later)
      ]

after_length : (notes : List Bool) (rows : List Row) → length (notes_after notes rows) ≡ length notes
after_length notes [] = refl
after_length notes (row ∷ rows) = after_length (notes_with notes row.bad) rows ∙ notes_length notes row.bad

module _ (goals : ℕ) (rows : List Row) where
  abbrev none : List Bool
  none = replicate goals false

  many : length (notes_after none rows) ≡ goals
  many = after_length none rows ∙ length-replicate goals false

  pub met_by : all_met goals rows ≡ true → (goal : ℕ) → goal < goals → Meet rows goal
  met_by all goal low =
      let noted : get_or (notes_after none rows) goal false ≡ true =
      AllPass-from_list_all (λ (b : Bool). b) (notes_after none rows) all goal false (omega (arith, many, low)) in
      elim (noted_by goal false none rows (omega (arith, length-replicate goals false, low)) noted) [
        | inl before ↦ let no = get_or-replicate goals goal false false low in cc
        | inr met ↦ met
      ]

  pub unmet : all_met goals rows ≡ false → ¬ ((goal : ℕ) → goal < goals → Meet rows goal)
  unmet some met =
      let all : all_met goals rows ≡ true =
      list_all-from_AllPass (λ (b : Bool). b) (notes_after none rows) (λ goal d low.
      let there = met goal (omega (arith, many, low)) in
      noted_at goal d none rows there.0 there.1 there.2 (omega (arith, after_length none rows, low)) there.3 there.4) in
      cc

-- one more value is looked at: it is noted if it is 1
module _ (notes : List Bool) (vs : List Val) (place : ℕ) (all : List Bool) (low : place < length notes)
    (low_too : place < length vs)
    (so_far : take place notes ++ notes_with (drop place notes) (drop place vs) ≡ all) where
  abbrev behind : List Bool
  behind = notes_with (drop (place + 1) notes) (drop (place + 1) vs)

  here : take place notes ++ ((get_or notes place false || is_one (get_or vs place Zero)) ∷ behind) ≡ all
  here =
      ap₂ (λ (bs : List Bool) (us : List Val). take place notes ++ notes_with bs us)
      (sym (drop_more notes place false low)) (sym (drop_more vs place Zero low_too))
      ∙ so_far

  pub noted_one : is_one (get_or vs place Zero) ≡ true
      → take (place + 1) (set notes place true)
      ++ notes_with (drop (place + 1) (set notes place true)) (drop (place + 1) vs) ≡ all
  noted_one one =
      ap₂ (λ (bs ds : List Bool). bs ++ notes_with ds (drop (place + 1) vs)) (take_more_set notes place true low)
      (drop-set-lt (place + 1) notes place true (omega arith))
      ∙ append_assoc (take place notes) (true ∷ []) behind
      ∙ ap (λ (b : Bool). take place notes ++ (b ∷ behind))
      (sym (or_true (get_or notes place false)) ∙ ap (λ (b : Bool). get_or notes place false || b) (sym one))
      ∙ here

  pub noted_none : is_one (get_or vs place Zero) ≡ false
      → take (place + 1) notes ++ notes_with (drop (place + 1) notes) (drop (place + 1) vs) ≡ all
  noted_none other =
      ap (λ (bs : List Bool). bs ++ behind) (take_more notes place false low)
      ∙ append_assoc (take place notes) (get_or notes place false ∷ []) behind
      ∙ ap (λ (b : Bool). take place notes ++ (b ∷ behind))
      (sym (or_false (get_or notes place false)) ∙ ap (λ (b : Bool). get_or notes place false || b) (sym other))
      ∙ here

-- what is seen at a place
pub seen_at : (a : ℕ → Val) (goals : List ℕ) (place goal : ℕ) (v : Val) (result one : Bool) → place < length goals
    → goal ≡ get_or goals place goal → v ≡ literal_value a goal → result ≡ is_one v → result ≡ one
    → is_one (get_or (map (literal_value a) goals) place Zero) ≡ one
seen_at a goals place goal v result one low at value test is =
    ap is_one (get_or-map (literal_value a) goals place goal Zero low ∙ ap (literal_value a) (sym at) ∙ sym value)
    ∙ sym test ∙ is
