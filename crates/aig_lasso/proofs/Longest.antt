-- Of loops that come back to one state, the longest meets all that the others meet.
use Rattle.std.proofs.Common.{◌≡◌, ◌≤◌, ◌++◌, ◌∙◌, ℕ, List, [], ◌∷◌, ap, arith, length, refl, subst, sym}
use Rattle.aig_meaning.specs.Meaning.{Row}
use Rattle.aig_lasso.specs.Lasso.{Meet}
use Rattle.aig_lasso.specs.Laws.{LongestLoopsMeetMost}

pub tails_same : (x y : Row) (xs ys : List Row) → x ∷ xs ≡ y ∷ ys → xs ≡ ys
tails_same x y xs ys e = cc

-- where a list is parted twice, the later part of the one ends in that of the other
between : (xs ys zs ws : List Row) → xs ++ ys ≡ zs ++ ws → length xs ≤ length zs
    → (middle : List Row) × (ys ≡ middle ++ ws)
between [] ys zs ws e less = (zs, e)
between (x ∷ xs) ys [] ws e less = absurd (omega (arith, less))
between (x ∷ xs) ys (z ∷ zs) ws e less =
    between xs ys zs ws (tails_same x z (xs ++ ys) (zs ++ ws) e) (omega (arith, less))

pub meet_behind : (front behind : List Row) (goal : ℕ) → Meet behind goal → Meet (front ++ behind) goal
meet_behind [] behind goal met = met
meet_behind (r ∷ rs) behind goal met =
    let later = meet_behind rs behind goal met in
    (r ∷ later.0, later.1, later.2, ap (λ (xs : List Row). r ∷ xs) later.3, later.4)

pub longest_loops_meet_most : LongestLoopsMeetMost
longest_loops_meet_most goals first rows start is stem turn turns parted below closed =
    let middle = between stem (turn ∷ turns) is.stem (is.turn ∷ is.turns) (sym parted ∙ is.parted)
    (omega (arith, below, is.place)) in
    record {
      stem = stem;
      turn = turn;
      turns = turns;
      parted = parted;
      place = refl;
      closed = closed;
      held = is.held;
      met = λ goal few.
          subst (λ (rs : List Row). Meet rs goal) (sym middle.1)
          (meet_behind middle.0 (is.turn ∷ is.turns) goal (is.met goal few));
    }
