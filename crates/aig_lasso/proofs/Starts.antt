-- The first step with a state.
use Rattle.std.proofs.Common.{◌≡◌, ◌≢◌, ◌+◌, ◌<◌, ◌&&◌, ◌++◌, ◌∙◌, ℕ, suc, List, [], ◌∷◌, Bool, true, false}
use Rattle.std.proofs.Common.{None, Some, ap, ap₂, arith, if◌then◌else◌, length, refl, sym}
use Rattle.std.proofs.lemmas.Bool.{eqb-true}
use Rattle.aig_circuit.specs.declared.value.Val.{Val}
use Rattle.aig_circuit.specs.declared.value.Val.TheVariants.{Zero, One, X}
use Rattle.aig_meaning.specs.Meaning.{Row}
use Rattle.aig_step.specs.TraceText.{character_of}
use Rattle.aig_lasso.specs.Parts.Searching.{is_same_value, are_same_values, step_from}
use Rattle.aig_lasso.specs.Runs.{value_held}
use Rattle.aig_lasso.proofs.Longest.{tails_same}

-- a value of its character
pub value_back : (v : Val) → value_held (character_of v) ≡ v
value_back Zero = refl
value_back One = refl
value_back X = refl

pub both : (a b : Bool) → (a && b) ≡ true → (a ≡ true) × (b ≡ true)
both true b is = (refl, is)
both false b is = cc

-- values whose characters are the same are the same
pub value_same : (v w : Val) → is_same_value v w ≡ true → v ≡ w
value_same v w is =
    sym (value_back v) ∙ ap value_held (eqb-true (character_of v) (character_of w) is) ∙ value_back w

value_itself : (v : Val) → is_same_value v v ≡ true
value_itself Zero = refl
value_itself One = refl
value_itself X = refl

pub values_same : (vs ws : List Val) → are_same_values vs ws ≡ true → vs ≡ ws
values_same [] [] is = refl
values_same [] (w ∷ ws) is = cc
values_same (v ∷ vs) [] is = cc
values_same (v ∷ vs) (w ∷ ws) is =
    let parts = both (is_same_value v w) (are_same_values vs ws) is in
    ap₂ (λ (x : Val) (xs : List Val). x ∷ xs) (value_same v w parts.0) (values_same vs ws parts.1)

values_itself : (vs : List Val) → are_same_values vs vs ≡ true
values_itself [] = refl
values_itself (v ∷ vs) = ap₂ (λ (a b : Bool). a && b) (value_itself v) (values_itself vs)

pub values_apart : (vs ws : List Val) → are_same_values vs ws ≡ false → vs ≢ ws
values_apart vs ws is same = let other = ap (are_same_values vs) same in let itself = values_itself vs in cc

-- the rows are parted at this place, where the state is this one, and it is so at no earlier place
pub record IsFirstWith (state : List Val) (rows : List Row) (place : ℕ) : Type 0 where
  pub stem : List Row
  pub turn : Row
  pub turns : List Row
  pub parted : rows ≡ stem ++ (turn ∷ turns)
  pub long : place ≡ length stem
  pub is : turn.state ≡ state
  pub first : (before : List Row) (row : Row) (behind : List Row) → rows ≡ before ++ (row ∷ behind)
      → length before < place → row.state ≢ state

module _ (state : List Val) where
  -- what is found in rows, the first of which has this number
  abbrev Found : ℕ → List Row → ℕ → Type 0
  Found step rows found = (place : ℕ) × (found ≡ step + place) × IsFirstWith state rows place

  not_first : (row : Row) (rows : List Row) (place : ℕ) → row.state ≢ state → IsFirstWith state rows place
      → (before : List Row) (there : Row) (behind : List Row) → row ∷ rows ≡ before ++ (there ∷ behind)
      → length before < suc place → there.state ≢ state
  not_first row rows place other is [] there behind parted low =
      let same : row ≡ there = cc in λ e. other (ap (λ (r : Row). r.state) same ∙ e)
  not_first row rows place other is (b ∷ bs) there behind parted low =
      is.first bs there behind (tails_same row b rows (bs ++ (there ∷ behind)) parted) (omega (arith, low))

  found_case : (step found : ℕ) (row : Row) (rows : List Row) (b : Bool) → are_same_values row.state state ≡ b
      → (if b then Some step else step_from state (suc step) rows) ≡ Some found
      → (step_from state (suc step) rows ≡ Some found → Found (suc step) rows found) → Found step (row ∷ rows) found
  found_case step found row rows true same is later =
      let here : step ≡ found = cc in (
        0,
        omega (arith, here),
        record {
          stem = [];
          turn = row;
          turns = rows;
          parted = refl;
          long = refl;
          is = values_same row.state state same;
          first = λ before there behind parted low. absurd (omega (arith, low));
        },
      )
  found_case step found row rows false other is later =
      let there = later is in (
        suc there.0,
        omega (arith, there.1),
        record {
          stem = row ∷ there.2.stem;
          turn = there.2.turn;
          turns = there.2.turns;
          parted = ap (λ (rs : List Row). row ∷ rs) there.2.parted;
          long = ap suc there.2.long;
          is = there.2.is;
          first = not_first row rows there.0 (values_apart row.state state other) there.2;
        },
      )

  pub found_by : (step found : ℕ) (rows : List Row) → step_from state step rows ≡ Some found → Found step rows found
  found_by step found [] is = cc
  found_by step found (row ∷ rows) is =
      found_case step found row rows (are_same_values row.state state) refl is
      (λ later. found_by (suc step) found rows later)

  none_case : (step : ℕ) (r : Row) (rs : List Row) (b : Bool) → are_same_values r.state state ≡ b
      → (if b then Some step else step_from state (suc step) rs) ≡ None
      → (r.state ≢ state) × (step_from state (suc step) rs ≡ None)
  none_case step r rs true same is = cc
  none_case step r rs false other is = (values_apart r.state state other, is)

  pub none_by : (step : ℕ) (rows before : List Row) (row : Row) (behind : List Row)
      → step_from state step rows ≡ None → rows ≡ before ++ (row ∷ behind) → row.state ≢ state
  none_by step [] [] row behind none parted = cc
  none_by step [] (b ∷ bs) row behind none parted = cc
  none_by step (r ∷ rs) [] row behind none parted =
      let apart = none_case step r rs (are_same_values r.state state) refl none in
      let same : r ≡ row = cc in λ e. apart.0 (ap (λ (x : Row). x.state) same ∙ e)
  none_by step (r ∷ rs) (b ∷ bs) row behind none parted =
      let apart = none_case step r rs (are_same_values r.state state) refl none in
      none_by (suc step) rs bs row behind apart.1 (tails_same r b rs (bs ++ (row ∷ behind)) parted)
