-- That a state meets a cube is 0 at a start that is apart from it, and no x without one in the state.
use Rattle.std.proofs.Common.{◌≡◌, ◌∙◌, List, [], ◌∷◌, true, ap, refl}
use Rattle.std.specs.List.{AllByRecursion, AllZip}
use Rattle.aig_circuit.specs.declared.circuit.Reset.{Reset}
use Rattle.aig_circuit.specs.declared.circuit.Reset.TheVariants as resets
use Rattle.aig_circuit.specs.declared.value.Val.{Val}
use Rattle.aig_circuit.specs.declared.value.Val.TheVariants.{Zero, One, X}
use Rattle.aig_circuit.specs.Values.{value_and, value_not}
use Rattle.aig_meaning.specs.Trace.{MayStartAt}
use Rattle.aig_cnf.proofs.Existing.{IsSure}
use Rattle.aig_unroll.specs.SideBySide.{and_all}
use Rattle.aig_invariant.specs.Invariant.{Cube, asked_values, is_off_start}

and_zero : (v : Val) → value_and v Zero ≡ Zero
and_zero Zero = refl
and_zero One = refl
and_zero X = refl

zero_stays : (xs : List Val) → and_all Zero xs ≡ Zero
zero_stays [] = refl
zero_stays (x ∷ xs) = zero_stays xs

with_zero : (held x : Val) (xs : List Val) → x ≡ Zero → and_all (value_and held x) xs ≡ Zero
with_zero held x xs is =
    ap (λ (y : Val). and_all (value_and held y) xs) is ∙ ap (λ (h : Val). and_all h xs) (and_zero held) ∙ zero_stays xs

-- a first state does not meet a cube that is apart from it
pub apart : (held : Val) (rs : List Reset) (cube : Cube) (state : List Val) → AllZip MayStartAt rs state
    → is_off_start rs cube ≡ true → and_all held (asked_values cube state) ≡ Zero
apart held [] cube state starts is = cc
apart held (r ∷ rs) [] state starts is = cc
apart held (r ∷ rs) (v ∷ vs) [] starts is = absurd starts
apart held (resets.Zero ∷ rs) (Zero ∷ vs) (x ∷ xs) starts is =
    apart (value_and held (value_not x)) rs vs xs starts.1 is
apart held (resets.Zero ∷ rs) (One ∷ vs) (x ∷ xs) starts is = with_zero held x (asked_values vs xs) starts.0
apart held (resets.Zero ∷ rs) (X ∷ vs) (x ∷ xs) starts is = apart held rs vs xs starts.1 is
apart held (resets.One ∷ rs) (Zero ∷ vs) (x ∷ xs) starts is =
    with_zero held (value_not x) (asked_values vs xs) (ap value_not starts.0)
apart held (resets.One ∷ rs) (One ∷ vs) (x ∷ xs) starts is = apart (value_and held x) rs vs xs starts.1 is
apart held (resets.One ∷ rs) (X ∷ vs) (x ∷ xs) starts is = apart held rs vs xs starts.1 is
apart held (resets.Uninit ∷ rs) (Zero ∷ vs) (x ∷ xs) starts is =
    apart (value_and held (value_not x)) rs vs xs starts.1 is
apart held (resets.Uninit ∷ rs) (One ∷ vs) (x ∷ xs) starts is = apart (value_and held x) rs vs xs starts.1 is
apart held (resets.Uninit ∷ rs) (X ∷ vs) (x ∷ xs) starts is = apart held rs vs xs starts.1 is

-- without x there is none in it
sure_not : (v : Val) → IsSure v → IsSure (value_not v)
sure_not Zero sure = tt
sure_not One sure = tt
sure_not X sure = absurd sure

sure_and : (v w : Val) → IsSure v → IsSure w → IsSure (value_and v w)
sure_and Zero w sure sure_too = tt
sure_and One w sure sure_too = sure_too
sure_and X w sure sure_too = absurd sure

pub sure_met : (held : Val) (cube : Cube) (state : List Val) → IsSure held → AllByRecursion IsSure state
    → IsSure (and_all held (asked_values cube state))
sure_met held [] xs is sure = is
sure_met held (v ∷ vs) [] is sure = is
sure_met held (Zero ∷ vs) (x ∷ xs) is sure =
    sure_met (value_and held (value_not x)) vs xs (sure_and held (value_not x) is (sure_not x sure.0)) sure.1
sure_met held (One ∷ vs) (x ∷ xs) is sure =
    sure_met (value_and held x) vs xs (sure_and held x is sure.0) sure.1
sure_met held (X ∷ vs) (x ∷ xs) is sure = sure_met held vs xs is sure.1

pub zero_where_not_one : (v : Val) → IsSure v → ¬ (v ≡ One) → v ≡ Zero
zero_where_not_one Zero sure is_not = refl
zero_where_not_one One sure is_not = absurd (is_not refl)
zero_where_not_one X sure is_not = absurd sure
