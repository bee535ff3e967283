-- Steps of a reading, one after another, and what a line is judged to be.
use Rattle.std.proofs.Common.{◌≡◌, ◌∙◌, ◌∷◌, ℕ, zero, suc, List, [], get_or, Bool, true, false, cond, Result, Ok, Err}
use Rattle.std.proofs.Common.{refl, rules, Option, Some, None, ap}
use Rattle.aig_fault.specs.declared.kind.Kind.{Kind}
use Rattle.aig_fault.specs.declared.stopped.Stopped.{Stopped}
use Rattle.aig_lines.specs.Lines.{Ahead, Line}
use Rattle.aig_rows.specs.Outcomes.{IsReadOrRefused}
use Rattle.aig_rows.specs.Reading.{◌>>=◌, at_line, carried_on, line_found, row_at, rows_at}
use Rattle.aig_rows.specs.Rows.{Form}
use Rattle.aig_rows.specs.Laws.{IsJudged}

-- two steps that succeed: both do
pub both_ok : {A B E : Type 0} (r : Result A E) (f : A → Result B E) (y : B) → (r >>= f) ≡ Ok y
    → (x : A) × (r ≡ Ok x) × (f x ≡ Ok y)
both_ok (Ok x) f y h = (x, refl, h)
both_ok (Err e) f y h = cc

pub ok_at_line : {A : Type 0} (n : ℕ) (r : Result A Kind) (x : A) → at_line n r ≡ Ok x → r ≡ Ok x
ok_at_line n (Ok y) x h = cc
ok_at_line n (Err e) x h = cc

-- a test that a success has passed
pub passed : {A E : Type 0} (b : Bool) (e : E) (r : Result A E) (x : A) → cond b (Err e) r ≡ Ok x
    → (b ≡ false) × (r ≡ Ok x)
passed true e r x h = cc
passed false e r x h = (refl, h)

-- a test that lets a success through
pub let_through : {A E : Type 0} (b : Bool) (e : E) (r : Result A E) (x : A) → cond b r (Err e) ≡ Ok x
    → (b ≡ true) × (r ≡ Ok x)
let_through true e r x h = (refl, h)
let_through false e r x h = cc

pub ok_same : {A E : Type 0} (x y : A) → ◌≡◌ {A = Result A E} (Ok x) (Ok y) → x ≡ y
ok_same x y h = cc

-- a step, and the ones after it, read something or refuse the input
pub then_refuses : {A B : Type 0} (r : Result A Stopped) (f : A → Result B Stopped) → IsReadOrRefused r
    → ((x : A) → IsReadOrRefused (f x)) → IsReadOrRefused (r >>= f)
then_refuses (Ok x) f first next = next x
then_refuses (Err e) f first next = first

pub line_refuses : {A : Type 0} (n : ℕ) (r : Result A Kind) → IsReadOrRefused (at_line n r)
line_refuses n (Ok x) = tt
line_refuses n (Err kind) = tt

pub found_refuses : {A : Type 0} (missing : Kind) (tell : Line → Result A Kind) (n : ℕ) (ls : List Line)
    → IsReadOrRefused (line_found missing tell n ls)
found_refuses missing tell n [] = tt
found_refuses missing tell n (l ∷ ls) = then_refuses (at_line n (tell l)) _ (line_refuses n (tell l)) (λ x. tt)

pub rows_refuse : (form : Form) (bound carried count : ℕ) (at : Ahead)
    → IsReadOrRefused (rows_at form bound carried count at)
unfolding rows_at
rows_refuse form bound carried zero at = tt
rows_refuse form bound carried (suc count) at =
    then_refuses (row_at form bound carried at) _ (found_refuses _ _ at.number at.lines)
    (λ first. let next : ℕ = carried_on form.first carried (get_or first.0 0 0) in
    then_refuses (rows_at form bound next count first.1) _ (rows_refuse form bound next count first.1) (λ others. tt))

-- What a line is judged to be, where it holds something and where it holds nothing.

-- What a scanner reads decides what is judged, where it reads exactly what the line holds.
pub by_scanner : {A B : Type 0} (Holds : A → Type 0) (judge : A → Result B Kind) (otherwise : Kind)
    (judged : Option A → Result B Kind) (read : Option A)
    → ((x : A) → Holds x → read ≡ Some x) → ((x : A) → read ≡ Some x → Holds x)
    → ((x : A) → judged (Some x) ≡ judge x) → judged None ≡ Err otherwise
    → IsJudged Holds judge otherwise (judged read)
by_scanner Holds judge otherwise judged None is reads some none = search rules
by_scanner Holds judge otherwise judged (Some y) is reads some none = record {
  held = λ x held. ap judged (is x held) ∙ some x;
  empty = λ nothing. absurd (nothing (y, reads y refl));
}
