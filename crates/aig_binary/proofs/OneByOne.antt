-- Gates that are read one after another, and what bytes after a gate change.
use Rattle.std.proofs.Common.{◌≡◌, ◌≢◌, ◌≤◌, ◌⊎◌, ◌&&◌, ◌∷◌, ◌++◌, ◌∙◌, ◌^◌, ◌-◌, ◌+◌, ◌<◌, inl, inr, ℕ, zero, suc}
use Rattle.std.proofs.Common.{List, [], length, Bool, true, false, Option, None, Some, Result, Ok, Err, refl, sym, ap}
use Rattle.std.proofs.Common.{subst, arith, append_assoc, length-append, nat_lt, nat_le, cond, rules, append-nil}
use Rattle.std.proofs.Common.{drop, take, take-append-drop}
use Rattle.std.specs.List.{list_all}
use Rattle.std.proofs.lemmas.Bool.{cases_lt, lt-ltb, le-leb, le-ltb}
use Rattle.std.proofs.Math.Bool.{and-false}
use Rattle.std.proofs.lemmas.List.Folds.{list_all-append}
use mathlib.Core.Bool.{◌||◌}
use Rattle.aig_fault.specs.Stopping.{refusal}
use Rattle.aig_circuit.specs.declared.circuit.Gate.{Gate}
use Rattle.aig_circuit.specs.Literal.{literal_of}
use Rattle.aig_fault.specs.declared.kind.Kind.{Kind}
use Rattle.aig_fault.specs.declared.kind.Kind.TheVariants as kinds
use Rattle.aig_rows.specs.Reading.{◌>>=◌}
use Rattle.aig_fault.specs.declared.fault.Place.TheVariants as places
use Rattle.aig_fault.specs.declared.stopped.Stopped.{Stopped}
use Rattle.aig_fault.specs.declared.stopped.Stopped.TheVariants.{OutOfMemory}
use Rattle.aig_binary.specs.Delta.{groups_at, delta_at}
use Rattle.aig_binary.specs.BinaryReading.{no_delta, lowered, lowered_at, gate_at, gates_at}
use Rattle.aig_binary.specs.Begun.{NoneIsThere, gates_behind, gates_from}
use Rattle.aig_binary.proofs.Deltas.Reading.{groups_are, groups_read, put_low, read_last, read_more, read_no_byte}
use Rattle.aig_binary.proofs.Deltas.Reading.{read_no_more, read_nothing, delta_is, delta_read, delta_none, delta_large}
use Rattle.aig_binary.proofs.Deltas.Reading.{small_is, small_only}
use Rattle.aig_binary.proofs.Grammar.Lines.{gate_found, gate_is, lowered_found, lowered_is, then_right, with_right}

abbrev all_go_on : List ℕ → Bool
all_go_on bytes = list_all (λ b. nat_le 128 b) bytes

-- as many bytes as a delta may have, or one that ends it
abbrev IsWhole : ℕ → List ℕ → Type 0
IsWhole most bytes = (most ≤ length bytes) ⊎ (all_go_on bytes ≡ false)

whole_behind : (most b : ℕ) (bytes : List ℕ) → 128 ≤ b → IsWhole (suc most) (b ∷ bytes) → IsWhole most bytes
whole_behind most b bytes high (inl long) = inl (omega (arith, long))
whole_behind most b bytes high (inr ends) = inr (rw (le-leb 128 b high) at ends)

none_behind : (b : ℕ) (r : Option (ℕ × List ℕ)) → put_low b r ≡ None → r ≡ None
none_behind b None h = refl
none_behind b (Some x) h = cc

no_groups : (most : ℕ) (bytes more : List ℕ) → groups_at most bytes ≡ None → IsWhole most bytes
    → groups_at most (bytes ++ more) ≡ None
no_groups zero [] [] h w = read_nothing 0
no_groups zero [] (b ∷ more) h w = read_no_more b more
no_groups (suc most) [] more h (inl long) = absurd (omega (arith, long))
no_groups (suc most) [] more h (inr ends) = cc
no_groups zero (b ∷ bytes) more h w = read_no_more b (bytes ++ more)
no_groups (suc most) (b ∷ bytes) more h w = elim (cases_lt b 128) [
  | inl low ↦ let some = read_last most b bytes low in cc
  | inr high ↦
      elim (cases_lt b 256) [
        | inl byte ↦
            let none = none_behind b (groups_at most bytes) (sym (read_more most b bytes high byte) ∙ h) in
            read_more most b (bytes ++ more) high byte
            ∙ ap (put_low b) (no_groups most bytes more none (whole_behind most b bytes high w))
        | inr large ↦ read_no_byte most b (bytes ++ more) large
      ]
]

delta_stays : (bytes more rest : List ℕ) (value : ℕ) → delta_at bytes ≡ Some (value, rest)
    → delta_at (bytes ++ more) ≡ Some (value, rest ++ more)
delta_stays bytes more rest value h =
    let d = delta_is bytes rest value h in
    ap (λ (bs : List ℕ). delta_at (bs ++ more)) d.1 ∙ ap delta_at (append_assoc d.0 rest more)
    ∙ delta_read d.0 (rest ++ more) value d.2

groups_stay : (bytes more rest : List ℕ) (value : ℕ) → groups_at 5 bytes ≡ Some (value, rest)
    → groups_at 5 (bytes ++ more) ≡ Some (value, rest ++ more)
groups_stay bytes more rest value h =
    let g = groups_are 5 bytes rest value h in
    ap (λ (bs : List ℕ). groups_at 5 (bs ++ more)) g.are ∙ ap (groups_at 5) (append_assoc g.spelling rest more)
    ∙ groups_read 5 g.spelling (rest ++ more) g.groups g.short
    ∙ ap (λ (n : ℕ). Some (n, rest ++ more)) g.spells

gone_by : (bytes more : List ℕ) (r : Option (ℕ × List ℕ)) → groups_at 5 bytes ≡ r → small_only r ≡ None
    → IsWhole 5 bytes → delta_at (bytes ++ more) ≡ None
gone_by bytes more None is none w = delta_none (bytes ++ more) (no_groups 5 bytes more is w)
gone_by bytes more (Some x) is none w = elim (cases_lt x.0 (2 ^ 32)) [
  | inl small ↦ let some = small_is x.0 x.1 small in cc
  | inr large ↦ delta_large (bytes ++ more) (x.1 ++ more) x.0 (groups_stay bytes more x.1 x.0 is) large
]

delta_gone : (bytes more : List ℕ) → delta_at bytes ≡ None → IsWhole 5 bytes → delta_at (bytes ++ more) ≡ None
unfolding delta_at
delta_gone bytes more h w = gone_by bytes more (groups_at 5 bytes) refl h w

-- why no delta stands there
whole_by : (bytes : List ℕ) (go : Bool) → all_go_on bytes ≡ go
    → cond (nat_lt (length bytes) 5 && go) kinds.Truncated kinds.BadDelta ≢ kinds.Truncated → IsWhole 5 bytes
whole_by bytes false is h = inr is
whole_by bytes true is h = elim (cases_lt (length bytes) 5) [
  | inl short ↦ absurd (h (rw (lt-ltb (length bytes) 5 short) refl))
  | inr long ↦ inl long
]

bad_by : (bytes : List ℕ) → IsWhole 5 bytes → no_delta bytes ≡ kinds.BadDelta
bad_by bytes (inl long) = rw (le-ltb (length bytes) 5 long) refl
bad_by bytes (inr ends) = rw (ends, and-false (nat_lt (length bytes) 5)) refl

whole_joined : (bytes more : List ℕ) → IsWhole 5 bytes → IsWhole 5 (bytes ++ more)
whole_joined bytes more (inl long) = inl (omega (arith, long, length-append bytes more))
whole_joined bytes more (inr ends) = inr (list_all-append (λ b. nat_le 128 b) bytes more ∙ rw ends refl)

-- what is left of a literal
abbrev with_more : {A : Type 0} → List ℕ → A × List ℕ → A × List ℕ
with_more more p = (p.0, p.1 ++ more)

low_stays : (from least : ℕ) (bytes more : List ℕ) (p : ℕ × List ℕ) → lowered_at from least bytes ≡ Ok p
    → lowered_at from least (bytes ++ more) ≡ Ok (with_more more p)
low_stays from least bytes more p h =
    let l = lowered_is from least bytes p h in
    ap (λ (bs : List ℕ). lowered_at from least (bs ++ more)) l.are
    ∙ ap (lowered_at from least) (append_assoc l.spelling p.1 more)
    ∙ lowered_found from least p.0 l.spelling (p.1 ++ more) l.delta l.below

test_wrong : (t : Bool) (low : ℕ) (rest more : List ℕ) (kind : Kind)
    → ◌≡◌ {A = Result (ℕ × List ℕ) Kind} (cond t (Err kinds.BadDelta) (Ok (low, rest))) (Err kind)
    → ◌≡◌ {A = Result (ℕ × List ℕ) Kind} (cond t (Err kinds.BadDelta) (Ok (low, rest ++ more))) (Err kind)
test_wrong true low rest more kind h = h
test_wrong false low rest more kind h = cc

pub err_same : {A E : Type 0} (x y : E) → ◌≡◌ {A = Result A E} (Err x) (Err y) → x ≡ y
err_same x y h = cc

low_by : (from least : ℕ) (bytes more : List ℕ) (kind : Kind) (o : Option (ℕ × List ℕ)) → delta_at bytes ≡ o
    → kind ≢ kinds.Truncated → lowered from least (no_delta bytes) o ≡ Err kind
    → lowered from least (no_delta (bytes ++ more)) (delta_at (bytes ++ more)) ≡ Err kind
low_by from least bytes more kind None is other h =
    let same : no_delta bytes ≡ kind = err_same {A = ℕ × List ℕ} {E = Kind} (no_delta bytes) kind h in
    let whole : IsWhole 5 bytes = whole_by bytes (all_go_on bytes) refl (λ e. other (sym same ∙ e)) in
    rw (delta_gone bytes more is whole, bad_by (bytes ++ more) (whole_joined bytes more whole))
    (ap (λ (k : Kind). Err k) (sym (bad_by bytes whole) ∙ same))
low_by from least bytes more kind (Some x) is other h =
    rw (delta_stays bytes more x.1 x.0 is)
    (test_wrong (nat_lt x.0 least || nat_lt from x.0) (from - x.0) x.1 more kind h)

low_wrong : (from least : ℕ) (bytes more : List ℕ) (kind : Kind) → kind ≢ kinds.Truncated
    → lowered_at from least bytes ≡ Err kind → lowered_at from least (bytes ++ more) ≡ Err kind
unfolding lowered_at
low_wrong from least bytes more kind other h = low_by from least bytes more kind (delta_at bytes) refl other h

-- a gate
gate_stays : (variable : ℕ) (bytes more : List ℕ) (p : Gate × List ℕ) → gate_at variable bytes ≡ Ok p
    → gate_at variable (bytes ++ more) ≡ Ok (with_more more p)
gate_stays variable bytes more p h =
    let g = gate_is variable bytes p h in
    ap (λ (bs : List ℕ). gate_at variable (bs ++ more)) g.are
    ∙ ap (gate_at variable) (append_assoc g.spelling p.1 more)
    ∙ subst (λ v. gate_at v (g.spelling ++ (p.1 ++ more)) ≡ Ok (p.0, p.1 ++ more)) g.defines
    (gate_found p.0 g.spelling (p.1 ++ more) g.spelled g.left g.right)

right_wrong : (variable left : ℕ) (bytes more : List ℕ) (kind : Kind) (r : Result (ℕ × List ℕ) Kind)
    → lowered_at left 0 bytes ≡ r → kind ≢ kinds.Truncated
    → ◌>>=◌ {B = Gate × List ℕ} r (with_right variable left) ≡ Err kind
    → lowered_at left 0 (bytes ++ more) >>= with_right variable left ≡ Err kind
right_wrong variable left bytes more kind (Ok p) is other h = cc
right_wrong variable left bytes more kind (Err k) is other h =
    let same : k ≡ kind = err_same {A = Gate × List ℕ} {E = Kind} k kind h in
    rw (low_wrong left 0 bytes more kind other (is ∙ ap (λ (e : Kind). Err e) same)) refl

left_wrong : (variable : ℕ) (bytes more : List ℕ) (kind : Kind) (r : Result (ℕ × List ℕ) Kind)
    → lowered_at (literal_of variable) 1 bytes ≡ r → kind ≢ kinds.Truncated
    → ◌>>=◌ {B = Gate × List ℕ} r (then_right variable) ≡ Err kind
    → lowered_at (literal_of variable) 1 (bytes ++ more) >>= then_right variable ≡ Err kind
left_wrong variable bytes more kind (Ok p) is other h =
    rw (low_stays (literal_of variable) 1 bytes more p is)
    (right_wrong variable p.0 p.1 more kind (lowered_at p.0 0 p.1) refl other h)
left_wrong variable bytes more kind (Err k) is other h =
    let same : k ≡ kind = err_same {A = Gate × List ℕ} {E = Kind} k kind h in
    rw (low_wrong (literal_of variable) 1 bytes more kind other (is ∙ ap (λ (e : Kind). Err e) same)) refl

gate_wrong : (variable : ℕ) (bytes more : List ℕ) (kind : Kind) → kind ≢ kinds.Truncated
    → gate_at variable bytes ≡ Err kind → gate_at variable (bytes ++ more) ≡ Err kind
unfolding gate_at
gate_wrong variable bytes more kind other h =
    left_wrong variable bytes more kind (lowered_at (literal_of variable) 1 bytes) refl other h

-- Reading gates one after another.
abbrev with_first : Gate → List Gate × List ℕ → Result (List Gate × List ℕ) Stopped
with_first g others = Ok (g ∷ others.0, others.1)

found_first : (found : List Gate) (g : Gate) (r : Result (List Gate × List ℕ) Stopped)
    → gates_behind (found ++ g ∷ []) r ≡ gates_behind found (r >>= with_first g)
found_first found g (Ok x) = ap (λ (gs : List Gate). Ok (gs, x.1)) (append_assoc found (g ∷ []) x.0)
found_first found g (Err e) = refl

one_more : (v n count : ℕ) (bytes rest : List ℕ) (g : Gate) → gate_at v bytes ≡ Ok (g, rest)
    → gates_at v n (suc count) bytes ≡ gates_at (suc v) (suc n) count rest >>= with_first g
unfolding gates_at
one_more v n count bytes rest g h = rw h refl

one_wrong : (v n count : ℕ) (bytes : List ℕ) (kind : Kind) → gate_at v bytes ≡ Err kind
    → gates_at v n (suc count) bytes ≡ Err (refusal kind (places.Gate n) 0)
unfolding gates_at
one_wrong v n count bytes kind h = rw h refl

none_left : (v n : ℕ) (bytes : List ℕ) → gates_at v n 0 bytes ≡ Ok ([], bytes)
unfolding gates_at
none_left v n bytes = refl

-- one more gate
gates_more : (v i count : ℕ) (bytes rest : List ℕ) (found : List Gate) (g : Gate) → i < count
    → gate_at (v + i) bytes ≡ Ok (g, rest)
    → gates_behind (found ++ g ∷ []) (gates_at (v + (i + 1)) (i + 1 + 1) (count - (i + 1)) rest)
    ≡ gates_behind found (gates_at (v + i) (i + 1) (count - i) bytes)
gates_more v i count bytes rest found g l h =
    let one : count - i ≡ suc (count - (i + 1)) = omega arith in
    let next : v + (i + 1) ≡ suc (v + i) = omega arith in
    let number : i + 1 + 1 ≡ suc (i + 1) = omega arith in
    rw (one, next, number) (
    found_first found g (gates_at (suc (v + i)) (suc (i + 1)) (count - (i + 1)) rest)
    ∙ ap (gates_behind found) (sym (one_more (v + i) (i + 1) (count - (i + 1)) bytes rest g h))
    )

-- a gate that is not right
gates_wrong : (v i count : ℕ) (bytes : List ℕ) (found : List Gate) (kind : Kind)
    (whole : Result (List Gate × List ℕ) Stopped) → i < count → gate_at (v + i) bytes ≡ Err kind
    → gates_behind found (gates_at (v + i) (i + 1) (count - i) bytes) ≡ whole
    → whole ≡ Err (refusal kind (places.Gate (i + 1)) 0)
gates_wrong v i count bytes found kind whole l h w =
    let one : count - i ≡ suc (count - (i + 1)) = omega arith in
    sym w ∙ rw one (ap (gates_behind found) (one_wrong (v + i) (i + 1) (count - (i + 1)) bytes kind h))

-- no gate is left
gates_done : (v i count : ℕ) (bytes : List ℕ) (found : List Gate) (whole : Result (List Gate × List ℕ) Stopped)
    → count ≤ i
    → gates_behind found (gates_at (v + i) (i + 1) (count - i) bytes) ≡ whole → whole ≡ Ok (found, bytes)
gates_done v i count bytes found whole l w = search (rules, none_left, append-nil)

-- bytes that were taken, and so many more
pub rest_taken : (bytes text rest : List ℕ) (used : ℕ) → bytes ≡ text ++ rest
    → (all : List ℕ) × (bytes ≡ all ++ drop used rest)
rest_taken bytes text rest used cut = (
  text ++ take used rest,
  cut ∙ ap (λ (t : List ℕ). text ++ t) (sym (take-append-drop used rest))
      ∙ sym (append_assoc text (take used rest) (drop used rest)),
)

-- gates that were read, whatever comes after the bytes
module _ (v count : ℕ) (before found : List Gate) (bytes rest : List ℕ) (l : length found < count)
    (on : (more : List ℕ) → gates_from v count before (bytes ++ more) ≡ gates_from v count found (rest ++ more))
  where
    pub gate_taken : (text behind : List ℕ) (g : Gate) → bytes ≡ text ++ rest
        → gate_at (v + length found) rest ≡ Ok (g, behind) → (all : List ℕ) × (bytes ≡ all ++ behind)
    gate_taken text behind g cut h =
        let is = gate_is (v + length found) rest (g, behind) h in (
          text ++ is.spelling,
          cut ∙ ap (λ (bs : List ℕ). text ++ bs) is.are ∙ sym (append_assoc text is.spelling behind),
        )

    pub gate_on : (behind more : List ℕ) (g : Gate) → gate_at (v + length found) rest ≡ Ok (g, behind)
        → gates_from v count before (bytes ++ more) ≡ gates_from v count (found ++ g ∷ []) (behind ++ more)
    gate_on behind more g h =
        on more
        ∙ sym (gates_more v (length found) count (rest ++ more) (behind ++ more) found g l
        (gate_stays (v + length found) rest more (g, behind) h))
        ∙ ap (λ (n : ℕ). gates_behind (found ++ g ∷ []) (gates_at (v + n) (n + 1) (count - n) (behind ++ more)))
        (sym (length-append found (g ∷ [])))

    pub gate_refused : (more : List ℕ) (kind : Kind) → kind ≢ kinds.Truncated
        → gate_at (v + length found) rest ≡ Err kind
        → gates_from v count before (bytes ++ more)
        ≡ Err (refusal kind (places.Gate (length found + 1)) 0)
    gate_refused more kind other h =
        on more
        ∙ gates_wrong v (length found) count (rest ++ more) found kind (gates_from v count found (rest ++ more)) l
        (gate_wrong (v + length found) rest more kind other h) refl

-- where no bytes come
pub alone_wrong : (v count : ℕ) (found : List Gate) (bytes : List ℕ) (e : Stopped)
    → (e ≡ OutOfMemory) ⊎ ((more : List ℕ) → gates_from v count found (bytes ++ more) ≡ Err e)
    → (e ≡ OutOfMemory) ⊎ (gates_from v count found bytes ≡ Err e)
alone_wrong v count found bytes e (inl m) = inl m
alone_wrong v count found bytes e (inr wrong) =
    inr (ap (gates_from v count found) (sym (append-nil bytes)) ∙ wrong [])

module _ (v count : ℕ) (before found : List Gate) (bytes rest : List ℕ)
    (on : (more : List ℕ) → gates_from v count before (bytes ++ more) ≡ gates_from v count found (rest ++ more))
  where
    alone : gates_from v count before bytes ≡ gates_from v count found rest
    alone =
        ap (gates_from v count before) (sym (append-nil bytes)) ∙ on []
        ∙ ap (gates_from v count found) (append-nil rest)

    pub alone_cut : NoneIsThere v count found rest → length found < count
        → gates_from v count before bytes
        ≡ Err (refusal kinds.Truncated (places.Gate (length found + 1)) 0)
    alone_cut (inl all) few = absurd (omega (arith, all))
    alone_cut (inr cut) few =
        alone
        ∙ gates_wrong v (length found) count rest found kinds.Truncated (gates_from v count found rest) few cut refl

    pub alone_done : count ≤ length found → gates_from v count before bytes ≡ Ok (found, rest)
    alone_done all = alone ∙ gates_done v (length found) count rest found (gates_from v count found rest) all refl
