-- Bytes that move one part after another, from a source or through a window.
use Rattle.std.proofs.Common.{◌≡◌, ◌+◌, ◌-◌, ◌++◌, ◌∙◌, ◌<◌, ◌≤◌, ℕ, zero, suc, List, Ok, take, drop, take-add, length}
use Rattle.std.proofs.Common.{length-drop, Err, IfErr, IsErrAnd, Result, arith, ap, false, refl, sym, Option, []}
use Rattle.std.proofs.Common.{append_assoc, append-nil, Bool, true, subst, length-take, not, nat_lt}
use Rattle.std.specs.Coded.{coded_list, coded_ℕ}
use Rattle.std.specs.List.{copy_within}
use Rattle.std.proofs.lemmas.List.{drop-drop, take_all, length-take-le, drop-take, take-append-le}
use Rattle.std.proofs.lemmas.Grind.{common_steps}
use Rattle.std.proofs.Math.Seq.{take-append-add}
use Rattle.std.proofs.lemmas.Bool.{lt-ltb}
use Rattle.aig_io.specs.declared.device.DeviceFault.{DeviceFault}
use Rattle.aig_io.specs.Memory.{one_call_later, source_after}
use Rattle.aig_io.specs.Devices.{GaveSome, History, after_fetch, failed_once, gave, gave_all, no_file, took, Origin}
use Rattle.aig_io.specs.declared.transfer.ReadError.{ReadError}
use Rattle.aig_io.specs.declared.transfer.ReadError.TheVariants as errors
use Rattle.aig_io.specs.declared.transfer.ReadError.TheVariants.{OutOfMemory}
use Rattle.aig_io.specs.Lent.{HasGiven, lent}
use Rattle.aig_io.specs.Windows.{Filled}

-- the slice from n on is all that is left
rest_is : (bs : List ℕ) (n : ℕ) → take (length bs - n) (drop n bs) ≡ drop n bs
rest_is bs n = take_all (length bs - n) (drop n bs) (omega (arith, length-drop n bs))

pub took_twice : (a b c : History) (xs ys : List ℕ) → b ≡ took xs a → c ≡ took ys b → c ≡ took (xs ++ ys) a
took_twice a b c xs ys p q =
    q ∙ ap (took ys) p ∙ ap (λ (zs : List ℕ). record a { bytes = zs }) (append_assoc a.bytes xs ys)

-- bytes that came one part after another
pub gave_then : (ended : Bool) (xs ys : List ℕ) (a b c : History) → b ≡ took xs a → c ≡ gave ys ended b
    → c ≡ gave (xs ++ ys) ended a
gave_then true xs ys a b c p q =
    q ∙ ap (gave_all ys) p
    ∙ ap (λ (bytes : List ℕ). record a { bytes = bytes; ends = a.ends + 1 }) (append_assoc a.bytes xs ys)
gave_then false xs ys a b c p q = took_twice a b c xs ys p q

pub some_later : (error : ReadError) (xs : List ℕ) (a b c : History) → b ≡ took xs a → GaveSome error b c
    → GaveSome error a c
some_later errors.Source xs a b c p (bytes, q) =
    (xs ++ bytes, q ∙ ap failed_once (took_twice a b (took bytes b) xs bytes p refl))
some_later errors.OutOfMemory xs a b c p (bytes, ended, q) = (xs ++ bytes, ended, gave_then ended xs bytes a b c p q)

-- it took nothing yet
pub took_none : (a : History) → a ≡ took [] a
took_none a = ap (λ (bytes : List ℕ). record a { bytes = bytes }) (sym (append-nil a.bytes))

-- the first n bytes, and then k of the slice from n on
pub took_more : (a b c : History) (bs : List ℕ) (n k : ℕ) → b ≡ took (take n bs) a
    → c ≡ took (take k (take (length bs - n) (drop n bs))) b → c ≡ took (take (n + k) bs) a
took_more a b c bs n k p q = rw take-add (took_twice a b c _ _ p (rw rest_is at q))

-- a fetch that is not at the end gives bytes
pub gave_next : (into : List ℕ) (n : ℕ) (a : History) → 0 < n → after_fetch {E = DeviceFault} into (Ok n) a
    ≡ took (take n into) a
gave_next into zero a p =
    let none : ⊥ = omega (arith, p) in
    absurd none
gave_next into (suc n) a p = refl

-- a source in memory puts the next n of its bytes at the front
pub front_is : (bs cs ys rest : List ℕ) (at n : ℕ) → ys ≡ take (at + n - at) (drop at cs) → cs ≡ bs → at + n ≤ length bs
    → take n (ys ++ rest) ≡ take n (drop at bs)
front_is bs cs ys rest at n is same fits = grind (arith, common_steps)

pub fetched : (bs into : List ℕ) (at n ends failures piece : ℕ) (before later : Option ℕ) → later
    ≡ one_call_later before
    → 0 < n → take n into ≡ take n (drop at bs)
    → record {
      history = record { origin = no_file; bytes = take (at + n) bs; ends = ends; failures = failures };
      coming = drop (at + n) bs;
      piece = piece;
      fails_in = later;
    }
    ≡ source_after into (Ok n) (record {
      history = record {
        origin = no_file;
        bytes = take at bs;
        ends = ends;
        failures = failures;
      };
      coming = drop at bs;
      piece = piece;
      fails_in = before;
    })
fetched bs into at n ends failures piece before later counted some front =
    rw (
      gave_next into n (record { origin = no_file; bytes = take at bs; ends = ends; failures = failures }) some,
      front,
      take-add,
      drop-drop,
      counted,
    ) refl

-- in reading, where memory was refused then
pub gave_more : (a b c : History) (xs ys : List ℕ) → b ≡ took xs a → c ≡ took ys b → GaveSome OutOfMemory a c
gave_more a b c xs ys p q = (xs ++ ys, false, took_twice a b c xs ys p q)

pub memory_refused : {T : Type 0} (r : Result T ReadError) (a b : History) → IsErrAnd r (λ e. e ≡ OutOfMemory)
    → GaveSome OutOfMemory a b → IfErr r (λ e. GaveSome e a b)
memory_refused (Ok x) a b is some = tt
memory_refused (Err e) a b is some = rw is some

pub gave_none : (a : History) → GaveSome OutOfMemory a a
gave_none a = ([], false, took_none a)

-- What a source over bytes that are lent gave.

-- a fetch that is not at the end gives the next bytes
pub lent_fetched : (bs into : List ℕ) (at n ends : ℕ) → 0 < n → take n into ≡ take n (drop at bs)
    → record { origin = lent bs; bytes = take (at + n) bs; ends = ends; failures = 0 }
    ≡ after_fetch {E = DeviceFault} into (Ok n)
    (record { origin = lent bs; bytes = take at bs; ends = ends; failures = 0 })
lent_fetched bs into at n ends some front =
    let before : History = record { origin = lent bs; bytes = take at bs; ends = ends; failures = 0 } in
    rw (gave_next into n before some, front, take-add) refl

-- the origin tells the bytes
lent_same : (bs cs : List ℕ) → lent bs ≡ lent cs → bs ≡ cs
lent_same bs cs e = (coded_list coded_ℕ).inj bs cs (ap (λ (o : Origin). o.stands_on) e)

pub has_given : (bs : List ℕ) (at ends : ℕ) → at ≤ length bs → (0 < ends → at ≡ length bs)
    → HasGiven (record { origin = lent bs; bytes = take at bs; ends = ends; failures = 0 })
has_given bs at ends within whole = record {
  front = λ bytes same. subst (λ (b : List ℕ). take at bs ≡ take (length (take at bs)) b) (lent_same bs bytes same)
      (ap (λ (n : ℕ). take n bs) (sym (length-take-le at bs within)));
  whole = λ bytes same ended. subst (λ (b : List ℕ). take at bs ≡ b) (lent_same bs bytes same)
      (take_all at bs (omega (arith, whole ended)));
}

-- The bytes of a window: some are let go, others come.
pub front_moved : (xs ys now : List ℕ) (count len : ℕ) → ys ≡ copy_within xs count len 0 → take len xs ≡ now
    → count ≤ length now → len ≤ length xs → take (len - count) ys ≡ drop count now
front_moved xs ys now count len moved is some fits =
    let some = rw (← is) at some in
    let low : count ≤ len = omega (arith, some, length-take len xs) in
    let n = len - count in
    let long : n ≤ length (take n (drop count xs)) =
    omega (arith, low, fits, length-take n (drop count xs), length-drop count xs) in
    let all : count + n ≡ len = omega (arith, low) in
    ap (take n) moved ∙ take-append-le n (take n (drop count xs)) (drop (0 + n) xs) long
    ∙ take_all n (take n (drop count xs)) (omega (arith, length-take n (drop count xs)))
    ∙ sym (drop-take count n xs) ∙ ap (λ (k : ℕ). drop count (take k xs)) all ∙ ap (drop count) is

pub fetched_behind : (xs into behind now : List ℕ) (len n : ℕ) → take len xs ≡ now → len ≤ length xs
    → n ≤ length into → take (len + n) (take len xs ++ (into ++ behind)) ≡ now ++ take n into
fetched_behind xs into behind now len n is fits few =
    let long : len ≡ length (take len xs) = omega (arith, fits, length-take len xs) in
    ap (λ (k : ℕ). take (k + n) (take len xs ++ (into ++ behind))) long
    ∙ take-append-add (take len xs) (into ++ behind) n
    ∙ ap (λ (bytes : List ℕ). take len xs ++ bytes) (take-append-le n into behind few)
    ∙ ap (λ (bytes : List ℕ). bytes ++ take n into) is

pub gave_fetched : (into : List ℕ) (n : ℕ) (a : History)
    → after_fetch {E = DeviceFault} into (Ok n) a ≡ gave (take n into) (not (nat_lt 0 n)) a
gave_fetched into zero a =
    ap (λ (bytes : List ℕ). record a { bytes = bytes; ends = a.ends + 1 }) (sym (append-nil a.bytes))
gave_fetched into (suc n) a = rw (lt-ltb 0 (suc n) (omega arith)) refl

filled_none : (u : List ℕ) (a : History) → Filled u u true a a
filled_none u a = record { given = []; held = sym (append-nil u); gave = took_none a }

pub filled_then : (u v w : List ℕ) (more : Bool) (a b c : History) → Filled u v true a b → Filled v w more b c
    → Filled u w more a c
filled_then u v w more a b c f g = record {
  given = f.given ++ g.given;
  held = g.held ∙ ap (λ (bytes : List ℕ). bytes ++ g.given) f.held ∙ append_assoc u f.given g.given;
  gave = gave_then (not more) f.given g.given a b c f.gave g.gave;
}
