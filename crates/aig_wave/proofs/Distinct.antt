-- The names and the codes of a circuit's signals.
use Rattle.std.proofs.Common.{◌≡◌, ◌==◌, ◌∙◌, ◌∷◌, if◌then◌else◌, ◌≢◌, ◌+◌, ◌^◌, ◌<◌, ◌≤◌, ◌++◌, ℕ, List, [], Bool}
use Rattle.std.proofs.Common.{true, false, fold, length, refl, decimal, sym, ap, subst, arith, slice_set, flat_map}
use Rattle.std.proofs.Common.{length-set}
use Rattle.std.specs.List.{AllByRecursion}
use Rattle.std.proofs.lemmas.List.{length-replicate}
use Rattle.std.proofs.lemmas.Fmt.{decimal_injective}
use Rattle.aig_circuit.specs.declared.circuit.Circuit.{Circuit}
use Rattle.aig_circuit.specs.declared.circuit.Kind.{Kind}
use Rattle.aig_circuit.specs.declared.circuit.Symbol.{Symbol}
use Rattle.aig_circuit.specs.Wellformed.{count_of, IsWithinLimits}
use Rattle.aig_wave.specs.Places.{letter, kinds}
use Rattle.aig_wave.specs.Signals.{named, names_of, followers, signal, signals_behind, signals_of}
use Rattle.aig_wave.specs.declared.signal.Signal.{Signal}
use Rattle.aig_wave.specs.Head.{code}
use Rattle.aig_wave.specs.Laws.{HaveDistinctCodes}
use Rattle.aig_wave.specs.Names.{follows}

named_if : (is : Bool) (names : List (List ℕ)) (position : ℕ) (name : List ℕ)
    → length (if is then slice_set names position name else names) ≡ length names
named_if true names position name = length-set names position name
named_if false names position name = refl

named_length : (kind : Kind) (names : List (List ℕ)) (symbols : List Symbol)
    → length (fold (named kind) names symbols) ≡ length names
named_length kind names [] = refl
named_length kind names (s ∷ ss) =
    named_length kind (named kind names s) ss
    ∙ named_if (letter s.kind == letter kind) names s.position s.name

pub names_count : (c : Circuit) (kind : Kind) → length (names_of c kind) ≡ count_of c kind
names_count c kind = named_length kind _ c.symbols ∙ length-replicate (count_of c kind) []

-- The codes of a circuit's signals.

-- signals of a kind whose first positions rise, from one on and below another
AreRising : Kind → ℕ → ℕ → List Signal → Type 0
AreRising kind low high [] = Unit {0}
AreRising kind low high (s ∷ ss) =
    (s.kind ≡ kind) × (low ≤ s.first) × (s.first < high) × AreRising kind (s.first + 1) high ss

rising_lower : (kind : Kind) (low least high : ℕ) (ss : List Signal) → least ≤ low → AreRising kind low high ss
    → AreRising kind least high ss
unfolding AreRising
rising_lower kind low least high [] below r = tt
rising_lower kind low least high (s ∷ ss) below r = (r.0, omega (arith, r.1), r.2, r.3)

rising_if : (test : Bool) (kind : Kind) (p high : ℕ) (s : Signal) (ss : List Signal) → s.kind ≡ kind → s.first ≡ p
    → p < high → AreRising kind (p + 1) high ss → AreRising kind p high ((if test then [] else s ∷ []) ++ ss)
unfolding AreRising
rising_if true kind p high s ss is first below r = rising_lower kind (p + 1) p high ss (omega arith) r
rising_if false kind p high s ss is first below r =
    (is, omega (arith, first), omega (arith, first), subst (λ (n : ℕ). AreRising kind (n + 1) high ss) (sym first) r)

behind_rises : (c : Circuit) (kind : Kind) (p : ℕ) (before : List ℕ) (ns : List (List ℕ)) (high : ℕ)
    → p + length ns ≤ high → AreRising kind p high (signals_behind c kind p before ns)
unfolding AreRising
behind_rises c kind p before [] high below = tt
behind_rises c kind p before (n ∷ ns) high below =
    rising_if (follows before n) kind p high (signal c kind p (1 + followers n ns)) _ refl refl (omega arith)
    (behind_rises c kind (p + 1) n ns high (omega arith))

-- a later signal of the kind has another code
other_position : (s t : Signal) → s.first < t.first → t.first < 2 ^ 64 → code s ≢ code t
other_position s t later below = λ same.
    let digits : decimal s.first ≡ decimal t.first = cc in
    let number : s.first ≡ t.first = decimal_injective s.first t.first (omega arith) below digits in
    omega (arith, number)

abbrev OtherThan : Signal → Signal → Type 0
OtherThan s t = code s ≢ code t

others_later : (kind : Kind) (s : Signal) (low high : ℕ) (ss : List Signal) → s.first < low → high ≤ 2 ^ 64
    → AreRising kind low high ss → AllByRecursion (OtherThan s) ss
unfolding AreRising
others_later kind s low high [] below limit r = tt
others_later kind s low high (t ∷ ts) below limit r = (
  other_position s t (omega (arith, r.1)) (omega (arith, r.2)),
  others_later kind s (t.first + 1) high ts (omega (arith, r.1)) limit r.3,
)

rising_distinct : (kind : Kind) (low high : ℕ) (ss : List Signal) → high ≤ 2 ^ 64 → AreRising kind low high ss
    → HaveDistinctCodes ss
unfolding AreRising
rising_distinct kind low high [] limit r = tt
rising_distinct kind low high (s ∷ ss) limit r = (
  others_later kind s (s.first + 1) high ss (omega arith) limit r.3,
  rising_distinct kind (s.first + 1) high ss limit r.3,
)

-- signals of other kinds
abbrev IsOfOther : ℕ → Signal → Type 0
IsOfOther l s = l ≢ letter s.kind

all_joined : (P : Signal → Type 0) (ss ts : List Signal) → AllByRecursion P ss → AllByRecursion P ts
    → AllByRecursion P (ss ++ ts)
all_joined P [] ts p q = q
all_joined P (s ∷ ss) ts p q = (p.0, all_joined P ss ts p.1 q)

rising_other : (l : ℕ) (kind : Kind) (low high : ℕ) (ss : List Signal) → l ≢ letter kind → AreRising kind low high ss
    → AllByRecursion (IsOfOther l) ss
unfolding AreRising
rising_other l kind low high [] other r = tt
rising_other l kind low high (s ∷ ss) other r =
    (λ same. other (same ∙ ap letter r.0), rising_other l kind (s.first + 1) high ss other r.3)

other_codes : (s : Signal) (l : ℕ) (ts : List Signal) → letter s.kind ≡ l → AllByRecursion (IsOfOther l) ts
    → AllByRecursion (OtherThan s) ts
other_codes s l [] is others = tt
other_codes s l (t ∷ ts) is others = (
  λ same. (let first : letter s.kind ≡ letter t.kind = cc in others.0 (sym is ∙ first)),
  other_codes s l ts is others.1,
)

distinct_joined : (kind : Kind) (low high : ℕ) (ss ts : List Signal) → high ≤ 2 ^ 64 → AreRising kind low high ss
    → AllByRecursion (IsOfOther (letter kind)) ts → HaveDistinctCodes ts → HaveDistinctCodes (ss ++ ts)
unfolding AreRising
distinct_joined kind low high [] ts limit r others q = q
distinct_joined kind low high (s ∷ ss) ts limit r others q = (
  all_joined (OtherThan s) ss ts (others_later kind s (s.first + 1) high ss (omega arith) limit r.3)
      (other_codes s (letter kind) ts (ap letter r.0) others),
  distinct_joined kind (s.first + 1) high ss ts limit r.3 others q,
)

module _ (c : Circuit) where
  -- so many of each kind that they can be counted
  abbrev AreCountable : List Kind → Type 0
  AreCountable ks = AllByRecursion (λ k. count_of c k ≤ 2 ^ 64) ks

  of_kind : (kind : Kind) → AreRising kind 0 (count_of c kind) (signals_of c kind)
  of_kind kind = behind_rises c kind 0 [] (names_of c kind) (count_of c kind) (omega (arith, names_count c kind))

  others_of : (l : ℕ) (ks : List Kind) → AllByRecursion (λ k. l ≢ letter k) ks
      → AllByRecursion (IsOfOther l) (flat_map (signals_of c) ks)
  others_of l [] others = tt
  others_of l (k ∷ ks) others =
      all_joined (IsOfOther l) (signals_of c k) (flat_map (signals_of c) ks)
      (rising_other l k 0 (count_of c k) (signals_of c k) others.0 (of_kind k)) (others_of l ks others.1)

  abbrev AreOtherKinds : List Kind → Type 0
  AreOtherKinds [] = Unit {0}
  AreOtherKinds (k ∷ ks) = AllByRecursion (λ j. letter k ≢ letter j) ks × AreOtherKinds ks

  all_distinct : (ks : List Kind) → AreOtherKinds ks → AreCountable ks
      → HaveDistinctCodes (flat_map (signals_of c) ks)
  all_distinct [] others countable = tt
  all_distinct (k ∷ ks) others countable =
      distinct_joined k 0 (count_of c k) (signals_of c k) (flat_map (signals_of c) ks) countable.0 (of_kind k)
      (others_of (letter k) ks others.0) (all_distinct ks others.1 countable.1)

  pub codes_are_distinct : IsWithinLimits c → HaveDistinctCodes (flat_map (signals_of c) kinds)
  codes_are_distinct limits =
      let outputs = limits.literals.0 in
      let bad = limits.literals.1.0 in
      let constraints = limits.literals.1.1.0 in
      all_distinct kinds (
        (λ e. omega (arith, e), (λ e. omega (arith, e), (λ e. omega (arith, e), (λ e. omega (arith, e), tt)))),
        (
          (λ e. omega (arith, e), (λ e. omega (arith, e), (λ e. omega (arith, e), tt))),
          (
            (λ e. omega (arith, e), (λ e. omega (arith, e), tt)),
            ((λ e. omega (arith, e), tt), (tt, tt)),
          ),
        ),
      ) (
        omega (arith, limits.inputs),
        (
          omega (arith, limits.latches),
          (
            omega (arith, outputs),
            (
              omega (arith, bad),
              (omega (arith, constraints), tt),
            ),
          ),
        ),
      )
