-- Signals that stand in one group, by a name parted at its last bracket.
use Rattle.std.proofs.Common.{◌≡◌, ◌==◌, ◌+◌, ◌<◌, ◌≤◌, ◌∷◌, ◌^◌, ◌∙◌, ◌-◌, ◌++◌, ◌||◌, ◌&&◌, if◌then◌else◌, ℕ, zero}
use Rattle.std.proofs.Common.{suc, List, [], Bool, true, false, None, Some, length, take, drop, get_or, arith, refl}
use Rattle.std.proofs.Common.{sym, ap, ap₂, not, bytes_eq, map}
use Rattle.std.specs.List.{AllByRecursion, flat_map}
use Rattle.std.proofs.lemmas.Bool.Decides.{nat_tests}
use Rattle.std.proofs.lemmas.List.{drop-drop, at_drop_more, drop-take, take-append-drop, take-take}
use Rattle.std.proofs.lemmas.Bool.{eqb-true, false≢true}
use Rattle.std.proofs.lemmas.List.Concat.{flat_map-append}
use Rattle.std.proofs.lemmas.Slice.Eq.{bytes_eq-Decides}
use Rattle.memchr.specs.Find.{IsLastByte, is_byte}
use Rattle.aig_circuit.proofs.Checking.{back, front}
use Rattle.aig_rows.specs.CanonicalNumber.{canonical_before}
use Rattle.aig_wave.specs.Names.{index_in, indexed, indexed_in, parted, parted_behind}
use Rattle.aig_wave.specs.declared.group.Group.{Group}
use Rattle.aig_wave.specs.declared.signal.Signal.{Signal}
use Rattle.aig_wave.specs.declared.signal_code.SignalCode.{SignalCode}
use Rattle.aig_wave.specs.Frames.{frame}
use Rattle.aig_wave.specs.Wave.{bits, change_text}
use Rattle.aig_wave.specs.Parts.Groups.{AreBits, AreSignalGroups, Covers, IsSignalWithin, stretch}
use Rattle.aig_wave.specs.Parts.SignalCodes.{AreIn, bit_text, bits_text, changes_text, IsSignalCode, place_of}
use Rattle.aig_wave.specs.Parts.SignalCodes.{signal_in}

not_true : (b : Bool) → (b ≡ true → ⊥) → b ≡ false
not_true true refuted = absurd (refuted refl)
not_true false _ = refl

-- no byte from here on is a bracket
abbrev Lacks : List ℕ → ℕ → Type 0
Lacks bs from = (k : ℕ) → from ≤ k → k < length bs → (get_or bs k 0 == 91) ≡ true → ⊥

behind_one : (b : ℕ) (bs : List ℕ) (from : ℕ) → Lacks (b ∷ bs) (suc from) → Lacks bs from
behind_one b bs from none = λ k low high. none (suc k) (omega arith) (omega arith)

lacking : (bs : List ℕ) → Lacks bs 0 → parted bs ≡ None
lacking [] none = refl
lacking (b ∷ bs) none =
    ap (parted_behind b bs) (lacking bs (λ k low high. none (suc k) (omega arith) (omega arith)))
    ∙ rw (not_true (b == 91) (none 0 (omega arith) (omega arith))) refl

at_bracket : (bs : List ℕ) (at : ℕ) → at < length bs → (get_or bs at 0 == 91) ≡ true → Lacks bs (suc at)
    → parted bs ≡ Some (record { front = take at bs; rest = drop (suc at) bs })
at_bracket [] at low is none = absurd (omega arith)
at_bracket (b ∷ bs) zero low is none =
    ap (parted_behind b bs) (lacking bs (behind_one b bs 0 none)) ∙ rw is refl
at_bracket (b ∷ bs) (suc at) low is none =
    ap (parted_behind b bs) (at_bracket bs at (omega arith) is (behind_one b bs (suc at) none))

parted_none : (bs : List ℕ) → IsLastByte (is_byte 91) bs None → parted bs ≡ None
parted_none bs found = lacking bs (λ k low high. found k low high)

parted_at : (bs : List ℕ) (at : ℕ) → IsLastByte (is_byte 91) bs (Some at)
    → parted bs ≡ Some (record { front = take at bs; rest = drop (suc at) bs })
parted_at bs at found =
    at_bracket bs at (omega (arith, found.0.high)) found.1
    (λ k low high. found.0.after k (omega arith) high)

pub not_indexed : (bs : List ℕ) → IsLastByte (is_byte 91) bs None → indexed bs ≡ None
unfolding indexed
not_indexed bs found = ap indexed_in (parted_none bs found)

-- what is read after the last bracket
pub indexed_is : (bs front digits : List ℕ) (at : ℕ) → IsLastByte (is_byte 91) bs (Some at) → front ≡ take at bs
    → digits ≡ drop 1 (drop at bs) → indexed bs ≡ index_in front (canonical_before 93 digits)
unfolding indexed
indexed_is bs front digits at found before behind =
    let one : suc at ≡ at + 1 = omega arith in
    let rest : drop (suc at) bs ≡ digits = rw one (sym (drop-drop 1 at bs)) ∙ sym behind in
    ap indexed_in (parted_at bs at found)
    ∙ ap₂ (λ (f d : List ℕ). index_in f (canonical_before 93 d)) (sym before) rest

pub index_good : (front after : List ℕ) (n : ℕ) → (length front == 0) ≡ false → (length after == 0) ≡ true
    → n < 10 ^ 9 → index_in front (Some (n, after)) ≡ Some (record { front = front; index = n })
index_good front after n some none low = grind (arith, nat_tests)

pub index_no_front : (front after : List ℕ) (n : ℕ) → (length front == 0) ≡ true
    → index_in front (Some (n, after)) ≡ None
index_no_front front after n none = grind (arith, nat_tests)

pub index_more : (front after : List ℕ) (n : ℕ) → (length after == 0) ≡ false → index_in front (Some (n, after)) ≡ None
index_more front after n some = grind (arith, nat_tests)

pub index_large : (front after : List ℕ) (n : ℕ) → 10 ^ 9 ≤ n → index_in front (Some (n, after)) ≡ None
index_large front after n high = grind (arith, nat_tests)

-- Signals that stand in one group.
bits_within : (g : Group) (s : Signal) (line : List ℕ) → IsSignalWithin g s
    → take s.size (drop (s.start - g.start) (stretch g line)) ≡ bits s line
bits_within g s line within =
    let d = s.start - g.start in
    let m = g.end - s.start in
    let low : g.start ≤ s.start = within.0 in
    let high : s.start + s.size ≤ g.end = within.1 in
    let whole : g.end - g.start ≡ d + m = omega arith in
    let here : g.start + d ≡ s.start = omega arith in
    ap (λ (n : ℕ). take s.size (drop d (take n (drop g.start line)))) whole
    ∙ ap (take s.size) (drop-take d m (drop g.start line) ∙ ap (take m) (drop-drop d g.start line))
    ∙ take-take s.size m (drop (g.start + d) line) (omega arith)
    ∙ ap (λ (n : ℕ). take s.size (drop n line)) here

both : (b d : Bool) → false ≡ (b || not d) → (b ≡ false) × (d ≡ true)
both true d e = absurd (false≢true e)
both false true e = (refl, refl)
both false false e = absurd (false≢true e)

module _ (time : ℕ) (g : Group) (before line : List ℕ) where
  no_change : (s : Signal) → (time == 0) ≡ false → stretch g before ≡ stretch g line → IsSignalWithin g s
      → change_text time (frame 0 before) (frame 0 line) s ≡ []
  no_change s late same within =
      let alike : bits s before ≡ bits s line = sym (bits_within g s before within)
      ∙ ap (λ (t : List ℕ). take s.size (drop (s.start - g.start) t)) same ∙ bits_within g s line within in
      rw (late, (bytes_eq-Decides (bits s before) (bits s line)).1 alike) refl

  none_change : (ts : List SignalCode) → (time == 0) ≡ false → stretch g before ≡ stretch g line → Covers g ts
      → changes_text time before line ts ≡ []
  none_change [] late same covers = refl
  none_change (t ∷ ts) late same covers =
      ap (λ (text : List ℕ). text ++ changes_text time before line ts)
      (no_change (signal_in t) late same covers.0) ∙ none_change ts late same covers.1

  -- where the characters of a group are not new, no signal of it changes
  pub no_changes : (ts : List SignalCode) (x y : List ℕ) → x ≡ stretch g before → y ≡ stretch g line
      → false ≡ ((time == 0) || not (bytes_eq x y)) → Covers g ts → changes_text time before line ts ≡ []
  no_changes ts x y p q old covers =
      let is = both (time == 0) (bytes_eq x y) old in
      none_change ts is.0 (sym p ∙ (bytes_eq-Decides x y).0 is.1 ∙ q) covers

one_bit : (s : Signal) (line : List ℕ) → s.size ≡ 1 → s.start < length line → bits s line ≡ get_or line s.start 0 ∷ []
one_bit s line one low = rw (one, at_drop_more (λ (xs : List ℕ). xs) line s.start 0 low) refl

shown_bit : (same : Bool) (text : List ℕ)
    → (if same then [] else text) ≡ (if not (same && true) then text else [])
shown_bit true text = refl
shown_bit false text = refl

module _ (time : ℕ) (before line : List ℕ) (late : (time == 0) ≡ false) where
  bit_change : (s : Signal) → s.size ≡ 1 → s.start < length before → s.start < length line
      → bit_text (get_or before s.start 0) (get_or line s.start 0) s
      ≡ change_text time (frame 0 before) (frame 0 line) s
  bit_change s one low here =
      rw (late, one_bit s before one low, one_bit s line one here, one)
      (shown_bit (get_or before s.start 0 == get_or line s.start 0) _)

  -- signals of one position that change, as any others do
  pub bits_change : (ts : List SignalCode) → AreBits ts → AreIn (length before) ts → AreIn (length line) ts
      → bits_text before line ts ≡ changes_text time before line ts
  bits_change [] are low here = refl
  bits_change (t ∷ ts) are low here =
      ap₂ (λ (a b : List ℕ). a ++ b) (bit_change (signal_in t) are.0 low.0 here.0)
      (bits_change ts are.1 low.1 here.1)

-- signals of one position stand in a line that has all of their group
pub in_line : (g : Group) (n : ℕ) (ts : List SignalCode) → g.end ≤ n → Covers g ts → AreBits ts → AreIn n ts
in_line g n [] long covers are = tt
in_line g n (t ∷ ts) long covers are =
    let last : place_of t + (signal_in t).size ≤ g.end = covers.0.1 in
    let one : (signal_in t).size ≡ 1 = are.0 in
    (omega arith, in_line g n ts long covers.1 are.1)

pub parted_text : (f : SignalCode → List ℕ) (n : ℕ) (ts front others : List SignalCode) → front ≡ take n ts
    → others ≡ drop n ts → flat_map f front ++ flat_map f others ≡ flat_map f ts
parted_text f n ts front others p q =
    sym (flat_map-append f front others)
    ∙ ap (flat_map f) (ap₂ (λ (x y : List SignalCode). x ++ y) p q ∙ take-append-drop n ts)

pub next_group : (gs : List Group) (i : ℕ) (d : Group) (ts : List SignalCode) → i < length gs
    → AreSignalGroups (drop i gs) ts → AreSignalGroups (get_or gs i d ∷ drop (i + 1) gs) ts
next_group gs i d ts low are = rw (at_drop_more (λ (xs : List Group). xs) gs i d low) at are

pub next_signal : (start end : ℕ) (g : Group) (ts : List SignalCode) (i : ℕ) (d : SignalCode) → i < length ts
    → (start ≤ place_of (get_or ts i d))
    × (place_of (get_or ts i d) + (signal_in (get_or ts i d)).size ≤ end)
    → g.start ≤ start → end ≤ g.end → Covers g (drop (i + 1) ts) → Covers g (drop i ts)
next_signal start end g ts i d low here before behind rest =
    let first = here.0 in
    let last = here.1 in
    rw (at_drop_more (λ (xs : List SignalCode). xs) ts i d low) ((omega arith, omega arith), rest)

pub next_bit : (ts : List SignalCode) (i : ℕ) (d : SignalCode) → i < length ts → (signal_in (get_or ts i d)).size ≡ 1
    → AreBits (drop (i + 1) ts) → AreBits (drop i ts)
next_bit ts i d low one rest =
    rw (at_drop_more (λ (xs : List SignalCode). xs) ts i d low) (one, rest)

pub both_true : (a : Bool) (n : ℕ) (c : Bool) → c ≡ (a && (n == 1)) → c ≡ true → (a ≡ true) × (n ≡ 1)
both_true true n c e is = (refl, eqb-true n 1 (sym e ∙ is))
both_true false n c e is = absurd (false≢true (sym e ∙ is))

pub parted_tags : (n : ℕ) (ts these others : List SignalCode) → these ≡ take n ts → others ≡ drop n ts
    → AllByRecursion IsSignalCode ts → AllByRecursion IsSignalCode these × AllByRecursion IsSignalCode others
parted_tags n ts these others p q are =
    let all : AllByRecursion IsSignalCode (take n ts ++ drop n ts) = rw (take-append-drop n ts) are in
    (rw p (front IsSignalCode (take n ts) (drop n ts) all), rw q (back IsSignalCode (take n ts) (drop n ts) all))

-- the changes of signal_codes are those of their signals
pub changes_of : (f : Signal → List ℕ) (ts : List SignalCode)
    → flat_map (λ t. f (signal_in t)) ts ≡ flat_map f (map signal_in ts)
changes_of f [] = refl
changes_of f (t ∷ ts) = ap (λ (text : List ℕ). f (signal_in t) ++ text) (changes_of f ts)
