-- Where a text is cut into lines: where memchr finds the first line feed, the first line ends.
use Rattle.std.proofs.Common.{◌≡◌, ◌≢◌, ◌<◌, ◌∷◌, ◌+◌, rules, ℕ, zero, suc, List, [], true, false, take, drop, length}
use Rattle.std.proofs.Common.{get_or, Some, None, refl, ap, arith, eqb, add-one, Bool, length-take}
use Rattle.std.proofs.lemmas.Bool.{eqb-false, false_from_ne_true}
use Rattle.memchr.specs.Find.{IsFirstByte, Nowhere, Passes, is_byte}
use Rattle.std.proofs.lemmas.Bool.Decides.{eqb_tells}
use Rattle.aig_lines.specs.Lines.{Line, line, lines_of, begun_by, AreEnded, HasNoLineFeed}
use Rattle.aig_lines.specs.Laws.{AreLines}

cut : (bs : List ℕ) (at : ℕ) → at < length bs → ((k : ℕ) → k < at → eqb (get_or bs k 0) 10 ≡ false)
    → eqb (get_or bs at 0) 10 ≡ true
    → lines_of bs ≡ line (take at bs) true ∷ lines_of (drop 1 (drop at bs))
unfolding lines_of
cut [] at l before here = absurd (omega arith)
cut (b ∷ bs) zero l before here = rw here refl
cut (b ∷ bs) (suc n) l before here =
    rw (before 0 (omega arith), cut bs n (omega arith) (λ k m. before (suc k) (omega arith)) here) refl

uncut : (b : ℕ) (bs : List ℕ) → ((k : ℕ) → k < length (b ∷ bs) → eqb (get_or (b ∷ bs) k 0) 10 ≡ false)
    → lines_of (b ∷ bs) ≡ line (b ∷ bs) false ∷ []
unfolding lines_of
uncut b [] free = rw (free 0 (omega arith)) refl
uncut b (c ∷ bs) free = rw (free 0 (omega arith)) (ap (begun_by b) (uncut c bs (λ k m. free (suc k) (omega arith))))

pub line_some : (bs : List ℕ) (at : ℕ) → IsFirstByte (is_byte 10) bs (Some at)
    → lines_of bs ≡ line (take at bs) true ∷ lines_of (drop 1 (drop at bs))
line_some bs at h = cut bs at (omega (arith, h.0.high)) (λ k l. false_from_ne_true _ (h.0.before k (omega arith) l)) h.1

pub line_none : (bs : List ℕ) → 0 < length bs → IsFirstByte (is_byte 10) bs None
    → lines_of bs ≡ line bs false ∷ lines_of []
unfolding lines_of
line_none [] l h = absurd (omega arith)
line_none (b ∷ bs) l h = uncut b bs (λ k m. false_from_ne_true _ (h k (omega arith) m))

pub no_lines : (bs : List ℕ) → length bs ≡ 0 → lines_of bs ≡ []
unfolding lines_of
no_lines [] h = refl
no_lines (b ∷ bs) h = absurd (omega arith)

-- bytes have a line
begun_some : (b : ℕ) (ls : List Line) → begun_by b ls ≢ []
begun_some b [] h = cc
begun_some b (l ∷ ls) h = cc

some_by : (b : ℕ) (bs : List ℕ) (t : Bool) → eqb b 10 ≡ t → lines_of (b ∷ bs) ≢ []
unfolding lines_of
some_by b bs true is = rw is (λ h. cc)
some_by b bs false is = rw is (begun_some b (lines_of bs))

pub some_lines : (bs : List ℕ) → 0 < length bs → lines_of bs ≢ []
some_lines [] l = absurd (omega arith)
some_lines (b ∷ bs) l = some_by b bs (eqb b 10) refl

-- bytes up to a line feed are lines that have theirs
begun_ended : (b : ℕ) (ls : List Line) → ls ≢ [] → AreEnded ls → AreEnded (begun_by b ls)
begun_ended b [] some h = absurd (some refl)
begun_ended b (l ∷ ls) some h = h

ended_by : (b : ℕ) (bs : List ℕ) (t : Bool) → eqb b 10 ≡ t → 0 < length bs → AreEnded (lines_of bs)
    → AreEnded (lines_of (b ∷ bs))
unfolding lines_of
ended_by b bs true is some h = rw is (refl, h)
ended_by b bs false is some h = rw is (begun_ended b (lines_of bs) (some_lines bs some) h)

ended_through : (bs : List ℕ) (at : ℕ) → at < length bs → eqb (get_or bs at 0) 10 ≡ true
    → AreEnded (lines_of (take (suc at) bs))
unfolding lines_of
ended_through [] at l h = absurd (omega arith)
ended_through (b ∷ bs) zero l h = rw h (refl, tt)
ended_through (b ∷ bs) (suc k) l h =
    ended_by b (take (suc k) bs) (eqb b 10) refl (omega (arith, l, length-take (suc k) bs))
    (ended_through bs k (omega arith) h)

pub ended_front : (bs : List ℕ) (at : ℕ) → at < length bs → eqb (get_or bs at 0) 10 ≡ true
    → AreEnded (lines_of (take (at + 1) bs))
ended_front bs at l h = rw add-one (ended_through bs at l h)

pub none_ended : AreEnded (lines_of [])
unfolding lines_of
none_ended = tt

-- after the last line feed there is none
pub no_feed_behind : (bs : List ℕ) (n : ℕ) → Nowhere (Passes (is_byte 10) bs) n (length bs)
    → HasNoLineFeed (drop n bs)
no_feed_behind [] zero h = tt
no_feed_behind [] (suc n) h = tt
no_feed_behind (b ∷ bs) zero h = (
  eqb-false b 10 (false_from_ne_true _ (h 0 (omega arith) (omega arith))),
  no_feed_behind bs zero (λ k low high. h (suc k) (omega arith) (omega (arith, high))),
)
no_feed_behind (b ∷ bs) (suc n) h =
    no_feed_behind bs n (λ k low high. h (suc k) (omega (arith, low)) (omega (arith, high)))

-- the pieces of a text
begun : (b : ℕ) (bs : List ℕ) (ls : List Line) → b ≢ 10 → AreLines bs ls → AreLines (b ∷ bs) (begun_by b ls)
begun b bs [] h a = record { joined = ap (λ (t : List ℕ). b ∷ t) a.joined; one_each = ((h, tt), tt); ended = λ _ e. cc }
begun b bs xs h a = search rules

ended_line : (bs : List ℕ) (ls : List Line) → AreLines bs ls → AreLines (10 ∷ bs) (line [] true ∷ ls)
ended_line bs [] a =
    record { joined = ap (λ (t : List ℕ). 10 ∷ t) a.joined; one_each = (tt, a.one_each); ended = λ e. cc }
ended_line bs (l ∷ ls) a =
    record { joined = ap (λ (t : List ℕ). 10 ∷ t) a.joined; one_each = (tt, a.one_each); ended = (refl, a.ended) }

pub pieces : (text : List ℕ) → AreLines text (lines_of text)
unfolding lines_of
pieces [] = record { joined = refl; one_each = tt; ended = tt }
pieces (b ∷ bs) = search (rules, ended_line, begun, eqb_tells, pieces bs)
