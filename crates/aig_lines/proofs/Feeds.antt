-- Bytes that come in pieces, line by line, and the bytes of a line as they are kept.
use Rattle.std.proofs.Common.{◌≡◌, ◌≢◌, ◌+◌, ◌-◌, ◌<◌, ◌≤◌, ◌&&◌, ◌==◌, ◌∷◌, ◌++◌, if◌then◌else◌, ◌∙◌, ℕ, zero, suc}
use Rattle.std.proofs.Common.{List, [], Some, None, length, take, drop, get_or, min, Bool, true, false, refl, sym, ap}
use Rattle.std.proofs.Common.{subst, append_assoc, arith, not, append-nil, inl, inr}
use Rattle.std.proofs.lemmas.Bool.{ne_eqb, cases_lt, eqb-true, lt-leb}
use Rattle.std.proofs.lemmas.List.{take_all, take_min, take_more, take-append-le, length-take-le}
use Rattle.std.proofs.Math.Seq.{take-append-add}
use Rattle.std.proofs.lemmas.List.Folds.{fold_stays}
use Rattle.memchr.specs.Find.{IsFirstByte, is_byte}
use Rattle.aig_lines.specs.Laws.{AreLines}
use Rattle.aig_lines.specs.Lines.{bytes_of, line, lines_of, HasNoLineFeed}
use Rattle.aig_lines.specs.Texts.{without_return}
use Rattle.aig_lines.specs.Feeders.{Feeder, HasFoldedBytes, IsInitial}
use Rattle.aig_lines.specs.Feeding.{Feeding, Turn, fold_bytes, fold_byte, feeding, checked_line, line_ended, turn}
use Rattle.aig_lines.specs.Keeping.{keeping_more}
use Rattle.aig_lines.proofs.Cutting.{line_some, no_feed_behind, pieces}

and_false : (a : Bool) → (a && false) ≡ false
and_false true = refl
and_false false = refl

pub kept_first : (b c : ℕ) (bs : List ℕ) → without_return (b ∷ c ∷ bs) ≡ b ∷ without_return (c ∷ bs)
kept_first b c bs =
    let some : length (c ∷ bs) ≢ 0 = omega arith in
    ap (λ (last : Bool). if (b == 13) && last then [] else b ∷ without_return (c ∷ bs))
    (ne_eqb (length (c ∷ bs)) 0 some)
    ∙ ap (λ (t : Bool). if t then [] else b ∷ without_return (c ∷ bs)) (and_false (b == 13))

-- one at the end is dropped
return_dropped : (text : List ℕ) → without_return (text ++ 13 ∷ []) ≡ text
return_dropped [] = refl
return_dropped (b ∷ []) = kept_first b 13 []
return_dropped (b ∷ c ∷ bs) =
    kept_first b c (bs ++ 13 ∷ []) ∙ ap (λ (t : List ℕ). b ∷ t) (return_dropped (c ∷ bs))

-- and another byte there is kept
no_return : (text : List ℕ) (b : ℕ) → b ≢ 13 → without_return (text ++ b ∷ []) ≡ text ++ b ∷ []
no_return [] b other = rw (ne_eqb b 13 other) refl
no_return (a ∷ []) b other = kept_first a b [] ∙ ap (λ (t : List ℕ). a ∷ t) (no_return [] b other)
no_return (a ∷ c ∷ bs) b other =
    kept_first a c (bs ++ b ∷ []) ∙ ap (λ (t : List ℕ). a ∷ t) (no_return (c ∷ bs) b other)

-- at most one byte is dropped
one_shorter : (text : List ℕ) → length text ≤ length (without_return text) + 1
one_shorter [] = omega arith
one_shorter (b ∷ []) = omega arith
one_shorter (b ∷ c ∷ bs) = omega (arith, ap length (kept_first b c bs), one_shorter (c ∷ bs))

-- the last byte, and what stands before it
ends_in : (text : List ℕ) → 0 < length text
    → text ≡ take (length text - 1) text ++ get_or text (length text - 1) 0 ∷ []
ends_in text some =
    sym (take_all (length text - 1 + 1) text (omega arith)) ∙ take_more text (length text - 1) 0 (omega arith)

pub return_off : (text : List ℕ) → 0 < length text → get_or text (length text - 1) 0 ≡ 13
    → take (length text - 1) text ≡ without_return text
return_off text some is =
    let front = take (length text - 1) text in
    let whole : text ≡ front ++ 13 ∷ [] = ends_in text some ∙ ap (λ (b : ℕ). front ++ b ∷ []) is in
    sym (return_dropped front) ∙ ap without_return (sym whole)

pub no_return_off : (text : List ℕ) → 0 < length text → get_or text (length text - 1) 0 ≢ 13
    → text ≡ without_return text
no_return_off text some other =
    let front = take (length text - 1) text in
    let b = get_or text (length text - 1) 0 in
    let whole : text ≡ front ++ b ∷ [] = ends_in text some in
    whole ∙ sym (no_return front b other) ∙ ap without_return (sym whole)

pub none_off : (text : List ℕ) → length text ≤ 0 → text ≡ without_return text
none_off [] none = refl
none_off (b ∷ bs) none = absurd (omega arith)

-- a text that stands after another
pub stands : (n : ℕ) (front text after : List ℕ) → n ≡ length front + length text
    → take n (front ++ (text ++ after)) ≡ front ++ text
stands n front text after long =
    ap (λ (k : ℕ). take k (front ++ (text ++ after))) long ∙ take-append-add front (text ++ after) (length text)
    ∙ ap (λ (bytes : List ℕ). front ++ bytes)
    (take-append-le (length text) text after (omega arith) ∙ take_all (length text) text (omega arith))

-- what there is room for after what is kept
fitting : (room : ℕ) (front text : List ℕ) → length front ≤ room
    → take room (front ++ text) ≡ front ++ take (room - length front) text
fitting room front text fits =
    let all : room ≡ length front + (room - length front) = omega arith in
    ap (λ (k : ℕ). take k (front ++ text)) all ∙ take-append-add front text (room - length front)

-- the bytes of a buffer after those that were kept: as many as fit
pub kept_more : (b text after copied : List ℕ) (len count : ℕ) → len ≤ length b
    → count ≡ min (length b - len) (length text) → copied ≡ take count text
    → take (len + count) (take len b ++ (copied ++ after)) ≡ take (length b) (take len b ++ text)
kept_more b text after copied len count within is copies =
    let front = take len b in
    let long : length front ≡ len = length-take-le len b within in
    let some : length (take count text) ≡ count = length-take-le count text (omega arith) in
    ap (λ (bytes : List ℕ). take (len + count) (front ++ (bytes ++ after))) copies
    ∙ stands (len + count) front (take count text) after (omega arith)
    ∙ ap (λ (bytes : List ℕ). front ++ bytes)
    (ap (λ (n : ℕ). take n text) is ∙ take_min (length b - len) text
    ∙ ap (λ (n : ℕ). take (length b - n) text) (sym long))
    ∙ sym (fitting (length b) front text (omega arith))

-- what is kept of a line, and then of a longer one
pub kept_twice : (room : ℕ) (rest text : List ℕ) → take room (take room rest ++ text) ≡ take room (rest ++ text)
kept_twice zero rest text = refl
kept_twice (suc room) [] text = refl
kept_twice (suc room) (b ∷ bs) text = ap (λ (bytes : List ℕ). b ∷ bytes) (kept_twice room bs text)

-- before the first byte
pub take_none : (n : ℕ) → take {A = ℕ} n [] ≡ []
take_none zero = refl
take_none (suc n) = refl

-- the first line of a piece, where it has a line feed
pub first_line : (piece : List ℕ) (at : ℕ) → IsFirstByte (is_byte 10) piece (Some at)
    → HasNoLineFeed (take at piece) × (piece ≡ take at piece ++ 10 ∷ drop 1 (drop at piece))
first_line piece at found =
    let are : AreLines piece (line (take at piece) true ∷ lines_of (drop 1 (drop at piece))) =
    subst (AreLines piece) (line_some piece at found) (pieces piece) in
    let behind : bytes_of (lines_of (drop 1 (drop at piece))) ≡ drop 1 (drop at piece) =
    (pieces (drop 1 (drop at piece))).joined in (
      are.one_each.0,
      sym are.joined ∙ append_assoc (take at piece) (10 ∷ []) (bytes_of (lines_of (drop 1 (drop at piece))))
          ∙ ap (λ (t : List ℕ). take at piece ++ 10 ∷ t) behind,
    )

-- a piece without a line feed
pub no_line : (piece : List ℕ) → IsFirstByte (is_byte 10) piece None → HasNoLineFeed piece
no_line piece found = no_feed_behind piece 0 found

-- Bytes that come in pieces, line by line.
nothing_kept : (n : ℕ) (rest : List ℕ) → (length (take (n + 2) rest) == 0) ≡ true → rest ≡ []
nothing_kept n [] none = refl
nothing_kept n (b ∷ bs) none =
    let long : length (take (n + 2) (b ∷ bs)) ≡ 0 = eqb-true _ _ none in
    let two : n + 2 ≡ suc (n + 1) = omega arith in
    let short : length (take (suc (n + 1)) (b ∷ bs)) ≡ 0 = ap (λ (m : ℕ). length (take m (b ∷ bs))) (sym two) ∙ long in
    absurd (omega arith)

module _ {S : Type 0} (step : S → List ℕ → Turn S) where
  too_long : (limit : ℕ) (s : S) (text : List ℕ) → limit < length text → checked_line step limit s text ≡ turn s false
  too_long limit s text long = rw (lt-leb (length text) limit long) refl

  -- a line that is too long is as long as what is kept of it
  checked_kept : (limit : ℕ) (s : S) (whole : List ℕ)
      → checked_line step limit s (without_return (take (limit + 2) whole))
      ≡ checked_line step limit s (without_return whole)
  checked_kept limit s whole =
      elim (cases_lt (limit + 1) (length whole)) [
        | inl long ↦
            (let kept = length-take-le (limit + 2) whole (omega arith) in
            too_long limit s (without_return (take (limit + 2) whole))
            (omega (arith, kept, one_shorter (take (limit + 2) whole)))
            ∙ sym (too_long limit s (without_return whole) (omega (arith, one_shorter whole))))
        | inr short ↦ ap (λ (t : List ℕ). checked_line step limit s (without_return t))
            (take_all (limit + 2) whole (omega arith))
      ]

  pub checked_joined : (limit : ℕ) (s : S) (begun piece : List ℕ)
      → checked_line step limit s (without_return (take (limit + 2) (take (limit + 2) begun ++ piece)))
      ≡ checked_line step limit s (without_return (begun ++ piece))
  checked_joined limit s begun piece =
      ap (λ (t : List ℕ). checked_line step limit s (without_return t)) (kept_twice (limit + 2) begun piece)
      ∙ checked_kept limit s (begun ++ piece)

  -- byte by byte
  pub at_line_feed : (f : Feeding S) → f.refused ≡ false
      → fold_byte step f 10 ≡ line_ended step f (without_return f.begun)
  unfolding fold_byte
  at_line_feed f going = rw going refl

  pub at_byte : (f : Feeding S) (b : ℕ) → f.refused ≡ false → b ≢ 10
      → fold_byte step f b ≡ record f { begun = f.begun ++ b ∷ [] }
  unfolding fold_byte
  at_byte f b going other = rw (going, ne_eqb b 10 other) refl

  refused_byte : (f : Feeding S) (b : ℕ) → f.refused ≡ true → fold_byte step f b ≡ f
  unfolding fold_byte
  refused_byte f b over = rw over refl

  -- after a refusal nothing more is taken
  pub fold_refused : (f : Feeding S) (bytes : List ℕ) → f.refused ≡ true → fold_bytes step f bytes ≡ f
  fold_refused f bytes over = fold_stays (fold_byte step) f (λ b. refused_byte f b over) bytes

  -- bytes of a line, and bytes after them
  fold_more : (f : Feeding S) (piece rest : List ℕ) → f.refused ≡ false → HasNoLineFeed piece
      → fold_bytes step f (piece ++ rest) ≡ fold_bytes step (record f { begun = f.begun ++ piece }) rest
  fold_more f [] rest going none =
      ap (λ (t : List ℕ). fold_bytes step (record f { begun = t }) rest) (sym (append-nil f.begun))
  fold_more f (b ∷ bs) rest going none =
      ap (λ (g : Feeding S). fold_bytes step g (bs ++ rest)) (at_byte f b going none.0)
      ∙ fold_more (record f { begun = f.begun ++ b ∷ [] }) bs rest going none.1
      ∙ ap (λ (t : List ℕ). fold_bytes step (record f { begun = t }) rest) (append_assoc f.begun (b ∷ []) bs)

  fold_rest : (f : Feeding S) (piece : List ℕ) → f.refused ≡ false → HasNoLineFeed piece
      → fold_bytes step f piece ≡ record f { begun = f.begun ++ piece }
  fold_rest f piece going none =
      ap (fold_bytes step f) (sym (append-nil piece)) ∙ fold_more f piece [] going none

  fold_whole_line : (f : Feeding S) (piece rest : List ℕ) → f.refused ≡ false → HasNoLineFeed piece
      → fold_bytes step f (piece ++ 10 ∷ rest) ≡ fold_bytes step (line_ended step f (without_return (f.begun ++ piece)))
      rest
  fold_whole_line f piece rest going none =
      fold_more f piece (10 ∷ rest) going none
      ∙ ap (λ (g : Feeding S). fold_bytes step g rest) (at_line_feed (record f { begun = f.begun ++ piece }) going)

  module _ {T : Type 0} (IsAt : T → S → Type 0) where
    -- what is left of a chunk leads to a goal from where the feeder stands
    pub record IsOnItsWay (f : Feeder) (t : T) (rest : List ℕ) (goal : Feeding S) : Type 0 where
      pub at : Feeding S
      pub stands : HasFoldedBytes IsAt f t at
      pub leads : fold_bytes step at rest ≡ goal

    pub way_begins : (f : Feeder) (t : T) (at : Feeding S) (chunk : List ℕ) → HasFoldedBytes IsAt f t at
        → IsOnItsWay f t chunk (fold_bytes step at chunk)
    way_begins f t at chunk stands = record { at = at; stands = stands; leads = refl }

    pub way_refused : (f : Feeder) (t : T) (rest : List ℕ) (goal : Feeding S) → IsOnItsWay f t rest goal
        → f.refused ≡ true → HasFoldedBytes IsAt f t goal
    way_refused f t rest goal way over =
        subst (HasFoldedBytes IsAt f t) (sym (fold_refused way.at rest (sym way.stands.refused ∙ over)) ∙ way.leads)
        way.stands

    pub way_line : (f g : Feeder) (t u : T) (bytes piece rest : List ℕ) (goal : Feeding S)
        → IsOnItsWay f t bytes goal → bytes ≡ piece ++ 10 ∷ rest → f.refused ≡ false → HasNoLineFeed piece
        → ((at : Feeding S) → HasFoldedBytes IsAt f t at
        → HasFoldedBytes IsAt g u (line_ended step at (without_return (at.begun ++ piece))))
        → IsOnItsWay g u rest goal
    way_line f g t u bytes piece rest goal way parted going none took = record {
      at = line_ended step way.at (without_return (way.at.begun ++ piece));
      stands = took way.at way.stands;
      leads = sym (fold_whole_line way.at piece rest (sym way.stands.refused ∙ going) none)
          ∙ ap (fold_bytes step way.at) (sym parted) ∙ way.leads;
    }

    -- what is left begins a line
    pub way_ends : (f g : Feeder) (t : T) (rest : List ℕ) (goal : Feeding S) → IsOnItsWay f t rest goal
        → f.refused ≡ false → HasNoLineFeed rest → g ≡ record f { kept = keeping_more f.kept rest }
        → HasFoldedBytes IsAt g t goal
    way_ends f g t rest goal way going none is =
        rw is (subst (HasFoldedBytes IsAt (record f { kept = keeping_more f.kept rest }) t)
        (sym (fold_rest way.at rest (sym way.stands.refused ∙ going) none) ∙ way.leads)
        (record {
          taker = way.stands.taker;
          kept = ap (λ (bytes : List ℕ). take f.kept.room (bytes ++ rest)) way.stands.kept
              ∙ kept_twice f.kept.room way.at.begun rest;
          room = way.stands.room;
          limit = way.stands.limit;
          number = way.stands.number;
          refused = way.stands.refused;
        }))

    -- nothing is kept, so no line has begun
    pub not_begun : (f : Feeder) (t : T) (at : Feeding S) → HasFoldedBytes IsAt f t at
        → (length f.kept.bytes == 0) ≡ true
        → at.begun ≡ []
    not_begun f t at stands none =
        nothing_kept at.limit at.begun
        (ap (λ (bytes : List ℕ). length bytes == 0)
        (ap (λ (n : ℕ). take n at.begun) (sym stands.room) ∙ sym stands.kept) ∙ none)

-- before the first byte
pub fold_nothing : {T S : Type 0} (IsAt : T → S → Type 0) (f : Feeder) (t : T) (s : S) → IsInitial f → IsAt t s
    → HasFoldedBytes IsAt f t (feeding f.limit s)
fold_nothing IsAt f t s initial at = record {
  taker = at;
  kept = initial.empty ∙ sym (take_none f.kept.room);
  room = initial.room;
  limit = refl;
  number = initial.number;
  refused = initial.refused;
}

-- a result that says whether a line was taken
pub flipped : (refused good b : Bool) → good ≡ not refused → good ≡ b → refused ≡ not b
flipped true good b is same = ap not (sym is ∙ same)
flipped false good b is same = ap not (sym is ∙ same)
