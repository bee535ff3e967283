-- To feed bytes is to tell their lines, from the first byte of a source on.
use Rattle.std.proofs.Common.{◌≡◌, ◌≢◌, ◌+◌, ◌||◌, ◌∷◌, ◌++◌, ◌∙◌, if◌then◌else◌, ◌<◌, ℕ, suc, List, [], Bool, true}
use Rattle.std.proofs.Common.{false, not, filter, length, refl, sym, ap, subst, append_assoc, append-nil, add-one}
use Rattle.std.proofs.Common.{arith, inl, inr, Ok, take, ne_eqb}
use Rattle.std.proofs.lemmas.Bool.Decides.{eqb_tells}
use Rattle.aig_io.specs.declared.device.DeviceFault.{DeviceFault}
use Rattle.aig_io.specs.Devices.{History, after_fetch, gave, took}
use Rattle.aig_io.proofs.Took.{gave_next, took_none, took_twice}
use Rattle.aig_lines.specs.Lines.{HasNoLineFeed, Line, lines_of}
use Rattle.aig_lines.specs.Feeders.{Feeder, HasFoldedLines, HasFoldedBytes, FoldedSource, IsInitial, FoldedSourceLines}
use Rattle.aig_lines.specs.Feeding.{Feeding, Folded, Turn, ended_if, fold_bytes, fold_byte, feeding, checked_line}
use Rattle.aig_lines.specs.Feeding.{line_ended, outcome}
use Rattle.aig_lines.specs.Feeding.{fold_lines, folded_to, ended}
use Rattle.aig_lines.specs.Texts.{judged_lines, without_return}
use Rattle.aig_lines.proofs.Pieces.{ended_piece, last_piece}
use Rattle.aig_lines.proofs.Feeds.{at_byte, at_line_feed, fold_refused, fold_nothing, flipped}

-- a line with one more byte
pub one_more : (begun : List ℕ) (b : ℕ) → HasNoLineFeed begun → b ≢ 10 → HasNoLineFeed (begun ++ b ∷ [])
one_more [] b none other = (other, tt)
one_more (c ∷ cs) b none other = (none.0, one_more cs b none.1 other)

abbrev judged : Bool → List Line → List Line
judged over ls = filter (λ (l : Line). l.ended || over) ls

module _ {S : Type 0} (step : S → List ℕ → Turn S) where
  pub fold_twice : (f : Feeding S) (a b : List ℕ) → fold_bytes step f (a ++ b) ≡ fold_bytes step (fold_bytes step f a) b
  fold_twice f [] b = refl
  fold_twice f (x ∷ xs) b = fold_twice (fold_byte step f x) xs b

  -- after a refusal the end changes nothing
  stopped : (f : Feeding S) (over : Bool) → f.refused ≡ true
      → outcome (ended_if step over f) ≡ folded_to f.state f.number true
  stopped f true refused = rw refused refl
  stopped f false refused = ap (folded_to f.state f.number) refused

  -- a line has ended, and this comes of what is after it
  behind_turn : (over : Bool) (limit number : ℕ) (s : S) (goes : Bool) (rest : List ℕ)
      → ((f : Feeding S) → f.refused ≡ false → HasNoLineFeed f.begun
      → outcome (ended_if step over (fold_bytes step f rest))
      ≡ fold_lines step f.limit f.state f.number (judged_lines (f.begun ++ rest) over))
      → outcome (ended_if step over (fold_bytes step (record {
        limit = limit;
        state = s;
        begun = [];
        number = if goes then number + 1 else number;
        refused = not goes;
      })
      rest))
      ≡ (if goes then fold_lines step limit s (suc number) (judged_lines rest over) else folded_to s number true)
  behind_turn over limit number s true rest again =
      again (record { limit = limit; state = s; begun = []; number = number + 1; refused = false }) refl tt
      ∙ ap (λ (n : ℕ). fold_lines step limit s n (judged_lines rest over)) (add-one number)
  behind_turn over limit number s false rest again =
      let f : Feeding S = record { limit = limit; state = s; begun = []; number = number; refused = true } in
      ap (λ (g : Feeding S). outcome (ended_if step over g)) (fold_refused step f rest refl) ∙ stopped f over refl

  last_turn : (s : S) (goes : Bool) (number : ℕ)
      → folded_to s (if goes then number + 1 else number) (not goes)
      ≡ (if goes then folded_to s (suc number) false else folded_to s number true)
  last_turn s true number = ap (λ (n : ℕ). folded_to s n false) (add-one number)
  last_turn s false number = refl

  -- no more bytes came
  folded_at_end : (over : Bool) (limit number : ℕ) (s : S) (begun : List ℕ) → HasNoLineFeed begun
      → outcome (ended_if step over
      (record { limit = limit; state = s; begun = begun; number = number; refused = false }))
      ≡ fold_lines step limit s number (judged_lines begun over)
  unfolding lines_of
  folded_at_end true limit number s [] none = refl
  folded_at_end false limit number s [] none = refl
  folded_at_end true limit number s (b ∷ bs) none =
      let some : length (b ∷ bs) ≢ 0 = omega arith in
      let f : Feeding S = record { limit = limit; state = s; begun = b ∷ bs; number = number; refused = false } in
      ap (λ (t : Bool). outcome (if t then f else line_ended step f (b ∷ bs))) (ne_eqb (length (b ∷ bs)) 0 some)
      ∙ last_turn (checked_line step limit s (b ∷ bs)).state (checked_line step limit s (b ∷ bs)).goes_on number
      ∙ ap (λ (ls : List Line). fold_lines step limit s number (judged true ls)) (sym (last_piece b bs none))
  folded_at_end false limit number s (b ∷ bs) none =
      ap (λ (ls : List Line). fold_lines step limit s number (judged false ls)) (sym (last_piece b bs none))

  folded_is : (bytes : List ℕ) (over : Bool) (f : Feeding S) → f.refused ≡ false → HasNoLineFeed f.begun
      → outcome (ended_if step over (fold_bytes step f bytes))
      ≡ fold_lines step f.limit f.state f.number (judged_lines (f.begun ++ bytes) over)
  folded_is [] over f going none =
      ap (λ (b : Bool). outcome (ended_if step over (record f { refused = b }))) going
      ∙ folded_at_end over f.limit f.number f.state f.begun none
      ∙ ap (λ (t : List ℕ). fold_lines step f.limit f.state f.number (judged_lines t over)) (sym (append-nil f.begun))
  folded_is (b ∷ bs) over f going none =
      let close : Feeding S → Folded S = λ h. outcome (ended_if step over (fold_bytes step h bs)) in
      let lines : List Line → Folded S = λ ls. fold_lines step f.limit f.state f.number (judged over ls) in
      elim (eqb_tells b 10) [
        | inl feed ↦
            (let t = checked_line step f.limit f.state (without_return f.begun) in
            ap (λ (c : ℕ). close (fold_byte step f c)) feed.1
            ∙ ap close (at_line_feed step f going)
            ∙ behind_turn over f.limit f.number t.state t.goes_on bs (folded_is bs over)
            ∙ ap lines (sym (ended_piece f.begun bs none))
            ∙ ap (λ (c : ℕ). lines (lines_of (f.begun ++ c ∷ bs))) (sym feed.1))
        | inr other ↦
            (ap close (at_byte step f b going other.1)
            ∙ folded_is bs over (record f { begun = f.begun ++ b ∷ [] }) going (one_more f.begun b none other.1)
            ∙ ap (λ (t : List ℕ). lines (lines_of t)) (append_assoc f.begun (b ∷ []) bs))
      ]

  -- bytes are folded from the first on, and then their end
  pub bytes_folded : (over : Bool) (limit : ℕ) (s : S) (bytes : List ℕ)
      → outcome (ended_if step over (fold_bytes step (feeding limit s) bytes))
      ≡ fold_lines step limit s 1 (judged_lines bytes over)
  bytes_folded over limit s bytes = folded_is bytes over (feeding limit s) refl tt

  -- what a feeder has folded that stands there
  pub has_folded_lines : {T : Type 0} (IsAt : T → S → Type 0) (f : Feeder) (t : T) (over : Bool) (limit : ℕ) (s : S)
      (bytes : List ℕ) → HasFoldedBytes IsAt f t (ended_if step over (fold_bytes step (feeding limit s) bytes))
      → HasFoldedLines IsAt f t (fold_lines step limit s 1 (judged_lines bytes over))
  has_folded_lines IsAt f t over limit s bytes stands =
      subst (HasFoldedLines IsAt f t) (bytes_folded over limit s bytes)
      (record { taker = stands.taker; number = stands.number; refused = stands.refused })

-- What came of a source, from the first byte on.

-- it answered that it is at its end
abbrev pub at_end : History → History
at_end history = record history { ends = history.ends + 1 }

module _ {T S : Type 0} (step : S → List ℕ → Turn S) (IsAt : T → S → Type 0) (limit : ℕ) (s : S) where
  -- bytes that came were folded
  pub record Reached (source now : History) (f : Feeder) (t : T) : Type 0 where
    pub bytes : List ℕ
    pub history : now ≡ took bytes source
    pub stands : HasFoldedBytes IsAt f t (fold_bytes step (feeding limit s) bytes)

  pub reached_none : (f : Feeder) (t : T) (source : History) → IsInitial f → f.limit ≡ limit → IsAt t s
      → Reached source source f t
  reached_none f t source initial as_long at = record {
    bytes = [];
    history = took_none source;
    stands = subst (λ (n : ℕ). HasFoldedBytes IsAt f t (feeding n s)) as_long (fold_nothing IsAt f t s initial at);
  }

  -- more bytes came
  pub reached_more : (f g : Feeder) (t u : T) (source now later : History) (into chunk : List ℕ) (n : ℕ)
      → Reached source now f t → later ≡ after_fetch {E = DeviceFault} into (Ok n) now → 0 < n → chunk ≡ take n into
      → ((at : Feeding S) → HasFoldedBytes IsAt f t at → HasFoldedBytes IsAt g u (fold_bytes step at chunk))
      → Reached source later g u
  reached_more f g t u source now later into chunk n r came some front more = record {
    bytes = r.bytes ++ chunk;
    history = took_twice source now later r.bytes chunk r.history (rw front (came ∙ gave_next into n now some));
    stands = subst (HasFoldedBytes IsAt g u) (sym (fold_twice step (feeding limit s) r.bytes chunk))
        (more (fold_bytes step (feeding limit s) r.bytes) r.stands);
  }

  -- nothing more comes
  pub folded_source_lines : (f g : Feeder) (t u : T) (source now from later : History) (over is_refused : Bool)
      → (r : Reached source now f t) → later ≡ gave r.bytes over from → g.refused ≡ is_refused
      → ((at : Feeding S) → HasFoldedBytes IsAt f t at → HasFoldedBytes IsAt g u (ended_if step over at))
      → FoldedSourceLines step IsAt limit s from later over is_refused g u
  folded_source_lines f g t u source now from later over is_refused r history refused more = record {
    bytes = r.bytes;
    history = history;
    stands = has_folded_lines step IsAt g u over limit s r.bytes
        (more (fold_bytes step (feeding limit s) r.bytes) r.stands);
    refused = refused;
  }

  -- the end was folded too
  pub folded_end : (f g : Feeder) (t u : T) (source now later : History) (good : Bool)
      → Reached source now f t → later ≡ at_end now → good ≡ not g.refused
      → ((at : Feeding S) → HasFoldedBytes IsAt f t at → HasFoldedBytes IsAt g u (ended step at))
      → FoldedSource step IsAt limit s source later (Ok good) g u
  folded_end f g t u source now later true r history is more =
      folded_source_lines f g t u source now source later true false r (history ∙ ap at_end r.history)
      (flipped g.refused true true is refl) more
  folded_end f g t u source now later false r history is more = (
    true,
    folded_source_lines f g t u source now source later true true r (history ∙ ap at_end r.history)
        (flipped g.refused false false is refl) more,
  )
