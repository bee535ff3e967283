-- A dump grows with its trace text, whose bytes are cut into lines, and its lines told as frames.
use Rattle.std.proofs.Common.{◌≡◌, ◌≢◌, ◌==◌, ◌∙◌, ◌+◌, ◌≤◌, ◌&&◌, ◌∷◌, ◌++◌, ◌-◌, ◌<◌, if◌then◌else◌, ℕ, List}
use Rattle.std.proofs.Common.{[], Bool, true, false, filter, length, map, take, refl, sym, ap, ap₂, append_assoc}
use Rattle.std.proofs.Common.{append-nil, arith, inl, inr, suc, fold, min, nat_lt}
use Rattle.std.proofs.lemmas.Bool.{ne_eqb, cases_Bool, ltb-false, ltb-true}
use Rattle.std.proofs.lemmas.Bool.Decides.{eqb_tells}
use Rattle.std.proofs.lemmas.List.{take_all, length-append, length-take, take-append-le}
use Rattle.std.proofs.lemmas.List.Sums.{fold-append}
use Rattle.std.proofs.Math.Seq.{take-nil}
use Rattle.std.proofs.lemmas.List.Elements.{filter-append}
use Rattle.aig_circuit.specs.declared.circuit.Circuit.{Circuit}
use Rattle.aig_lines.specs.Lines.{Line, lines_of, HasNoLineFeed}
use Rattle.aig_lines.proofs.Tells.{one_more}
use Rattle.aig_lines.proofs.Pieces.{last_piece, ended_piece}
use Rattle.aig_wave.specs.Frames.{is_stop, is_trace_line, whole_lines, Frame, closing_line, frame, frames, most_frames}
use Rattle.aig_wave.specs.Frames.{next_state}
use Rattle.aig_wave.specs.Layout.{Layout, layout_of}
use Rattle.aig_wave.specs.Parts.Cuts.{Cut, cut, cut_byte, cut_more}
use Rattle.aig_wave.specs.Parts.Points.{Point, behind_line, line_piece, begin_of, behind, frame_at, head_at, piece}
use Rattle.aig_wave.specs.Wave.{blank, body, dump, frame_text, time_text, wave_text}

at_byte : (c : Cut) (b : ℕ) → b ≢ 10 → cut_byte c b ≡ record { lines = c.lines; begun = c.begun ++ b ∷ [] }
at_byte c b other = rw (ne_eqb b 10 other) refl

pub cut_piece : (c : Cut) (piece : List ℕ) → HasNoLineFeed piece
    → cut_more c piece ≡ record { lines = c.lines; begun = c.begun ++ piece }
cut_piece c [] none = ap (λ (t : List ℕ). record { lines = c.lines; begun = t }) (sym (append-nil c.begun))
cut_piece c (b ∷ bs) none =
    ap (λ (d : Cut). cut_more d bs) (at_byte c b none.0)
    ∙ cut_piece (record { lines = c.lines; begun = c.begun ++ b ∷ [] }) bs none.1
    ∙ ap (λ (t : List ℕ). record { lines = c.lines; begun = t }) (append_assoc c.begun (b ∷ []) bs)

pub cut_line : (c : Cut) (piece : List ℕ) → HasNoLineFeed piece
    → cut_more c (piece ++ 10 ∷ []) ≡ record { lines = c.lines ++ (c.begun ++ piece) ∷ []; begun = [] }
cut_line c piece none =
    fold-append cut_byte c piece (10 ∷ []) ∙ ap (λ (d : Cut). cut_byte d 10) (cut_piece c piece none)

abbrev ended_texts : List Line → List (List ℕ)
ended_texts ls = map (λ (l : Line). l.text) (filter (λ (l : Line). l.ended) ls)

begun_alone : (begun : List ℕ) → HasNoLineFeed begun → ended_texts (lines_of begun) ≡ []
unfolding lines_of
begun_alone [] none = refl
begun_alone (b ∷ bs) none = ap ended_texts (last_piece b bs none)

lines_are : (c : Cut) (bs : List ℕ) → HasNoLineFeed c.begun
    → (cut_more c bs).lines ≡ c.lines ++ ended_texts (lines_of (c.begun ++ bs))
lines_are c [] none =
    sym (append-nil c.lines)
    ∙ ap (λ (ls : List (List ℕ)). c.lines ++ ls)
    (sym (begun_alone c.begun none) ∙ ap (λ (t : List ℕ). ended_texts (lines_of t)) (sym (append-nil c.begun)))
lines_are c (b ∷ bs) none =
    elim (eqb_tells b 10) [
      | inl feed ↦
          (let d : Cut = record { lines = c.lines ++ c.begun ∷ []; begun = [] } in
          ap (λ (x : ℕ). (cut_more (cut_byte c x) bs).lines) feed.1
          ∙ lines_are d bs tt
          ∙ append_assoc c.lines (c.begun ∷ []) (ended_texts (lines_of bs))
          ∙ ap (λ (ls : List Line). c.lines ++ ended_texts ls) (sym (ended_piece c.begun bs none))
          ∙ ap (λ (x : ℕ). c.lines ++ ended_texts (lines_of (c.begun ++ x ∷ bs))) (sym feed.1))
      | inr other ↦
          (ap (λ (d : Cut). (cut_more d bs).lines) (at_byte c b other.1)
          ∙ lines_are (record { lines = c.lines; begun = c.begun ++ b ∷ [] }) bs (one_more c.begun b none other.1)
          ∙ ap (λ (t : List ℕ). c.lines ++ ended_texts (lines_of t)) (append_assoc c.begun (b ∷ []) bs))
    ]

pub whole_lines_are : (text : List ℕ) → whole_lines text ≡ (cut text).lines
whole_lines_are text = sym (lines_are (record { lines = []; begun = [] }) text tt)

pub and_false : (a : Bool) → (a && false) ≡ false
and_false true = refl
and_false false = refl

pub too_long_to_stop : (l : List ℕ) → 2 ≤ length l → is_stop l ≡ false
too_long_to_stop [] long = absurd (omega arith)
too_long_to_stop (a ∷ []) long = absurd (omega arith)
too_long_to_stop (a ∷ b ∷ bs) long = and_false (a == 46)

-- Frames, one line after the other.
module _ (w : Layout) where
  -- where the lines lead
  abbrev after : Point → List (List ℕ) → Point
  after p ls = fold (behind w) p ls

  abbrev pub framed : List (List ℕ) → List Frame
  framed ls = frames w 0 w.resets ls

  step_by : (is : Bool) (run : ℕ) (closing line next : List ℕ) (ls : List (List ℕ))
      → (if is then frame run closing ∷ frames w (run + 1) w.resets ls else frame run line ∷ frames w run next ls)
      ≡ frame run (if is then closing else line)
      ∷ frames w (if is then run + 1 else run) (if is then w.resets else next) ls
  step_by true run closing line next ls = refl
  step_by false run closing line next ls = refl

  frames_step : (p : Point) (l : List ℕ) (ls : List (List ℕ))
      → frames w p.run p.state (l ∷ ls) ≡ frame_at w p l ∷ frames w (behind w p l).run (behind w p l).state ls
  frames_step p l ls = step_by (is_stop l) p.run (closing_line w p.state) l (next_state w l) ls

  body_more : (p : Point) (ls : List (List ℕ)) (l : List ℕ)
      → body w p.time p.before (frames w p.run p.state (ls ++ l ∷ []))
      ≡ body w p.time p.before (frames w p.run p.state ls)
      ++ frame_text w (after p ls).time (after p ls).before (frame_at w (after p ls) l)
  body_more p [] l =
      ap (body w p.time p.before) (frames_step p l [])
      ∙ append-nil (frame_text w p.time p.before (frame_at w p l))
  body_more p (x ∷ xs) l =
      let q = behind w p x in
      let f = frame_text w p.time p.before (frame_at w p x) in
      ap (body w p.time p.before) (frames_step p x (xs ++ l ∷ []))
      ∙ ap (λ (t : List ℕ). f ++ t) (body_more q xs l)
      ∙ sym (append_assoc f (body w q.time q.before (frames w q.run q.state xs)) _)
      ∙ ap (λ (fs : List Frame). body w p.time p.before fs
      ++ frame_text w (after q xs).time (after q xs).before (frame_at w (after q xs) l)) (sym (frames_step p x xs))

  count : (p : Point) (ls : List (List ℕ)) → length (frames w p.run p.state ls) ≡ length ls
  count p [] = refl
  count p (x ∷ xs) = ap length (frames_step p x xs) ∙ ap suc (count (behind w p x) xs)

  time_is : (p : Point) (ls : List (List ℕ)) → (after p ls).time ≡ p.time + length ls
  time_is p [] = omega arith
  time_is p (x ∷ xs) = omega (arith, time_is (behind w p x) xs)

  counted : (ls : List (List ℕ)) → length (framed ls) ≡ (after (begin_of w) ls).time
  counted ls = omega (arith, count (begin_of w) ls, time_is (begin_of w) ls)

  dump_some : (fs : List Frame) (done : Bool) → length fs ≢ 0
      → dump w fs done ≡ w.head ++ (body w 0 (blank w) fs ++ (if done then time_text (length fs) else []))
  dump_some fs done some = rw (ne_eqb (length fs) 0 some) refl

  no_head : (time : ℕ) → time ≢ 0 → head_at w time ≡ []
  no_head time later = rw (ne_eqb time 0 later) refl

  -- one more line
  dump_more : (ls : List (List ℕ)) (l : List ℕ)
      → dump w (framed (ls ++ l ∷ [])) false ≡ dump w (framed ls) false ++ piece w (after (begin_of w) ls) l
  dump_more [] l =
      let one : length (framed (l ∷ [])) ≢ 0 = omega (arith, count (begin_of w) (l ∷ [])) in
      dump_some (framed (l ∷ [])) false one
      ∙ ap (λ (t : List ℕ). w.head ++ t) (append-nil _ ∙ body_more (begin_of w) [] l)
  dump_more (x ∷ xs) l =
      let p = after (begin_of w) (x ∷ xs) in
      let text = frame_text w p.time p.before (frame_at w p l) in
      let before = body w 0 (blank w) (framed (x ∷ xs)) in
      let some : length (framed (x ∷ xs)) ≢ 0 = omega (arith, count (begin_of w) (x ∷ xs)) in
      let more : length (framed (x ∷ xs ++ l ∷ [])) ≢ 0 = omega (arith, count (begin_of w) (x ∷ xs ++ l ∷ [])) in
      let later : p.time ≢ 0 = omega (arith, time_is (begin_of w) (x ∷ xs)) in
      dump_some (framed (x ∷ xs ++ l ∷ [])) false more
      ∙ ap (λ (t : List ℕ). w.head ++ t) (append-nil _ ∙ body_more (begin_of w) (x ∷ xs) l)
      ∙ sym (append_assoc w.head before text)
      ∙ ap₂ (λ (a b : List ℕ). a ++ (b ++ text))
      (ap (λ (t : List ℕ). w.head ++ t) (sym (append-nil before)) ∙ sym (dump_some (framed (x ∷ xs)) false some))
      (sym (no_head p.time later))

  -- the end
  pub dump_done : (ls : List (List ℕ)) → let time = (after (begin_of w) ls).time in
      dump w (framed ls) true ≡ dump w (framed ls) false ++ (head_at w time ++ time_text time)
  dump_done [] = refl
  dump_done (x ∷ xs) =
      let fs = framed (x ∷ xs) in
      let time = (after (begin_of w) (x ∷ xs)).time in
      let before = body w 0 (blank w) fs in
      let some : length fs ≢ 0 = omega (arith, count (begin_of w) (x ∷ xs)) in
      let later : time ≢ 0 = omega (arith, time_is (begin_of w) (x ∷ xs)) in
      dump_some fs true some
      ∙ sym (append_assoc w.head before (time_text (length fs)))
      ∙ ap₂ (λ (a : List ℕ) (n : ℕ). a ++ time_text n)
      (ap (λ (t : List ℕ). w.head ++ t) (sym (append-nil before)) ∙ sym (dump_some fs false some))
      (counted (x ∷ xs))
      ∙ ap (λ (t : List ℕ). dump w fs false ++ (t ++ time_text time)) (sym (no_head time later))

  -- lines that are passed over
  after_lines : (p : Point) (ls : List (List ℕ))
      → fold (behind_line w) p ls ≡ after p (take (most_frames - p.time) (filter (is_trace_line w) ls))
  after_lines p [] = ap (after p) (sym (take-nil (most_frames - p.time)))
  after_lines p (l ∷ ls) =
      elim (cases_Bool (is_trace_line w l)) [
        | inl so ↦
            elim (cases_Bool (nat_lt p.time most_frames)) [
              | inl early ↦
                  (let next : most_frames - p.time ≡ suc (most_frames - (p.time + 1)) =
                  omega (arith, ltb-true p.time most_frames early) in
                  rw (so, early, next) (after_lines (behind w p l) ls))
              | inr late ↦
                  (let none : most_frames - p.time ≡ 0 = omega (arith, ltb-false p.time most_frames late) in
                  let rest = after_lines p ls in
                  rw (so, late, none) (rw none at rest))
            ]
        | inr not_so ↦ rw not_so (after_lines p ls)
      ]

  -- the lines that have a frame
  abbrev pub framed_lines : List (List ℕ) → List (List ℕ)
  framed_lines ls = take most_frames (filter (is_trace_line w) ls)

  pub after_framed : (ls : List (List ℕ)) → fold (behind_line w) (begin_of w) ls ≡ after (begin_of w) (framed_lines ls)
  after_framed ls =
      let all : most_frames - 0 ≡ most_frames = omega arith in
      after_lines (begin_of w) ls
      ∙ ap (λ (n : ℕ). after (begin_of w) (take n (filter (is_trace_line w) ls))) all

  -- one more line of the trace, where there is a time for it, and where there is none
  one_more_frame : (ls : List (List ℕ)) (l : List ℕ) → let p = after (begin_of w) (take most_frames ls) in
      dump w (framed (take most_frames (ls ++ l ∷ []))) false
      ≡ dump w (framed (take most_frames ls)) false ++ (if nat_lt p.time most_frames then piece w p l else [])
  one_more_frame ls l =
      let p = after (begin_of w) (take most_frames ls) in
      let long : p.time ≡ min most_frames (length ls) =
      omega (arith, time_is (begin_of w) (take most_frames ls), length-take most_frames ls) in
      elim (cases_Bool (nat_lt p.time most_frames)) [
        | inl early ↦
            (let few : length ls < most_frames = omega (arith, long, ltb-true p.time most_frames early) in
            let more : length (ls ++ l ∷ []) ≤ most_frames = omega (arith, few, length-append ls (l ∷ [])) in
            rw (early, take_all most_frames ls (omega arith), take_all most_frames (ls ++ l ∷ []) more)
            (dump_more ls l))
        | inr late ↦
            (let many : most_frames ≤ length ls = omega (arith, long, ltb-false p.time most_frames late) in
            rw (late, take-append-le most_frames ls (l ∷ []) many) (sym (append-nil _)))
      ]

  pub dumped_line : (ls : List (List ℕ)) (l : List ℕ)
      → dump w (framed (framed_lines (ls ++ l ∷ []))) false
      ≡ dump w (framed (framed_lines ls)) false ++ line_piece w (fold (behind_line w) (begin_of w) ls) l
  dumped_line ls l =
      rw (after_framed ls, filter-append (is_trace_line w) ls (l ∷ []))
      (elim (cases_Bool (is_trace_line w l)) [
        | inl so ↦ rw so (one_more_frame (filter (is_trace_line w) ls) l)
        | inr not_so ↦ rw not_so
            (ap (λ (kept : List (List ℕ)). dump w (framed (take most_frames kept)) false)
            (append-nil (filter (is_trace_line w) ls))
            ∙ sym (append-nil (dump w (framed (framed_lines ls)) false)))
      ])

-- A dump grows with its trace text.

-- one list is the beginning of another
pub record Begins {X : Type 0} (xs ys : List X) : Type 0 where
  pub more : List X
  pub is : ys ≡ xs ++ more

pub at_feed : (c : Cut) (b : ℕ) → (b == 10) ≡ true
    → cut_byte c b ≡ record { lines = c.lines ++ c.begun ∷ []; begun = [] }
at_feed c b feed = rw feed refl

pub at_other : (c : Cut) (b : ℕ) → (b == 10) ≡ false
    → cut_byte c b ≡ record { lines = c.lines; begun = c.begun ++ b ∷ [] }
at_other c b other = rw other refl

lines_grow : (c : Cut) (bs : List ℕ) → Begins c.lines (cut_more c bs).lines
lines_grow c [] = record { more = []; is = sym (append-nil c.lines) }
lines_grow c (b ∷ bs) =
    elim (cases_Bool (b == 10)) [
      | inl feed ↦
          (let rest = lines_grow (record { lines = c.lines ++ c.begun ∷ []; begun = [] }) bs in
          record {
            more = c.begun ∷ rest.more;
            is = ap (λ (d : Cut). (cut_more d bs).lines) (at_feed c b feed) ∙ rest.is
                ∙ append_assoc c.lines (c.begun ∷ []) rest.more;
          })
      | inr other ↦
          (let rest = lines_grow (record { lines = c.lines; begun = c.begun ++ b ∷ [] }) bs in
          record {
            more = rest.more;
            is = ap (λ (d : Cut). (cut_more d bs).lines) (at_other c b other) ∙ rest.is;
          })
    ]

module _ (w : Layout) where
  abbrev of_lines : List (List ℕ) → List ℕ
  of_lines ls = dump w (framed w (framed_lines w ls)) false

  dump_grows : (ls more : List (List ℕ)) → Begins (of_lines ls) (of_lines (ls ++ more))
  dump_grows ls [] = record { more = []; is = ap of_lines (append-nil ls) ∙ sym (append-nil (of_lines ls)) }
  dump_grows ls (x ∷ xs) =
      let rest = dump_grows (ls ++ x ∷ []) xs in
      let piece = line_piece w (fold (behind_line w) (begin_of w) ls) x in
      record {
        more = piece ++ rest.more;
        is = ap of_lines (sym (append_assoc ls (x ∷ []) xs)) ∙ rest.is
            ∙ ap (λ (t : List ℕ). t ++ rest.more) (dumped_line w ls x) ∙ append_assoc (of_lines ls) piece rest.more;
      }

  text_grows : (text more : List ℕ) → Begins (of_lines (whole_lines text)) (of_lines (whole_lines (text ++ more)))
  text_grows text more =
      let lines = lines_grow (cut text) more in
      let grown = dump_grows (cut text).lines lines.more in
      let cuts : cut (text ++ more) ≡ cut_more (cut text) more =
      fold-append cut_byte (record { lines = []; begun = [] }) text more in
      record {
        more = grown.more;
        is = ap of_lines (whole_lines_are (text ++ more) ∙ ap (λ (x : Cut). x.lines) cuts ∙ lines.is) ∙ grown.is
            ∙ ap (λ (ls : List (List ℕ)). of_lines ls ++ grown.more) (sym (whole_lines_are text));
      }

pub wave_grows : (c : Circuit) (text more : List ℕ) (done : Bool)
    → (behind : List ℕ) × (wave_text c (text ++ more) done ≡ wave_text c text false ++ behind)
wave_grows c text more false =
    let grown = text_grows (layout_of c) text more in (grown.more, grown.is)
wave_grows c text more true =
    let w = layout_of c in
    let grown = text_grows w text more in
    let lines = framed_lines w (whole_lines (text ++ more)) in
    let time = (fold (behind w) (begin_of w) lines).time in
    let ending = head_at w time ++ time_text time in (
      grown.more ++ ending,
      dump_done w lines ∙ ap (λ (t : List ℕ). t ++ ending) grown.is
          ∙ append_assoc (of_lines w (whole_lines text)) grown.more ending,
    )
