-- A dump tells its frames, as far as they are shown.
use Rattle.std.proofs.Common.{◌≡◌, ◌≢◌, ◌==◌, ◌||◌, ◌+◌, ◌∙◌, ◌⊎◌, ℕ, suc, List, [], ◌∷◌, ◌++◌, Bool, true}
use Rattle.std.proofs.Common.{false, codes, decimal, not, if◌then◌else◌, length, bytes_eq, refl, sym, ap, subst, arith}
use Rattle.std.proofs.Common.{append_assoc, append-nil, length-append, length-drop, inl, inr}
use Rattle.std.proofs.lemmas.Bool.{cases_Bool, eq-eqb, eqb-true, ne_eqb, not-false, or_parts}
use Rattle.std.proofs.lemmas.List.{append_cancel_left, length-take, nil_from_length}
use Rattle.std.proofs.lemmas.Slice.Eq.{bytes_eq-Decides}
use Rattle.std.specs.Fmt.{digits}
use Rattle.std.specs.List.{AllByRecursion, AllZip, flat_map}
use Rattle.aig_wave.specs.declared.signal.Signal.{Signal}
use Rattle.aig_wave.specs.Frames.{Frame}
use Rattle.aig_wave.specs.Head.{code}
use Rattle.aig_wave.specs.Laws.{HaveDistinctCodes}
use Rattle.aig_wave.specs.Layout.{Layout}
use Rattle.aig_wave.specs.Wave.{bits, blank, body, change_text, dump, run_number_text, time_text}
use Rattle.aig_wave.proofs.Tagged.{AreValues, changed_text, not_run, not_time, same_changed, solid_digits, tag}
use Rattle.aig_wave.proofs.Tagged.{tag_changed, tag_time, tag_vector}

-- signals show values in a line, and the same characters in two lines
abbrev pub ShowValues : List Signal → List ℕ → Type 0
ShowValues ss line = AllByRecursion (λ s. AreValues (bits s line)) ss

abbrev pub ShowSame : List Signal → List ℕ → List ℕ → Type 0
ShowSame ss line other = AllByRecursion (λ s. bits s line ≡ bits s other) ss

-- a signal's change between two frames
data IsChange (time : ℕ) (before f : Frame) (s : Signal) : Type 0 where
  unchanged : change_text time before f s ≡ [] → bits s before.line ≡ bits s f.line → IsChange time before f s
  changed : change_text time before f s ≡ changed_text s (bits s f.line) → IsChange time before f s

change : (time : ℕ) (before f : Frame) (s : Signal) → IsChange time before f s
change time before f s =
    let a = bits s before.line in
    let b = bits s f.line in
    elim (cases_Bool ((time == 0) || not (bytes_eq a b))) [
      | inl shown ↦ changed (rw shown refl)
      | inr hidden ↦ unchanged (rw hidden refl)
          ((bytes_eq-Decides a b).0 (not-false (bytes_eq a b) (or_parts (time == 0) (not (bytes_eq a b)) hidden).1))
    ]

-- no change of these signals begins with the code of another
no_change : (key : List ℕ) (time : ℕ) (before f : Frame) (ss : List Signal) (rest : List ℕ)
    → AllByRecursion (λ s. key ≢ code s) ss → ShowValues ss f.line → key ≢ tag rest
    → key ≢ tag (flat_map (change_text time before f) ss ++ rest)
no_change key time before f [] rest others values end = end
no_change key time before f (s ∷ ss) rest others values end =
    let more = flat_map (change_text time before f) ss in
    let behind = no_change key time before f ss rest others.1 values.1 end in
    elim (change time before f s) [
      | unchanged is _ ↦ subst (λ (t : List ℕ). key ≢ tag ((t ++ more) ++ rest)) (sym is) behind
      | changed is ↦ λ same. others.0 (same ∙ ap (λ (t : List ℕ). tag ((t ++ more) ++ rest)) is
          ∙ ap tag (append_assoc (changed_text s (bits s f.line)) more rest)
          ∙ tag_changed s (bits s f.line) (more ++ rest) values.0)
    ]

bits_long : (s : Signal) (line other : List ℕ) → length line ≡ length other
    → length (bits s line) ≡ length (bits s other)
bits_long s line other long = simp (length-take, length-drop, long)

-- the same changes of two pairs of frames, from the same on, lead to the same
module _ (time : ℕ) (before other f g : Frame) (long : length f.line ≡ length g.line) where
  same_change : (s : Signal) (rest more : List ℕ) → bits s before.line ≡ bits s other.line
      → AreValues (bits s f.line) → AreValues (bits s g.line) → code s ≢ tag rest → code s ≢ tag more
      → change_text time before f s ++ rest ≡ change_text time other g s ++ more
      → (bits s f.line ≡ bits s g.line) × (rest ≡ more)
  same_change s rest more same values values_too none none_too e =
      elim (change time before f s) [
        | unchanged is stays ↦
            (elim (change time other g s) [
              | unchanged is_too stays_too ↦ (sym stays ∙ same ∙ stays_too, rw (is, is_too) at e)
              | changed is_too ↦
                  absurd (none (sym (ap tag (rw (is, is_too) at e) ∙ tag_changed s (bits s g.line) more values_too)))
            ])
        | changed is ↦
            (elim (change time other g s) [
              | unchanged is_too _ ↦
                  absurd (none_too (sym (tag_changed s (bits s f.line) rest values) ∙ ap tag (rw (is, is_too) at e)))
              | changed is_too ↦
                  same_changed s (bits s f.line) (bits s g.line) rest more (bits_long s f.line g.line long)
                  (rw (is, is_too) at e)
            ])
      ]

  same_changes : (ss : List Signal) (rest more : List ℕ) → HaveDistinctCodes ss → ShowValues ss f.line
      → ShowValues ss g.line → ShowSame ss before.line other.line → ((s : Signal) → code s ≢ tag rest)
      → ((s : Signal) → code s ≢ tag more)
      → flat_map (change_text time before f) ss ++ rest ≡ flat_map (change_text time other g) ss ++ more
      → ShowSame ss f.line g.line × (rest ≡ more)
  same_changes [] rest more distinct values values_too same none none_too e = (tt, e)
  same_changes (s ∷ ss) rest more distinct values values_too same none none_too e =
      let a = flat_map (change_text time before f) ss in
      let b = flat_map (change_text time other g) ss in
      let one = same_change s (a ++ rest) (b ++ more) same.0 values.0 values_too.0
      (no_change (code s) time before f ss rest distinct.0 values.1 (none s))
      (no_change (code s) time other g ss more distinct.0 values_too.1 (none_too s))
      (sym (append_assoc (change_text time before f s) a rest) ∙ e
      ∙ append_assoc (change_text time other g s) b more) in
      let others = same_changes ss rest more distinct.1 values.1 values_too.1 same.1 none none_too one.1 in
      ((one.0, others.0), others.1)

run_is_no_time : (time : ℕ) (rest : List ℕ) → codes "r" ≢ tag (time_text time ++ rest)
run_is_no_time time rest = λ same. (
    let is : codes "r" ≡ 35 ∷ decimal time = same ∙ tag_time time rest in
    let heads : ◌≡◌ {A = ℕ} 114 35 = cc in
    omega (arith, heads))

-- it begins with no run and with no change of a signal
abbrev IsNoChange : List ℕ → Type 0
IsNoChange text = (codes "r" ≢ tag text) × ((s : Signal) → code s ≢ tag text)

time_is_none : (time : ℕ) (rest : List ℕ) → IsNoChange (time_text time ++ rest)
time_is_none time rest = (run_is_no_time time rest, λ s. not_time s time rest)

nothing_is_none : IsNoChange []
nothing_is_none = ((λ e. omega (arith, ap length e)), λ s e. omega (arith, ap length e))

no_runs : (ss : List Signal) → AllByRecursion (λ s. codes "r" ≢ code s) ss
no_runs [] = tt
no_runs (s ∷ ss) = (not_run s, no_runs ss)

-- the next frame is of the run, or begins the next one, which the first frame does not
abbrev pub GoesOn : ℕ → ℕ → ℕ → Type 0
GoesOn time run next = (next ≡ run) ⊎ ((time ≢ 0) × (next ≡ run + 1))

abbrev run_by : ℕ → ℕ → ℕ → List ℕ
run_by time run next =
    if (time == 0) || not (run == next) then codes "b" ++ (digits 2 false next ++ codes " r\n") else []

run_hidden : (time run next : ℕ) → time ≢ 0 → run ≡ next → run_by time run next ≡ []
run_hidden time run next later same = rw (ne_eqb time 0 later, eq-eqb run next same) refl

run_said : (next : ℕ) (rest : List ℕ)
    → tag ((codes "b" ++ (digits 2 false next ++ codes " r\n")) ++ rest) ≡ codes "r"
run_said next rest =
    ap tag (ap (λ (t : List ℕ). 98 ∷ t) (append_assoc (digits 2 false next) (codes " r\n") rest))
    ∙ tag_vector 114 [] refl (omega arith, tt) (digits 2 false next) rest (solid_digits 2 next)

run_shown : (time run next : ℕ) (rest : List ℕ) → run ≢ next → tag (run_by time run next ++ rest) ≡ codes "r"
run_shown time run next rest other =
    elim (cases_Bool (time == 0)) [
      | inl first ↦ rw first (run_said next rest)
      | inr later ↦ rw (later, ne_eqb run next other) (run_said next rest)
    ]

-- where no run is said, it goes on
run_unsaid : (time run next : ℕ) (rest : List ℕ) → [] ≡ run_by time run next ++ rest → (time ≢ 0) × (next ≡ run)
run_unsaid time run next rest e =
    elim (cases_Bool ((time == 0) || not (run == next))) [
      | inl said ↦ absurd (omega (arith, ap length (rw said at e)))
      | inr hidden ↦
          (let parts = or_parts (time == 0) (not (run == next)) hidden in (
            λ start. (let first : (time == 0) ≡ true = eq-eqb time 0 start in let later = parts.0 in cc),
            sym (eqb-true run next (not-false (run == next) parts.1)),
          ))
    ]

no_run : (time run next other_next : ℕ) (rest more : List ℕ) → time ≢ 0 → next ≡ run → other_next ≡ run + 1
    → codes "r" ≢ tag rest → run_by time run next ++ rest ≢ run_by time run other_next ++ more
no_run time run next other_next rest more later stays goes none = λ e. (
    let others : run ≢ other_next = λ same. omega (arith, same, goes) in
    none (sym (ap (λ (t : List ℕ). tag (t ++ rest)) (sym (run_hidden time run next later (sym stays))) ∙ ap tag e
    ∙ run_shown time run other_next more others)))

cancelled : (time run next other_next : ℕ) (rest more : List ℕ) → next ≡ other_next
    → run_by time run next ++ rest ≡ run_by time run other_next ++ more → (next ≡ other_next) × (rest ≡ more)
cancelled time run next other_next rest more same e = (
  same,
  append_cancel_left (run_by time run next) rest more
      (e ∙ ap (λ (n : ℕ). run_by time run n ++ more) (sym same)),
)

same_run : (time run next other_next : ℕ) (rest more : List ℕ) → GoesOn time run next → GoesOn time run other_next
    → codes "r" ≢ tag rest → codes "r" ≢ tag more
    → run_by time run next ++ rest ≡ run_by time run other_next ++ more → (next ≡ other_next) × (rest ≡ more)
same_run time run next other_next rest more (inl stays) (inl stays_too) none none_too e =
    cancelled time run next other_next rest more (stays ∙ sym stays_too) e
same_run time run next other_next rest more (inl stays) (inr goes) none none_too e =
    absurd (no_run time run next other_next rest more goes.0 stays goes.1 none e)
same_run time run next other_next rest more (inr goes) (inl stays) none none_too e =
    absurd (no_run time run other_next next more rest goes.0 stays goes.1 none_too (sym e))
same_run time run next other_next rest more (inr goes) (inr goes_too) none none_too e =
    cancelled time run next other_next rest more (goes.1 ∙ sym goes_too.1) e

module _ (w : Layout) where
  -- a frame shows values, and its line is as long as those of steps
  pub record IsShown (f : Frame) : Type 0 where
    pub long : length f.line ≡ w.width
    pub values : ShowValues w.signals f.line

  -- frames of which each is shown, and is of the run before or begins the next one
  abbrev pub AreFrames : ℕ → ℕ → List Frame → Type 0
  AreFrames time run [] = Unit {0}
  AreFrames time run (f ∷ fs) = IsShown f × GoesOn time run f.run × AreFrames (time + 1) f.run fs

  -- frames of one run that show the same
  abbrev pub AreSame : Frame → Frame → Type 0
  AreSame f g = (f.run ≡ g.run) × ShowSame w.signals f.line g.line

  -- how a dump ends after the last frame, at this time
  abbrev end_text : Bool → ℕ → List ℕ
  end_text done time = if done then time_text time else []

  -- what stands in a dump after a frame
  abbrev behind : Bool → ℕ → Frame → List Frame → List ℕ
  behind done time before fs = body w time before fs ++ end_text done (time + length fs)

  behind_frame : (done : Bool) (time : ℕ) (before f : Frame) (fs : List Frame)
      → behind done time before (f ∷ fs) ≡ time_text time ++ (run_number_text time before f
      ++ (flat_map (change_text time before f) w.signals ++ behind done (time + 1) f fs))
  behind_frame done time before f fs =
      let count : time + suc (length fs) ≡ time + 1 + length fs = omega arith in
      ap (λ (n : ℕ). body w time before (f ∷ fs) ++ end_text done n) count ∙ simp append_assoc

  behind_is_none : (done : Bool) (time : ℕ) (before : Frame) (fs : List Frame)
      → IsNoChange (behind done time before fs)
  behind_is_none true time before [] =
      subst IsNoChange (append-nil (time_text (time + 0))) (time_is_none (time + 0) [])
  behind_is_none false time before [] = nothing_is_none
  behind_is_none done time before (f ∷ fs) =
      subst IsNoChange (sym (behind_frame done time before f fs)) (time_is_none time _)

  -- a frame is some text, and so is the end of a dump
  frame_is_some : (done : Bool) (time : ℕ) (before f : Frame) (fs : List Frame) → behind done time before (f ∷ fs) ≢ []
  frame_is_some done time before f fs = λ e. omega (arith, ap length (sym (behind_frame done time before f fs) ∙ e))

  end_is_some : (time : ℕ) (before : Frame) (fs : List Frame) → behind true time before fs ≢ []
  end_is_some time before [] = λ e. omega (arith, ap length e)
  end_is_some time before (f ∷ fs) = frame_is_some true time before f fs

  -- what is after a dump's end where another dump has a frame
  past_end : (done : Bool) (time : ℕ) (before other g : Frame) (gs : List Frame)
      → behind true time before [] ≡ behind done time other (g ∷ gs)
      → [] ≡ run_number_text time other g ++
      (flat_map (change_text time other g) w.signals ++ behind done (time + 1) g gs)
  past_end done time before other g gs e =
      let now : time + 0 ≡ time = omega arith in
      append_cancel_left (time_text time) [] _
      (append-nil (time_text time) ∙ sym (ap time_text now) ∙ e ∙ behind_frame done time other g gs)

  no_more : (done : Bool) (time : ℕ) (before other g : Frame) (gs : List Frame)
      → behind done time before [] ≢ behind done time other (g ∷ gs)
  no_more false time before other g gs = λ e. frame_is_some false time other g gs (sym e)
  no_more true time before other g gs = λ e. (
      let changes = flat_map (change_text time other g) w.signals in
      let next = behind true (time + 1) g gs in
      let none = ap length (past_end true time before other g gs e) in
      let sizes : length next ≡ 0 =
      omega (
        arith,
        none,
        length-append (run_number_text time other g) (changes ++ next),
        length-append changes next,
      ) in
      end_is_some (time + 1) g gs (nil_from_length next sizes))

  -- where all changes of two frames are the same, they show the same
  same_frame : (done done_too : Bool) (time : ℕ) (before other f g : Frame) (fs gs : List Frame)
      → HaveDistinctCodes w.signals → AreSame before other → IsShown f → IsShown g → GoesOn time before.run f.run
      → GoesOn time other.run g.run → behind done time before (f ∷ fs) ≡ behind done_too time other (g ∷ gs)
      → AreSame f g × (behind done (time + 1) f fs ≡ behind done_too (time + 1) g gs)
  same_frame done done_too time before other f g fs gs distinct same shown shown_too goes goes_too e =
      let rest = behind done (time + 1) f fs in
      let more = behind done_too (time + 1) g gs in
      let end = behind_is_none done (time + 1) f fs in
      let end_too = behind_is_none done_too (time + 1) g gs in
      let changes = flat_map (change_text time before f) w.signals in
      let changes_too = flat_map (change_text time other g) w.signals in
      let runs : run_number_text time before f ++ (changes ++ rest)
      ≡ run_number_text time other g ++ (changes_too ++ more) =
      append_cancel_left (time_text time) _ _
      (sym (behind_frame done time before f fs) ∙ e ∙ behind_frame done_too time other g gs) in
      let others : AllByRecursion (λ s. codes "r" ≢ code s) w.signals = no_runs w.signals in
      let run = same_run time before.run f.run g.run (changes ++ rest) (changes_too ++ more) goes
      (subst (λ (n : ℕ). GoesOn time n g.run) (sym same.0) goes_too)
      (no_change (codes "r") time before f w.signals rest others shown.values end.0)
      (no_change (codes "r") time other g w.signals more others shown_too.values end_too.0)
      (runs ∙ ap (λ (n : ℕ). run_by time n g.run ++ (changes_too ++ more)) (sym same.0)) in
      let bits_too = same_changes time before other f g (shown.long ∙ sym shown_too.long) w.signals rest more distinct
      shown.values shown_too.values same.1 end.1 end_too.1 run.1 in
      ((run.0, bits_too.0), bits_too.1)

  same_frames : (done : Bool) (time : ℕ) (before other : Frame) (fs gs : List Frame) → HaveDistinctCodes w.signals
      → AreSame before other → AreFrames time before.run fs → AreFrames time other.run gs
      → behind done time before fs ≡ behind done time other gs → AllZip AreSame fs gs
  same_frames done time before other [] [] distinct same are are_too e = tt
  same_frames done time before other [] (g ∷ gs) distinct same are are_too e = no_more done time before other g gs e
  same_frames done time before other (f ∷ fs) [] distinct same are are_too e =
      no_more done time other before f fs (sym e)
  same_frames done time before other (f ∷ fs) (g ∷ gs) distinct same are are_too e =
      let one = same_frame done done time before other f g fs gs distinct same are.0 are_too.0 are.1 are_too.1 e in
      (one.0, same_frames done (time + 1) f g fs gs distinct one.0 are.2 are_too.2 one.1)

  -- the second frames begin as the first, and go on in the run of the last of these
  abbrev pub GoOnAlike : ℕ → ℕ → List Frame → List Frame → Type 0
  GoOnAlike time run [] [] = ⊥
  GoOnAlike time run [] (g ∷ gs) = (time ≢ 0) × (g.run ≡ run)
  GoOnAlike time run (f ∷ fs) [] = ⊥
  GoOnAlike time run (f ∷ fs) (g ∷ gs) = AreSame f g × GoOnAlike (time + 1) g.run fs gs

  more_frames : (time : ℕ) (before other : Frame) (fs gs : List Frame) → HaveDistinctCodes w.signals
      → AreSame before other → AreFrames time before.run fs → AreFrames time other.run gs
      → behind true time before fs ≡ behind false time other gs → GoOnAlike time other.run fs gs
  more_frames time before other [] [] distinct same are are_too e = end_is_some time before [] e
  more_frames time before other [] (g ∷ gs) distinct same are are_too e =
      run_unsaid time other.run g.run _ (past_end false time before other g gs e)
  more_frames time before other (f ∷ fs) [] distinct same are are_too e = end_is_some time before (f ∷ fs) e
  more_frames time before other (f ∷ fs) (g ∷ gs) distinct same are are_too e =
      let one = same_frame true false time before other f g fs gs distinct same are.0 are_too.0 are.1 are_too.1 e in
      (one.0, more_frames (time + 1) f g fs gs distinct one.0 are.2 are_too.2 one.1)

  same_itself : (ss : List Signal) (line : List ℕ) → ShowSame ss line line
  same_itself [] line = tt
  same_itself (s ∷ ss) line = (refl, same_itself ss line)

  -- a dump with a frame, and one with an end
  with_frame : (done : Bool) (f : Frame) (fs : List Frame)
      → w.head ++ behind done 0 (blank w) (f ∷ fs) ≡ dump w (f ∷ fs) done
  with_frame done f fs =
      let count : 0 + suc (length fs) ≡ suc (length fs) = omega arith in
      let some : suc (length fs) ≢ 0 = λ e. omega (arith, e) in
      ap (λ (n : ℕ). w.head ++ (body w 0 (blank w) (f ∷ fs) ++ end_text done n)) count
      ∙ rw (ne_eqb (suc (length fs)) 0 some) refl

  with_end : (fs : List Frame) → w.head ++ behind true 0 (blank w) fs ≡ dump w fs true
  with_end [] = refl
  with_end (f ∷ fs) = with_frame true f fs

  not_empty : (text : List ℕ) → text ≢ [] → w.head ++ text ≢ []
  not_empty text some = λ e. some (nil_from_length text (omega (arith, length-append w.head text, ap length e)))

  frame_is_told : (f : Frame) (fs : List Frame) → dump w (f ∷ fs) false ≢ []
  frame_is_told f fs = λ e. not_empty _ (frame_is_some false 0 (blank w) f fs) (with_frame false f fs ∙ e)

  -- frames with one dump show the same
  pub same_dump : (done : Bool) (fs gs : List Frame) → HaveDistinctCodes w.signals → AreFrames 0 0 fs
      → AreFrames 0 0 gs → dump w fs done ≡ dump w gs done → AllZip AreSame fs gs
  same_dump true fs gs distinct are are_too e =
      same_frames true 0 (blank w) (blank w) fs gs distinct (refl, same_itself w.signals (blank w).line) are are_too
      (append_cancel_left w.head _ _ (with_end fs ∙ e ∙ sym (with_end gs)))
  same_dump false [] [] distinct are are_too e = tt
  same_dump false [] (g ∷ gs) distinct are are_too e = frame_is_told g gs (sym e)
  same_dump false (f ∷ fs) [] distinct are are_too e = frame_is_told f fs e
  same_dump false (f ∷ fs) (g ∷ gs) distinct are are_too e =
      same_frames false 0 (blank w) (blank w) (f ∷ fs) (g ∷ gs) distinct
      (refl, same_itself w.signals (blank w).line) are are_too
      (append_cancel_left w.head _ _ (with_frame false f fs ∙ e ∙ sym (with_frame false g gs)))

  -- a dump with its end that is one without
  pub longer_dump : (fs gs : List Frame) → HaveDistinctCodes w.signals → AreFrames 0 0 fs → AreFrames 0 0 gs
      → dump w fs true ≡ dump w gs false → GoOnAlike 0 0 fs gs
  longer_dump fs [] distinct are are_too e =
      absurd (not_empty _ (end_is_some 0 (blank w) fs) (with_end fs ∙ e))
  longer_dump fs (g ∷ gs) distinct are are_too e =
      more_frames 0 (blank w) (blank w) fs (g ∷ gs) distinct (refl, same_itself w.signals (blank w).line) are are_too
      (append_cancel_left w.head _ _ (with_end fs ∙ e ∙ sym (with_frame false g gs)))
