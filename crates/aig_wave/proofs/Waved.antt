-- A trace text, line by line.
use Rattle.std.proofs.Common.{◌≡◌, ◌∙◌, ◌∷◌, ◌++◌, ◌+◌, ◌-◌, ◌≤◌, if◌then◌else◌, List, ℕ, [], Bool, true, false, fold}
use Rattle.std.proofs.Common.{refl, sym, ap, ap₂, append-nil, append_assoc, arith, drop, length, length-append, subst}
use Rattle.std.proofs.Common.{take}
use Rattle.std.proofs.lemmas.List.{length-take-le, take-append-drop}
use Rattle.std.proofs.lemmas.List.Sums.{fold-append}
use Rattle.std.proofs.Math.Seq.{take-append_seam}
use Rattle.aig_io.specs.Output.{Appended, Out}
use Rattle.aig_io.proofs.Puts.{put_nothing, put_twice}
use Rattle.aig_lines.specs.Lines.{HasNoLineFeed}
use Rattle.aig_trace.specs.Taken.{IsRowText, Took}
use Rattle.aig_wave.specs.declared.wave.WaveTaker.{WaveTaker}
use Rattle.aig_wave.specs.Dumping.{Dumps}
use Rattle.aig_wave.specs.Frames.{frames_of, most_frames, whole_lines}
use Rattle.aig_wave.specs.Layout.{Layout}
use Rattle.aig_wave.specs.Wave.{dump, time_text}
use Rattle.aig_wave.specs.Parts.Cuts.{Cut, cut, cut_byte}
use Rattle.aig_wave.specs.Parts.Points.{Point, Taping, begin_of, behind_line, head_at, line_piece}
use Rattle.aig_wave.proofs.Growing.{after_framed, cut_line, dump_done, dumped_line, framed, framed_lines}
use Rattle.aig_wave.proofs.Growing.{whole_lines_are}
use Rattle.aig_wave.proofs.Retold.{row_without_feed}

module _ (w : Layout) where
  -- the dump of whole lines
  abbrev of_lines : List (List ℕ) → List ℕ
  of_lines ls = dump w (framed w (framed_lines w ls)) false

  abbrev point_of : List (List ℕ) → Point
  point_of ls = fold (behind_line w) (begin_of w) ls

-- what is put at the end
abbrev pub ending : Bool → Taping → List ℕ
ending done t = if done then head_at t.layout t.point.time ++ time_text t.point.time else []

ended_text : (w : Layout) (text : List ℕ) (done : Bool)
    → dump w (frames_of w text) false ++ ending done (record { layout = w; point = point_of w (cut text).lines })
    ≡ dump w (frames_of w text) done
ended_text w text false = append-nil (dump w (frames_of w text) false)
ended_text w text true =
    ap (λ (ls : List (List ℕ)). of_lines w (whole_lines text)
    ++ (head_at w (point_of w ls).time ++ time_text (point_of w ls).time)) (sym (whole_lines_are text))
    ∙ ap (λ (p : Point). of_lines w (whole_lines text) ++ (head_at w p.time ++ time_text p.time))
    (after_framed w (whole_lines text))
    ∙ sym (dump_done w (framed_lines w (whole_lines text)))

-- a line without its last character
without_last : (room line : List ℕ) (end : ℕ) → end ≤ length room → take end room ≡ line ++ 10 ∷ []
    → take (end - 1) room ≡ line
without_last room line end within is =
    let long : end ≡ length line + 1 =
    omega (arith, ap length is, length-append line (10 ∷ []), length-take-le end room within) in
    let sum : end - 1 ≡ length line = omega (arith, long) in
    let parted : room ≡ line ++ 10 ∷ drop end room =
    sym (take-append-drop end room) ∙ ap (λ (t : List ℕ). t ++ drop end room) is
    ∙ append_assoc line (10 ∷ []) (drop end room) in
    ap₂ take sum parted ∙ take-append_seam line (10 ∷ drop end room)

module _ {W : Type 0} where
  -- a line was taken, and its frame put
  pub took_line : (a b : WaveTaker W) (line : List ℕ) → HasNoLineFeed line
      → b.dump_state ≡ record a.dump_state { point = behind_line a.dump_state.layout a.dump_state.point line }
      → Appended a.output b.output (line_piece a.dump_state.layout a.dump_state.point line)
      → Took Dumps a b (line ++ 10 ∷ [])
  took_line a b line none state put = record {
    more = λ from text d.
        let w = from.dump_state.layout in
        let c = cut text in
        let p = point_of w c.lines in
        let cuts : cut (text ++ (line ++ 10 ∷ [])) ≡ record { lines = c.lines ++ line ∷ []; begun = [] } =
        fold-append cut_byte (record { lines = []; begun = [] }) text (line ++ 10 ∷ []) ∙ cut_line c line none
        ∙ ap (λ (l : List ℕ). record { lines = c.lines ++ (l ++ line) ∷ []; begun = [] }) d.whole in
        let all : of_lines w c.lines ++ line_piece w p line ≡ of_lines w (whole_lines (text ++ (line ++ 10 ∷ []))) =
        sym (dumped_line w c.lines line)
        ∙ ap (of_lines w) (sym (whole_lines_are (text ++ (line ++ 10 ∷ [])) ∙ ap (λ (x : Cut). x.lines) cuts)) in
        let piece : line_piece a.dump_state.layout a.dump_state.point line ≡ line_piece w p line =
        ap (λ (t : Taping). line_piece t.layout t.point line) d.dump_state in
        record {
          dump_state = state
              ∙ ap (λ (t : Taping). record t { point = behind_line t.layout t.point line }) d.dump_state
              ∙ ap (λ (q : Point). record { layout = w; point = q })
              (sym (fold-append (behind_line w) (begin_of w) c.lines (line ∷ []))
              ∙ ap (λ (x : Cut). point_of w x.lines) (sym cuts));
          whole = ap (λ (x : Cut). x.begun) cuts;
          put = subst (Appended from.output b.output)
              (ap₂ (λ (x y : List ℕ). x ++ y) (ap (of_lines w) (whole_lines_are text)) piece ∙ all)
              (put_twice _ _ _ _ _ d.put put);
        };
  }

  -- the line of a step was taken, which was written into this room
  pub took_row : (a b : WaveTaker W) (text room : List ℕ) (end : ℕ) → IsRowText text → end ≤ length room
      → take end room ≡ text → b.dump_state ≡ record a.dump_state {
        point = behind_line a.dump_state.layout a.dump_state.point (take (end - 1) room);
      }
      → Appended a.output b.output (line_piece a.dump_state.layout a.dump_state.point (take (end - 1) room))
      → Took Dumps a b text
  took_row a b text room end is within written state put =
      let line = row_without_feed is.columns is.row in
      let same : text ≡ line.0 ++ 10 ∷ [] = is.is ∙ line.2 in
      let front : take (end - 1) room ≡ line.0 = without_last room line.0 end within (written ∙ same) in
      subst (Took Dumps a b) (sym same)
      (took_line a b line.0 line.1 (rw front at state) (rw front at put))

  -- nothing was taken yet
  pub dumps_nothing : (w : Layout) (s : WaveTaker W) → s.dump_state ≡ record { layout = w; point = begin_of w }
      → Dumps s s []
  unfolding most_frames
  dumps_nothing w s state = record {
    dump_state = state
        ∙ ap (λ (v : Layout). record { layout = v; point = begin_of v }) (sym (ap (λ (t : Taping). t.layout) state));
    whole = refl;
    put = subst (Appended s.output s.output) (ap (of_lines s.dump_state.layout) (sym (whole_lines_are [])))
        (put_nothing s.output);
  }

  -- what is put without more of the text
  pub took_still : (a b : WaveTaker W) → b.dump_state ≡ a.dump_state → Appended a.output b.output [] → Took Dumps a b []
  took_still a b state put = record {
    more = λ from text d.
        subst (Dumps from b) (sym (append-nil text))
        (record {
          dump_state = state ∙ d.dump_state;
          whole = d.whole;
          put = subst (Appended from.output b.output) (append-nil _) (put_twice _ _ _ _ _ d.put put);
        });
  }

  pub dumps_end : (from a : WaveTaker W) (b c : Out W) (text : List ℕ) (done : Bool) → Dumps from a text
      → Appended a.output b (ending done a.dump_state) → Appended b c []
      → let w = from.dump_state.layout in Appended from.output c (dump w (frames_of w text) done)
  dumps_end from a b c text done d end put =
      let w = from.dump_state.layout in
      subst (Appended from.output c)
      (append-nil (dump w (frames_of w text) false ++ ending done a.dump_state)
      ∙ ap (λ (t : Taping). dump w (frames_of w text) false ++ ending done t) d.dump_state ∙ ended_text w text done)
      (put_twice _ _ _ _ _ (put_twice _ _ _ _ _ d.put end) put)
