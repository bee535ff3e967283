use Rattle.std.proofs.Common.{◌≡◌, ◌<◌, ◌-◌, ◌^◌, ◌∙◌, ◌==◌, ℕ, List, true, false, ap, arith, length, nat_lt, refl}
use Rattle.std.proofs.Common.{rules, sym, eq-eqb, lt-ltb}
use Rattle.aig_io.proofs.Puts.{put_nothing}
use Rattle.aig_wave.specs.Frames.{is_stop, is_trace_line, most_frames}
use Rattle.aig_wave.specs.Layout.{Layout}
use Rattle.aig_wave.specs.Parts.Points.{Point, Taping, is_framed}
use Rattle.aig_wave.proofs.Growing.{and_false}
use Rattle.aig_wave.proofs.dump_state.DumpState.take_line.Goals as goal

last_time : nat_lt (2 ^ 64 - 1) most_frames ≡ false
unfolding most_frames
last_time = refl

earlier : (time : ℕ) → time < 2 ^ 64 → (time ≡ 2 ^ 64 - 1 → ⊥) → nat_lt time most_frames ≡ true
unfolding most_frames
earlier time low other = lt-ltb time (2 ^ 64 - 1) (omega (arith, low, other))

-- no line has a frame after the last time
none_framed : (w : Layout) (p : Point) (line : List ℕ) → p.time ≡ 2 ^ 64 - 1 → is_framed w p line ≡ false
none_framed w p line is = rw (is, last_time) (and_false (is_trace_line w line))

pub returns-then-self-clause-point : goal.returns-then-self-clause-point
returns-then-self-clause-point g c =
    let self = c.args.self.now in
    let time = sym (ap (λ (t : Taping). t.point.time) c.self.view_is) ∙ c.if-self.true in
    rw (none_framed self.layout self.point c.args.text.now time) refl

pub returns-then-self-clause-put : goal.returns-then-self-clause-put
returns-then-self-clause-put g c =
    let self = c.args.self.now in
    let time = sym (ap (λ (t : Taping). t.point.time) c.self.view_is) ∙ c.if-self.true in
    rw (none_framed self.layout self.point c.args.text.now time) (put_nothing c.args.output.now)

pub returns-then-is_stop-clause-point : goal.returns-then-is_stop-clause-point
returns-then-is_stop-clause-point g c =
    let stop : is_stop c.args.text.now ≡ true = sym c.is_stop.ensures ∙ c.if-is_stop.true in
    let early : nat_lt c.args.self.now.point.time most_frames ≡ true =
    ap (λ (t : Taping). nat_lt t.point.time most_frames) (sym c.self.view_is)
    ∙ earlier c.self.inside.time (search rules) c.if-self.false in
    rw (stop, early) c.take_stop.ensures.point

pub returns-then-is_stop-clause-put : goal.returns-then-is_stop-clause-put
returns-then-is_stop-clause-put g c =
    let stop : is_stop c.args.text.now ≡ true = sym c.is_stop.ensures ∙ c.if-is_stop.true in
    let early : nat_lt c.args.self.now.point.time most_frames ≡ true =
    ap (λ (t : Taping). nat_lt t.point.time most_frames) (sym c.self.view_is)
    ∙ earlier c.self.inside.time (search rules) c.if-self.false in
    rw (stop, early) c.take_stop.ensures.put

pub returns-then-text-width-clause-point : goal.returns-then-text-width-clause-point
returns-then-text-width-clause-point g c =
    let stop : is_stop c.args.text.now ≡ false = sym c.is_stop.ensures ∙ c.if-is_stop.false in
    let wide : (length c.args.text.now == c.args.self.now.layout.width) ≡ true =
    eq-eqb (length c.args.text.now) c.args.self.now.layout.width
    (omega (arith, c.if-text-width.true, c.width.ensures, ap (λ (t : Taping). t.layout.width) c.self.view_is)) in
    let early : nat_lt c.args.self.now.point.time most_frames ≡ true =
    ap (λ (t : Taping). nat_lt t.point.time most_frames) (sym c.self.view_is)
    ∙ earlier c.self.inside.time (search rules) c.if-self.false in
    rw (stop, wide, early) c.take_step.ensures.point

pub returns-then-text-width-clause-put : goal.returns-then-text-width-clause-put
returns-then-text-width-clause-put g c =
    let stop : is_stop c.args.text.now ≡ false = sym c.is_stop.ensures ∙ c.if-is_stop.false in
    let wide : (length c.args.text.now == c.args.self.now.layout.width) ≡ true =
    eq-eqb (length c.args.text.now) c.args.self.now.layout.width
    (omega (arith, c.if-text-width.true, c.width.ensures, ap (λ (t : Taping). t.layout.width) c.self.view_is)) in
    let early : nat_lt c.args.self.now.point.time most_frames ≡ true =
    ap (λ (t : Taping). nat_lt t.point.time most_frames) (sym c.self.view_is)
    ∙ earlier c.self.inside.time (search rules) c.if-self.false in
    rw (stop, wide, early) c.take_step.ensures.put
