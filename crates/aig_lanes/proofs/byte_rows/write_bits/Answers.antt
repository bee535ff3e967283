use Rattle.std.proofs.Common.{◌≡◌, ◌+◌, ◌<◌, ◌≤◌, ◌++◌, ◌∷◌, ◌∙◌, ℕ, List, [], ap, arith, get_or, length, set}
use Rattle.std.proofs.Common.{append_assoc, sym, take}
use Rattle.std.proofs.lemmas.List.{take_all, take_more, take_more_set}
use Rattle.std.proofs.lemmas.Simd.{get_or-zip2}
use Rattle.std.specs.Int.{bit_at}
use Rattle.aig_lanes.specs.Parts.Sheets.{bytes_text, character_by}
use Rattle.aig_lanes.proofs.Side.Sheets.{rows_with, shifted_byte, text_long}
use Rattle.aig_lanes.proofs.byte_rows.write_bits.Goals as goal

pub loop-i-preserved : goal.loop-i-preserved
loop-i-preserved c =
    let at = c.args.at in
    let i = c.loop-i.i in
    let place = c.args.place in
    let line = c.loop-i.line in
    let ones = c.args.ones.now in
    let zeros = c.args.zeros.now in
    let text = bytes_text place (rows_with ones zeros) in
    let x = c.lane_character.result in
    let below : i < length ones = c.loop-i-test.true in
    let long : i < length text = omega (arith, below, text_long place (rows_with ones zeros) c.requires.same) in
    let next : at + (i + 1) ≡ at + i + 1 = omega arith in
    let here : get_or text i 0 ≡ x =
    get_or-zip2 (λ (high low : ℕ). character_by (bit_at high place) (bit_at low place)) ones zeros i 0 0 0 below
    (omega (arith, below, c.requires.same))
    ∙ sym (c.lane_character.ensures place (shifted_byte place c.requires.lane)) in
    record {
      text =
          ap (λ (n : ℕ). take n (set line (at + i) x)) next
          ∙ take_more_set line (at + i) x (omega (arith, below, c.requires.room, c.loop-i.auto.line))
          ∙ ap (λ (front : List ℕ). front ++ x ∷ []) c.loop-i.invariant.text
          ∙ append_assoc (take at c.args.line.now) (take i text) (x ∷ [])
          ∙ ap (λ (t : List ℕ). take at c.args.line.now ++ t)
          (ap (λ (n : ℕ). take i text ++ n ∷ []) (sym here) ∙ sym (take_more text i 0 long));
      within = omega (arith, below);
    }

pub returns : goal.returns
returns c =
    let at = c.args.at in
    let ones = c.args.ones.now in
    let text = bytes_text c.args.place (rows_with ones c.args.zeros.now) in
    let end : at + length ones ≡ at + c.loop-i.i = omega (arith, c.loop-i.invariant.within, c.loop-i-test.false) in
    let all : length text ≤ c.loop-i.i =
    omega (arith, c.loop-i-test.false, text_long c.args.place (rows_with ones c.args.zeros.now) c.requires.same) in
    ap (λ (n : ℕ). take n c.loop-i.line) end
    ∙ c.loop-i.invariant.text
    ∙ ap (λ (t : List ℕ). take at c.args.line.now ++ t) (take_all c.loop-i.i text all)
