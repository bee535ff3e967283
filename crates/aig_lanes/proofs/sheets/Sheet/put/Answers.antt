use Rattle.std.proofs.Common.{◌≡◌, ◌+◌, ◌*◌, ◌/◌, ◌%◌, ◌<◌, ◌∙◌, rules, ℕ, List, [], ap, ap₂, arith, get_or, length}
use Rattle.std.proofs.Common.{sym}
use Rattle.std.proofs.lemmas.Bool.{cases_lt}
use Rattle.std.proofs.lemmas.List.{get_or_past, with_items_is}
use Rattle.aig_places.specs.Lanes.{bit_in}
use Rattle.aig_lanes.specs.Parts.Sheets.{BytesText, bytes_text, character_by, eight_at, text_in}
use Rattle.aig_lanes.proofs.Side.Eights.{eight_character, eight_long, overwritten_at, overwritten_front}
use Rattle.aig_lanes.proofs.Side.Eights.{overwritten_size}
use Rattle.aig_lanes.proofs.Side.Sheets.{rows_with}
use Rattle.aig_lanes.proofs.sheets.Sheet.put.Goals as goal

pub returns-clause-text : goal.returns-clause-text
returns-clause-text c = λ l k below in_eight room.
    let at = c.args.at in
    let inside = c.self.inside in
    let new = c.put_lane_bytes.new.byte_rows in
    let old = c.deref_mut.result.now in
    let cs = bytes_text (l % 8) (eight_at (l / 8) c.transpose.result c.transpose-2.result) in
    let size : length old ≡ 32 = ap length c.deref_mut.ensures.value ∙ c.self.invariant in
    let items =
    with_items_is inside.byte_rows new (c.put_lane_bytes.ensures.size ∙ sym size ∙ c.deref_mut.ensures.len) in
    let before = ap (text_in l) (c.deref_mut.ensures.value ∙ c.self.view_is) in
    let put = c.put_lane_bytes.ensures.text (l / 8) (l % 8) (rows_with [] []) (omega (arith, below)) in
    let ones = c.transpose.result in
    let zeros = c.transpose-2.result in
    let all = c.put_lane_bytes.ensures.ones in
    let all_too = c.put_lane_bytes.ensures.zeros in
    let octet : l / 8 < 32 = omega (arith, below) in
    let place : l % 8 < 8 = omega arith in
    let lane : 8 * (l / 8) + l % 8 ≡ l = omega arith in
    let first : 2 * k + 0 ≡ 2 * k = omega arith in
    let planes = c.args.planes.now in
    let wide = eight_long (l / 8) (l % 8) ones zeros all all_too octet in
    ap (λ (os : List BytesText). get_or (text_in l os) (at + k) 0) items
    ∙ ap (λ (t : List ℕ). get_or t (at + k) 0) put
    ∙ overwritten_at at k cs (text_in l old) (omega (arith, wide, in_eight))
    (omega (arith, room, ap (λ (t : List ℕ). length t) before))
    ∙ eight_character (l / 8) (l % 8) ones zeros all all_too octet k in_eight
    ∙ ap₂ character_by
    (c.transpose.ensures (l / 8) k (l % 8) octet in_eight place
    ∙ ap₂ (λ (m n : ℕ). bit_in m (get_or planes n [])) lane first)
    (c.transpose-2.ensures (l / 8) k (l % 8) octet in_eight place
    ∙ ap (λ (m : ℕ). bit_in m (get_or planes (2 * k + 1) [])) lane)

pub returns-clause-front : goal.returns-clause-front
returns-clause-front c = search (rules, with_items_is, rows_with, overwritten_front)

pub returns-clause-long : goal.returns-clause-long
returns-clause-long c = search (rules, with_items_is, cases_lt, rows_with, overwritten_size, get_or_past)
