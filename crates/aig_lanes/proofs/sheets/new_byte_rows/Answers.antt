use Rattle.std.proofs.Common.{◌≡◌, ◌+◌, ◌/◌, ◌%◌, ◌++◌, ◌∷◌, ◌∙◌, ℕ, List, [], ap, arith, get_or, length, rules}
use Rattle.std.proofs.Math.Nat.{mul-le-mul_right}
use Rattle.std.proofs.lemmas.Bool.{cases_lt}
use Rattle.std.proofs.lemmas.List.{get_or-append-add, get_or_append_left, length-append}
use Rattle.aig_lanes.specs.Parts.Sheets.{BytesText, bytes_text, text_in}
use Rattle.aig_lanes.proofs.Side.Sheets.{rows_with}
use Rattle.aig_lanes.proofs.sheets.new_byte_rows.Goals as goal

add_none : (n : ℕ) → n ≡ n + 0
add_none n = omega arith

-- after other rows of bytes stand these
last_rows : (byte_rows : List BytesText) (octet : BytesText) (k : ℕ) → k / 8 ≡ length byte_rows
    → text_in k (byte_rows ++ octet ∷ []) ≡ bytes_text (k % 8) octet
last_rows byte_rows octet k is =
    ap (λ (n : ℕ). bytes_text (k % 8) (get_or (byte_rows ++ octet ∷ []) n (rows_with [] []))) (is ∙ add_none
    (length byte_rows))
    ∙ ap (bytes_text (k % 8)) (get_or-append-add byte_rows (octet ∷ []) 0 (rows_with [] []))

pub loop-octet-preserved : goal.loop-octet-preserved
loop-octet-preserved c =
    search (rules, length-append, cases_lt, get_or_append_left, rows_with, last_rows, mul-le-mul_right)
