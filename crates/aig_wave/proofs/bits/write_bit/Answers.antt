use Rattle.std.proofs.Common.{◌≡◌, ◌∙◌, ◌+◌, ◌*◌, ◌==◌, ◌≤◌, ◌++◌, ◌∷◌, if◌then◌else◌, rules, ℕ, suc, List, [], Bool}
use Rattle.std.proofs.Common.{true, false, ap, append_assoc, arith, length, sym, take, length-take-le, take-take}
use Rattle.std.proofs.Math.Seq.{take-append-add}
use Rattle.aig_wave.proofs.bits.write_bit.Goals as goal

-- the first k bytes of what was written from a place on
written : (old new tail : List ℕ) (at end bit k : ℕ) → at ≤ length old → at + k ≤ end
    → take end new ≡ (take at old ++ bit ∷ []) ++ tail → take (at + k) new ≡ take at old ++ take k (bit ∷ tail)
written old new tail at end bit k low within is =
    let front = take at old in
    let here : length front ≡ at = length-take-le at old low in
    sym (take-take (at + k) end new within) ∙ ap (take (at + k)) (is ∙ append_assoc front (bit ∷ []) tail)
    ∙ ap (λ (n : ℕ). take (n + k) (front ++ bit ∷ tail)) (sym here) ∙ take-append-add front (bit ∷ tail) k

-- nothing, or all of the change
chosen : (same : Bool) (n bit : ℕ) (tail text : List ℕ) → take n tail ≡ text
    → take ((n + 1) * (if same then 0 else 1)) (bit ∷ tail) ≡ (if same then [] else bit ∷ text)
chosen true n bit tail text is =
    let none : (n + 1) * 0 ≡ 0 = omega arith in
    ap (λ (k : ℕ). take k (bit ∷ tail)) none
chosen false n bit tail text is =
    let all : (n + 1) * 1 ≡ suc n = omega arith in
    ap (λ (k : ℕ). take k (bit ∷ tail)) all ∙ ap (λ (t : List ℕ). bit ∷ t) is

pub returns-clause-text : goal.returns-clause-text
returns-clause-text c =
    let signal_code = c.args.signal_code.now in
    let count = c.is_other.result in
    let same = c.args.before == c.args.bit in
    let within : c.args.at + (signal_code.size + 1) * count ≤ c.write_text.result = search rules in
    written c.args.bytes.now c.write_text.new.line signal_code.tail c.args.at c.write_text.result c.args.bit
    ((signal_code.size + 1) * count) (omega arith) within
    (c.write_text.ensures.text ∙ ap (λ (t : List ℕ). t ++ signal_code.tail) c.write_text-end.ensures.text)
    ∙ ap (λ (d : ℕ). take c.args.at c.args.bytes.now
    ++ take ((signal_code.size + 1) * d) (c.args.bit ∷ signal_code.tail))
    c.is_other.ensures
    ∙ ap (λ (t : List ℕ). take c.args.at c.args.bytes.now ++ t)
    (chosen same signal_code.size c.args.bit signal_code.tail _ c.requires.signal_code.text)
