use Rattle.std.proofs.Common.{◌≡◌, ◌+◌, ◌-◌, ◌<◌, ◌≤◌, ◌/◌, ◌%◌, ◌==◌, ◌++◌, ◌∙◌, if◌then◌else◌, ℕ, zero, suc, List}
use Rattle.std.proofs.Common.{[], rules, ap, append_assoc, arith, codes, decimal, drop, length, length-append}
use Rattle.std.proofs.Common.{length-take-le, replicate, sym, take}
use borrow.Rule.Slice.PartMut.{put_mid}
use Rattle.std.proofs.Math.Seq.{take-append-add}
use Rattle.std.proofs.lemmas.List.{drop-drop}
use Rattle.aig_io.proofs.LeadingDigits.{text_stands}
use Rattle.aig_cnf.specs.ClauseText.{literal_text}
use Rattle.aig_cnf.specs.VariableTexts.{spaces}
use Rattle.aig_cnf.proofs.variable_text.VariableText.write_literal.Goals as goal

-- the first bytes of a text and what is after it, where all of the text is among them
copied : (k : ℕ) (text rest : List ℕ) → length text ≤ k → take k (text ++ rest) ≡ text ++ take (k - length text) rest
copied k text rest short =
    let all : k ≡ length text + (k - length text) = omega arith in
    ap (λ (n : ℕ). take n (text ++ rest)) all ∙ take-append-add text rest (k - length text)

-- the literal of a number, negated where s is 1
abbrev signed : ℕ → ℕ → List ℕ
signed s n = (if s == 0 then [] else codes "-") ++ (decimal n ++ codes " ")

signed_length : (s n : ℕ) → s < 2 → length (signed s n) ≡ s + length (decimal n) + 1
signed_length zero n low = omega (arith, length-append (decimal n) (codes " "))
signed_length (suc zero) n low = omega (arith, length-append (decimal n) (codes " "))
signed_length (suc (suc s)) n low = absurd (omega arith)

-- the spaces after it
others : List ℕ
others = replicate 20 32

-- where it begins
begins : (s n from : ℕ) (bytes : List ℕ) → s < 2 → drop from bytes ≡ codes "-" ++ (decimal n ++ spaces)
    → drop (from + 1 - s) bytes ≡ signed s n ++ others
unfolding others
begins zero n from bytes low is =
    let here : from + 1 - 0 ≡ from + 1 = omega arith in
    ap (λ (k : ℕ). drop k bytes) here ∙ sym (drop-drop 1 from bytes) ∙ ap (drop 1) is
    ∙ sym (append_assoc (decimal n) (codes " ") others)
begins (suc zero) n from bytes low is =
    let here : from + 1 - 1 ≡ from = omega arith in
    ap (λ (k : ℕ). drop k bytes) here ∙ is
    ∙ ap (λ (t : List ℕ). codes "-" ++ t) (sym (append_assoc (decimal n) (codes " ") others))
begins (suc (suc s)) n from bytes low is = absurd (omega arith)

pub returns-clause-text : goal.returns-clause-text
returns-clause-text c =
    let at = c.args.at in
    let line = c.args.line.now in
    let bytes = c.args.self.now.bytes in
    let first = c.args.self.now.from in
    let from = first + 1 - c.from.result in
    let s = c.args.literal % 2 in
    let n = c.args.literal / 2 + 1 in
    let text = literal_text c.args.literal in
    let own = c.requires.own in
    let sign : c.from.result ≡ s = search rules in
    let long : length text ≡ s + length (decimal n) + 1 = signed_length s n (omega arith) in
    let all : from + 16 - from ≡ 16 = omega arith in
    let stands : drop from bytes ≡ text ++ others =
    ap (λ (k : ℕ). drop (first + 1 - k) bytes) sign ∙ begins s n first bytes (omega arith) own.text in
    let written : c.copy_from_slice.new.self ≡ text ++ take (16 - length text) others =
    c.copy_from_slice.ensures.after ∙ ap (λ (k : ℕ). take k (drop from bytes)) all ∙ ap (take 16) stands
    ∙ copied 16 text others (omega (arith, long, own.digits)) in
    ap (λ (t : List ℕ). take (at + (12 - from)) (put_mid at (at + 16 - at) line t)) written
    ∙ text_stands at (at + (12 - from)) (take at line) text (take (16 - length text) others) _
    (length-take-le at line (omega arith)) (omega (arith, long, sign, own.digits))
