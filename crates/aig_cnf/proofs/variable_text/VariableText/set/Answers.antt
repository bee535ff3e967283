use Rattle.std.proofs.Common.{◌≡◌, ◌+◌, ◌-◌, ◌<◌, ◌≤◌, ◌^◌, ◌++◌, ◌∷◌, ◌∙◌, ℕ, List, ap, arith, decimal, drop, length}
use Rattle.std.proofs.Common.{length-append, length-drop, set, subst}
use Rattle.std.proofs.lemmas.Fmt.{length-decimal-le}
use Rattle.std.proofs.lemmas.List.{drop-set}
use Rattle.aig_cnf.specs.VariableTexts.{IsVariableText, spaces}
use Rattle.aig_cnf.proofs.variable_text.VariableText.set.Goals as goal

-- a sign before what stands from a place on
signed : (start : ℕ) (bytes text : List ℕ) → 0 < start → start ≤ length bytes → drop start bytes ≡ text
    → drop (start - 1) (set bytes (start - 1) 45) ≡ 45 ∷ text
signed start bytes text some within is =
    let next : start - 1 + 1 ≡ start = omega arith in
    drop-set bytes (start - 1) 45 (omega arith) ∙ ap (λ (n : ℕ). 45 ∷ drop n bytes) next
    ∙ ap (λ (t : List ℕ). 45 ∷ t) is

short : (n : ℕ) → n ≤ 2 ^ 32 → length (decimal n) ≤ 10
short n low = length-decimal-le 10 n (omega arith) (omega arith) (omega arith)

-- there is room for the digits, and for a sign before them
fits : (n : ℕ) → n ≤ 2 ^ 32 → length (decimal n) ≤ 11
fits n low = omega (arith, short n low)

leaves_room : (start n : ℕ) → start + length (decimal n) ≡ 11 → n ≤ 2 ^ 32 → 1 ≤ start
leaves_room start n ends low = omega (arith, short n low)

pub write_digits-start-requires : goal.write_digits-start-requires
write_digits-start-requires c =
    (fits _ (omega arith), omega (arith, ap length c.requires, length-drop 11 c.args.self.now.bytes))

pub overflow_sub-self : goal.overflow_sub-self
overflow_sub-self c = leaves_room _ _ c.write_digits-start.ensures.start (omega arith)

pub overflow_sub-self-2 : goal.overflow_sub-self-2
overflow_sub-self-2 c = leaves_room _ _ c.write_digits-start.ensures.start (omega arith)

pub returns : goal.returns
returns c =
    let start = c.write_digits-start.result in
    let bytes = c.write_digits-start.new.buf in
    let number = decimal (c.from.result + 1) in
    let ends = c.write_digits-start.ensures.start in
    let some = leaves_room start (c.from.result + 1) ends (omega arith) in
    let text : drop start bytes ≡ number ++ spaces =
    c.write_digits-start.ensures.written ∙ ap (λ (rest : List ℕ). number ++ rest) c.requires in
    let long = ap length text ∙ length-append number spaces in
    subst (λ (variable : ℕ). IsVariableText variable (record { bytes = set bytes (start - 1) 45; from = start - 1 }))
    c.from.ensures
    (record {
      digits = omega (arith, some, ends);
      text = signed start bytes (number ++ spaces) some (omega (arith, long, length-drop start bytes)) text;
    })
