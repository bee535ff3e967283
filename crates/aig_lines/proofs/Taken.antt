-- Bytes that begin with whole lines, of which the first were taken.
use Rattle.std.proofs.Common.{◌≡◌, ◌+◌, ◌-◌, ◌≤◌, ◌∙◌, ℕ, List, [], ◌∷◌, ◌++◌, drop, length, length-append, inr}
use Rattle.std.proofs.Common.{append_assoc, ap, sym, subst, refl, arith}
use Rattle.std.proofs.Math.Seq.{drop-append_seam}
use Rattle.aig_lines.specs.Lines.{Line, IsBehind, AreEnded, ahead, line_bytes, lines_of, bytes_of}
use Rattle.aig_lines.proofs.Cutting.{pieces}
use Rattle.aig_lines.proofs.Pieces.{bytes_joined, lines_joined}

ended_apart : (front rest : List Line) → AreEnded (front ++ rest) → AreEnded front × AreEnded rest
ended_apart [] rest h = (tt, h)
ended_apart (l ∷ front) rest h = let r = ended_apart front rest h.1 in ((h.0, r.0), r.1)

-- a line that has its line feed has a byte
lines_count : (ls : List Line) → AreEnded ls → length ls ≤ length (bytes_of ls)
lines_count [] h = omega arith
lines_count (l ∷ ls) h =
    let is : line_bytes l ≡ l.text ++ 10 ∷ [] = rw h.0 refl in
    let n : length (line_bytes l) ≡ length l.text + 1 =
    ap length is ∙ length-append l.text (10 ∷ []) in
    omega (arith, n, lines_count ls h.1, length-append (line_bytes l) (bytes_of ls))

-- These bytes were taken, and what was ahead of them is ahead of the others, whatever comes after.
pub record IsTaken (bytes : List ℕ) (used number now : ℕ) (lines left : List Line) : Type 0 where
  pub within : used ≤ length bytes
  pub counted : now ≤ number + used
  pub following : List ℕ → List Line
  pub before : (more : List ℕ) → lines_of (bytes ++ more) ≡ lines ++ following more
  pub after : (more : List ℕ) → lines_of (drop used bytes ++ more) ≡ left ++ following more

behind_parts : (lines left : List ℕ) (number now : ℕ)
    → (behind : IsBehind (ahead number (lines_of lines)) (ahead now (lines_of left)))
    → lines ≡ bytes_of behind.front ++ left
behind_parts lines left number now behind =
    sym (pieces lines).joined ∙ ap bytes_of behind.lines ∙ bytes_joined behind.front (lines_of left)
    ∙ ap (λ (bs : List ℕ). bytes_of behind.front ++ bs) (pieces left).joined

pub left_fits : (lines left : List ℕ) (number now : ℕ)
    → IsBehind (ahead number (lines_of lines)) (ahead now (lines_of left)) → length left ≤ length lines
left_fits lines left number now behind =
    omega (arith, ap length (behind_parts lines left number now behind), length-append (bytes_of behind.front) left)

pub lines_cut : (bytes lines rest more : List ℕ) → bytes ≡ lines ++ rest → AreEnded (lines_of lines)
    → lines_of (bytes ++ more) ≡ lines_of lines ++ lines_of (rest ++ more)
lines_cut bytes lines rest more cut ended =
    ap (λ (bs : List ℕ). lines_of (bs ++ more)) cut ∙ ap lines_of (append_assoc lines rest more)
    ∙ lines_joined lines (rest ++ more) (inr ended)

pub taken : (bytes lines rest left : List ℕ) (number now used : ℕ) → bytes ≡ lines ++ rest → AreEnded (lines_of lines)
    → IsBehind (ahead number (lines_of lines)) (ahead now (lines_of left)) → used ≡ length lines - length left
    → IsTaken bytes used number now (lines_of lines) (lines_of left)
taken bytes lines rest left number now used cut ended behind is =
    let apart = ended_apart behind.front (lines_of left) (subst AreEnded behind.lines ended) in
    let front = bytes_of behind.front in
    let parts = behind_parts lines left number now behind in
    let long : length lines ≡ length front + length left = ap length parts ∙ length-append front left in
    let took : used ≡ length front = omega (arith, is, long) in
    let dropped : drop used bytes ≡ left ++ rest =
    ap (drop used) (cut ∙ ap (λ (bs : List ℕ). bs ++ rest) parts ∙ append_assoc front left rest)
    ∙ ap (λ (k : ℕ). drop k (front ++ (left ++ rest))) took ∙ drop-append_seam front (left ++ rest) in
    record {
      within = omega (arith, took, long, ap length cut, length-append lines rest);
      counted = omega (arith, took, behind.number, lines_count behind.front apart.0);
      following = λ more. lines_of (rest ++ more);
      before = λ more. lines_cut bytes lines rest more cut ended;
      after = λ more. lines_cut (drop used bytes) left rest more dropped apart.1;
    }
