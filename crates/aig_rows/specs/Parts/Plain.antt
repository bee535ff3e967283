-- Rows in plain spelling: digits, one space between numbers, and a line feed after the last.
use Rattle.std.specs.Prelude.{◌≡◌, ◌≤◌, ◌++◌, ℕ, List, ◌∷◌, length}
use Rattle.aig_lines.specs.Lines.{HasNoLineFeed}
use Rattle.aig_rows.specs.Spelling.{IsNumber, AreMoreNumbers, zeros}

-- the bytes begin with digits that spell the number
pub record BeginsWithNumber (bytes : List ℕ) (n : ℕ) (rest : List ℕ) : Type 0 where
  pub digits : List ℕ
  pub are : bytes ≡ digits ++ rest
  pub spelled : IsNumber digits n

-- the bytes begin with numbers, each after a space
pub record BeginsWithMore (bytes : List ℕ) (ns : List ℕ) (rest : List ℕ) : Type 0 where
  pub text : List ℕ
  pub are : bytes ≡ text ++ rest
  pub spelled : AreMoreNumbers text ns
  pub one_line : HasNoLineFeed text

-- the bytes begin with numbers, each after a space, and a line feed; there are so many of them at least, and those that
-- are left out are 0
pub record EndsPlainly (least : ℕ) (bytes : List ℕ) (ns : List ℕ) (rest : List ℕ) : Type 0 where
  pub written : List ℕ
  pub left_out : ℕ
  pub are : ns ≡ written ++ zeros left_out
  pub enough : least ≤ length written
  pub begins : BeginsWithMore bytes written (10 ∷ rest)
