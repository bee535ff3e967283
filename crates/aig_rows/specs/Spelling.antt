-- How numbers are spelled in a line: decimal digits, with spaces between numbers (AIGER report); leading zeros, more
-- than one space, and how a line may end are this project's profile.
use Rattle.std.specs.Prelude.{◌≡◌, ◌+◌, ◌-◌, ◌*◌, ◌<◌, ◌≤◌, ◌==◌, ◌&&◌, ◌⊎◌, ℕ, List, [], ◌∷◌, ◌++◌, length, fold}
use Rattle.std.specs.Prelude.{replicate, Bool, true, nat_le}
use Rattle.std.specs.List.{AllByRecursion}
use Rattle.aig_lines.specs.Lines.{Line}

abbrev pub is_digit : ℕ → Bool
is_digit b = nat_le 48 b && nat_le b 57

abbrev pub is_space : ℕ → Bool
is_space b = b == 32

-- the number that decimal digits spell
abbrev pub value_of : List ℕ → ℕ
value_of digits = fold (λ n b. 10 * n + (b - 48)) 0 digits

-- one or more decimal digits spell the number
pub record IsNumber (text : List ℕ) (n : ℕ) : Type 0 where
  pub some : 0 < length text
  pub digits : AllByRecursion (λ b. is_digit b ≡ true) text
  pub value : value_of text ≡ n

abbrev pub AreSpaces : List ℕ → Type 0
AreSpaces text = AllByRecursion (λ b. is_space b ≡ true) text

-- one or more spaces
abbrev pub IsGap : List ℕ → Type 0
IsGap text = (0 < length text) × AreSpaces text

-- numbers, each after one or more spaces
abbrev pub AreMoreNumbers : List ℕ → List ℕ → Type 0
AreMoreNumbers text [] = text ≡ []
AreMoreNumbers text (n ∷ ns) =
    (gap : List ℕ) × (digits : List ℕ) × (rest : List ℕ)
    × (text ≡ gap ++ (digits ++ rest)) × IsGap gap × IsNumber digits n × AreMoreNumbers rest ns

-- how a line may end: in spaces, and then in at most one carriage return where a line feed follows directly
abbrev pub IsLineEnd : Bool → List ℕ → Type 0
IsLineEnd ended text =
    (spaces : List ℕ) × AreSpaces spaces × ((text ≡ spaces) ⊎ ((ended ≡ true) × (text ≡ spaces ++ 13 ∷ [])))

abbrev pub zeros : ℕ → List ℕ
zeros count = replicate count 0

-- Numbers stand there, at least so many, each after one or more spaces, and then the line ends; those left out are 0.
pub record EndInNumbers (least : ℕ) (ended : Bool) (text : List ℕ) (ns : List ℕ) : Type 0 where
  pub written : List ℕ
  pub left_out : ℕ
  pub numbers : List ℕ
  pub ending : List ℕ
  pub are : ns ≡ written ++ zeros left_out
  pub enough : least ≤ length written
  pub text_is : text ≡ numbers ++ ending
  pub spelled : AreMoreNumbers numbers written
  pub ends : IsLineEnd ended ending

-- a line that holds a number and these others, and nothing else
pub record IsNumberLine (least : ℕ) (l : Line) (ns : List ℕ) : Type 0 where
  pub first : ℕ
  pub more : List ℕ
  pub digits : List ℕ
  pub rest : List ℕ
  pub are : ns ≡ first ∷ more
  pub begins : l.text ≡ digits ++ rest
  pub spelled : IsNumber digits first
  pub others : EndInNumbers least l.ended rest more
