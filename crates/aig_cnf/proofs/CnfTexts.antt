-- Texts of clauses that are the same are of the same clauses: each number ends where its digits do.
use Rattle.std.proofs.Common.{◌≡◌, ◌≢◌, ◌+◌, ◌/◌, ◌%◌, ◌<◌, ◌^◌, ◌++◌, ◌∙◌, ◌==◌, ℕ, List, [], ◌∷◌}
use Rattle.std.proofs.Common.{Bool, true, false, ap, ap₂, append_assoc, arith, codes, decimal, eqb-true, if◌then◌else◌}
use Rattle.std.proofs.Common.{drop, flat_map, length, refl, sym}
use Rattle.std.specs.List.{AllByRecursion}
use Rattle.std.proofs.lemmas.Fmt.{decimal_injective, decimal_nonempty}
use Rattle.aig_circuit.specs.Literal.{variable_of}
use Rattle.aig_rows.specs.Spelling.{is_digit}
use Rattle.aig_rows.proofs.Canonical.{AreDigits, decimal_is_number}
use Rattle.aig_cnf.specs.ClauseText.{clause_text, clauses_header, literal_text, literals_text, sign_text}
use Rattle.aig_cnf.specs.Laws.{AreSmall, CnfTextsAreRead}

-- digits, and the byte after them, which is none
record AreSplit (digits others : List ℕ) (stop stop_too : ℕ) (rest rest_too : List ℕ) : Type 0 where
  pub digits_are : digits ≡ others
  pub stops_are : stop ≡ stop_too
  pub rests_are : rest ≡ rest_too

first_is : {X : Type 0} (x y : X) (xs ys : List X) → x ∷ xs ≡ y ∷ ys → x ≡ y
first_is x y xs ys is = cc

rest_is : {X : Type 0} (x y : X) (xs ys : List X) → x ∷ xs ≡ y ∷ ys → xs ≡ ys
rest_is x y xs ys is = cc

split : (digits others : List ℕ) (stop stop_too : ℕ) (rest rest_too : List ℕ) → AreDigits digits → AreDigits others
    → is_digit stop ≡ false → is_digit stop_too ≡ false → digits ++ stop ∷ rest ≡ others ++ stop_too ∷ rest_too
    → AreSplit digits others stop stop_too rest rest_too
split [] [] stop stop_too rest rest_too are are_too ends ends_too is = record {
  digits_are = refl;
  stops_are = first_is stop stop_too rest rest_too is;
  rests_are = rest_is stop stop_too rest rest_too is;
}
split [] (e ∷ es) stop stop_too rest rest_too are are_too ends ends_too is =
    let same : stop ≡ e = first_is stop e rest (es ++ stop_too ∷ rest_too) is in
    let no : false ≡ true = sym ends ∙ ap is_digit same ∙ are_too.0 in
    cc
split (d ∷ ds) [] stop stop_too rest rest_too are are_too ends ends_too is =
    let same : d ≡ stop_too = first_is d stop_too (ds ++ stop ∷ rest) rest_too is in
    let no : true ≡ false = sym are.0 ∙ ap is_digit same ∙ ends_too in
    cc
split (d ∷ ds) (e ∷ es) stop stop_too rest rest_too are are_too ends ends_too is =
    let later = split ds es stop stop_too rest rest_too are.1 are_too.1 ends ends_too
    (rest_is d e (ds ++ stop ∷ rest) (es ++ stop_too ∷ rest_too) is) in
    record {
      digits_are = ap₂ (λ (x : ℕ) (xs : List ℕ). x ∷ xs)
          (first_is d e (ds ++ stop ∷ rest) (es ++ stop_too ∷ rest_too) is) later.digits_are;
      stops_are = later.stops_are;
      rests_are = later.rests_are;
    }

-- two numbers, with what is after them
record AreRead (m n stop stop_too : ℕ) (rest rest_too : List ℕ) : Type 0 where
  pub numbers_are : m ≡ n
  pub stops_are : stop ≡ stop_too
  pub rests_are : rest ≡ rest_too

numbers_read : (m n stop stop_too : ℕ) (rest rest_too : List ℕ) → m < 2 ^ 64 → n < 2 ^ 64 → is_digit stop ≡ false
    → is_digit stop_too ≡ false → decimal m ++ stop ∷ rest ≡ decimal n ++ stop_too ∷ rest_too
    → AreRead m n stop stop_too rest rest_too
numbers_read m n stop stop_too rest rest_too small small_too ends ends_too is =
    let apart = split (decimal m) (decimal n) stop stop_too rest rest_too (decimal_is_number m small).digits
    (decimal_is_number n small_too).digits ends ends_too is in
    record {
      numbers_are = decimal_injective m n small small_too apart.digits_are;
      stops_are = apart.stops_are;
      rests_are = apart.rests_are;
    }

-- no number begins with a minus
no_minus : (digits rest others : List ℕ) → AreDigits digits → 0 < length digits → digits ++ rest ≢ 45 ∷ others
no_minus [] rest others are some = absurd (omega (arith, some))
no_minus (d ∷ ds) rest others are some = λ is.
    let same : d ≡ 45 = first_is d 45 (ds ++ rest) others is in
    let no : true ≡ false = sym are.0 ∙ ap is_digit same in
    cc

record AreSame (l m : ℕ) (rest rest_too : List ℕ) : Type 0 where
  pub literals_are : l ≡ m
  pub rests_are : rest ≡ rest_too

-- by the signs and the numbers
same_literals : (l m : ℕ) → l % 2 ≡ m % 2 → l / 2 + 1 ≡ m / 2 + 1 → l ≡ m
same_literals l m signs numbers = omega (arith, signs, numbers)

odd : (l : ℕ) → (l % 2 == 0) ≡ false → l % 2 ≡ 1
odd l is = grind (arith, is)

literal_case : (even even_too : Bool) (l m : ℕ) (rest rest_too : List ℕ) → (l % 2 == 0) ≡ even
    → (m % 2 == 0) ≡ even_too → l < 2 ^ 64 → m < 2 ^ 64
    → (if even then [] else codes "-") ++ (decimal (l / 2 + 1) ++ 32 ∷ rest)
    ≡ (if even_too then [] else codes "-") ++ (decimal (m / 2 + 1) ++ 32 ∷ rest_too)
    → AreSame l m rest rest_too
literal_case true true l m rest rest_too sign sign_too small small_too is =
    let read = numbers_read (l / 2 + 1) (m / 2 + 1) 32 32 rest rest_too (omega (arith, small))
    (omega (arith, small_too)) refl refl is in
    record {
      literals_are = same_literals l m (eqb-true (l % 2) 0 sign ∙ sym (eqb-true (m % 2) 0 sign_too)) read.numbers_are;
      rests_are = read.rests_are;
    }
literal_case false false l m rest rest_too sign sign_too small small_too is =
    let read = numbers_read (l / 2 + 1) (m / 2 + 1) 32 32 rest rest_too (omega (arith, small))
    (omega (arith, small_too)) refl refl
    (rest_is 45 45 (decimal (l / 2 + 1) ++ 32 ∷ rest) (decimal (m / 2 + 1) ++ 32 ∷ rest_too) is) in
    record {
      literals_are = same_literals l m (odd l sign ∙ sym (odd m sign_too)) read.numbers_are;
      rests_are = read.rests_are;
    }
literal_case true false l m rest rest_too sign sign_too small small_too is =
    let fits : l / 2 + 1 < 2 ^ 64 = omega (arith, small) in
    absurd (no_minus (decimal (l / 2 + 1)) (32 ∷ rest) (decimal (m / 2 + 1) ++ 32 ∷ rest_too)
    (decimal_is_number (l / 2 + 1) fits).digits (decimal_nonempty (l / 2 + 1) fits) is)
literal_case false true l m rest rest_too sign sign_too small small_too is =
    let fits : m / 2 + 1 < 2 ^ 64 = omega (arith, small_too) in
    absurd (no_minus (decimal (m / 2 + 1)) (32 ∷ rest_too) (decimal (l / 2 + 1) ++ 32 ∷ rest)
    (decimal_is_number (m / 2 + 1) fits).digits (decimal_nonempty (m / 2 + 1) fits) (sym is))

-- a literal, in the order of the text
literal_parts : (l : ℕ) (rest : List ℕ)
    → literal_text l ++ rest ≡ sign_text l ++ (decimal (variable_of l + 1) ++ 32 ∷ rest)
literal_parts l rest =
    append_assoc (sign_text l) (decimal (variable_of l + 1) ++ codes " ") rest
    ∙ ap (λ (text : List ℕ). sign_text l ++ text) (append_assoc (decimal (variable_of l + 1)) (codes " ") rest)

literals_read : (l m : ℕ) (rest rest_too : List ℕ) → l < 2 ^ 64 → m < 2 ^ 64
    → literal_text l ++ rest ≡ literal_text m ++ rest_too → AreSame l m rest rest_too
literals_read l m rest rest_too small small_too is =
    literal_case (l % 2 == 0) (m % 2 == 0) l m rest rest_too refl refl small small_too
    (sym (literal_parts l rest) ∙ is ∙ literal_parts m rest_too)

-- the end of a clause is no literal: after its 0 comes a line feed
end_case : (even : Bool) (l : ℕ) (rest rest_too : List ℕ) → l < 2 ^ 64
    → (if even then [] else codes "-") ++ (decimal (l / 2 + 1) ++ 32 ∷ rest) ≢ codes "0\n" ++ rest_too
end_case false l rest rest_too small = λ is.
    let no : 45 ≡ 48 = first_is 45 48 (decimal (l / 2 + 1) ++ 32 ∷ rest) (10 ∷ rest_too) is in
    absurd (omega (arith, no))
end_case true l rest rest_too small = λ is.
    let read = split (decimal (l / 2 + 1)) (codes "0") 32 10 rest rest_too
    (decimal_is_number (l / 2 + 1) (omega (arith, small))).digits (refl, tt) refl refl is in
    let no : 32 ≡ 10 = read.stops_are in
    absurd (omega (arith, no))

no_literal : (l : ℕ) (rest rest_too : List ℕ) → l < 2 ^ 64 → literal_text l ++ rest ≢ codes "0\n" ++ rest_too
no_literal l rest rest_too small = λ is.
    end_case (l % 2 == 0) l rest rest_too small (sym (literal_parts l rest) ∙ is)

record AreAlike (xs ys rest rest_too : List ℕ) : Type 0 where
  pub literals_are : xs ≡ ys
  pub rests_are : rest ≡ rest_too

clause_read : (xs ys rest rest_too : List ℕ) → AllByRecursion (λ (l : ℕ). l < 2 ^ 64) xs
    → AllByRecursion (λ (l : ℕ). l < 2 ^ 64) ys
    → literals_text xs ++ (codes "0\n" ++ rest) ≡ literals_text ys ++ (codes "0\n" ++ rest_too)
    → AreAlike xs ys rest rest_too
clause_read [] [] rest rest_too small small_too is = record {
  literals_are = refl;
  rests_are = rest_is 10 10 rest rest_too (rest_is 48 48 (10 ∷ rest) (10 ∷ rest_too) is);
}
clause_read [] (y ∷ ys) rest rest_too small small_too is =
    absurd (no_literal y (literals_text ys ++ (codes "0\n" ++ rest_too)) rest small_too.0
    (sym (append_assoc (literal_text y) (literals_text ys) (codes "0\n" ++ rest_too)) ∙ sym is))
clause_read (x ∷ xs) [] rest rest_too small small_too is =
    absurd (no_literal x (literals_text xs ++ (codes "0\n" ++ rest)) rest_too small.0
    (sym (append_assoc (literal_text x) (literals_text xs) (codes "0\n" ++ rest)) ∙ is))
clause_read (x ∷ xs) (y ∷ ys) rest rest_too small small_too is =
    let behind = literals_text xs ++ (codes "0\n" ++ rest) in
    let behind_too = literals_text ys ++ (codes "0\n" ++ rest_too) in
    let first = literals_read x y behind behind_too small.0 small_too.0
    (sym (append_assoc (literal_text x) (literals_text xs) (codes "0\n" ++ rest)) ∙ is
    ∙ append_assoc (literal_text y) (literals_text ys) (codes "0\n" ++ rest_too)) in
    let later = clause_read xs ys rest rest_too small.1 small_too.1 first.rests_are in
    record {
      literals_are = ap₂ (λ (z : ℕ) (zs : List ℕ). z ∷ zs) first.literals_are later.literals_are;
      rests_are = later.rests_are;
    }

-- a clause, and those after it
clause_parts : (clause : List ℕ) (clauses : List (List ℕ))
    → flat_map clause_text (clause ∷ clauses) ≡ literals_text clause ++ (codes "0\n" ++ flat_map clause_text clauses)
clause_parts clause clauses = append_assoc (literals_text clause) (codes "0\n") (flat_map clause_text clauses)

no_end : (text rest : List ℕ) (b : ℕ) → text ++ b ∷ rest ≢ []
no_end [] rest b = λ is. cc
no_end (d ∷ ds) rest b = λ is. cc

some_text : (clause : List ℕ) (clauses : List (List ℕ)) → flat_map clause_text (clause ∷ clauses) ≢ []
some_text clause clauses = λ is.
    no_end (literals_text clause) (10 ∷ flat_map clause_text clauses) 48 (sym (clause_parts clause clauses) ∙ is)

clauses_read : (clauses others : List (List ℕ)) → AreSmall clauses → AreSmall others
    → flat_map clause_text clauses ≡ flat_map clause_text others → clauses ≡ others
clauses_read [] [] small small_too is = refl
clauses_read [] (d ∷ ds) small small_too is = absurd (some_text d ds (sym is))
clauses_read (c ∷ cs) [] small small_too is = absurd (some_text c cs is)
clauses_read (c ∷ cs) (d ∷ ds) small small_too is =
    let first = clause_read c d (flat_map clause_text cs) (flat_map clause_text ds) small.0 small_too.0
    (sym (clause_parts c cs) ∙ is ∙ clause_parts d ds) in
    ap₂ (λ (x : List ℕ) (xs : List (List ℕ)). x ∷ xs) first.literals_are
    (clauses_read cs ds small.1 small_too.1 first.rests_are)

-- the header, in the order of the text
header_parts : (variables clauses : ℕ) (rest : List ℕ) → clauses_header variables clauses ++ rest
    ≡ codes "p cnf " ++ (decimal variables ++ 32 ∷ (decimal clauses ++ 10 ∷ rest))
header_parts variables clauses rest =
    ap (λ (text : List ℕ). codes "p cnf " ++ text)
    (append_assoc (decimal variables) (codes " " ++ (decimal clauses ++ codes "\n")) rest
    ∙ ap (λ (text : List ℕ). decimal variables ++ 32 ∷ text) (append_assoc (decimal clauses) (codes "\n") rest))

pub cnf_texts_are_read : CnfTextsAreRead
cnf_texts_are_read variables variables_too clauses others fits fits_too few few_too small small_too is =
    let text = flat_map clause_text clauses in
    let text_too = flat_map clause_text others in
    let same = sym (header_parts variables (length clauses) text) ∙ is
    ∙ header_parts variables_too (length others) text_too in
    let first = numbers_read variables variables_too 32 32 (decimal (length clauses) ++ 10 ∷ text)
    (decimal (length others) ++ 10 ∷ text_too) fits fits_too refl refl (ap (λ (bytes : List ℕ). drop 6 bytes) same) in
    let second = numbers_read (length clauses) (length others) 10 10 text text_too few few_too refl refl
    first.rests_are in
    (first.numbers_are, clauses_read clauses others small small_too second.rests_are)
