-- Numbers that are read one by one, and after a letter.
use Rattle.std.proofs.Common.{◌≡◌, ◌≢◌, ◌∙◌, ◌++◌, ◌==◌, ◌∷◌, ℕ, Bool, Option, Some, None, Result, Ok, Err, List, []}
use Rattle.std.proofs.Common.{MatchOption, ap, append_assoc, cond, false, option_and_then, refl, sym, true, Bor}
use Rattle.std.proofs.lemmas.Bool.{eq-eqb, eqb-true}
use Rattle.std.specs.List.{filter_map}
use Rattle.std.specs.Result.{result_ok}
use Rattle.std.specs.declared.num.ParseIntError.{ParseIntError}
use Rattle.clap.specs.Matches.{StepsValues}
use Rattle.clap.specs.Words.{Text}
use Rattle.aig_command.specs.Asked.{number_after, number_in}
use Rattle.aig_command.proofs.Within.{gives, read_number}

-- what is read of a text
pub number_of : (text : Text) (r : Result ℕ ParseIntError) → gives text r → result_ok r ≡ number_in text
number_of text (Ok n) h = read_number text (Some n) h
number_of text (Err e) h = read_number text None (e, h)

-- of those that are left one more is read as a number
pub one_more : (left after : List Text) (so_far all : List ℕ) (n : ℕ) → StepsValues gives left after (Some (Ok n))
    → so_far ++ filter_map number_in left ≡ all → (so_far ++ n ∷ []) ++ filter_map number_in after ≡ all
one_more [] after so_far all n h e = absurd h
one_more (text ∷ left) after so_far all n h e =
    let number : Some n ≡ number_in text = number_of text (Ok n) h.0 in
    let later : filter_map number_in (text ∷ left) ≡ n ∷ filter_map number_in after = rw (← number, h.1) refl in
    append_assoc so_far (n ∷ []) (filter_map number_in after) ∙ (ap (λ xs. so_far ++ xs) (sym later) ∙ e)

-- or as none
pub none_more : (left after : List Text) (so_far all : List ℕ) (error : ParseIntError)
    → StepsValues gives left after (Some (Err error)) → so_far ++ filter_map number_in left ≡ all
    → so_far ++ filter_map number_in after ≡ all
none_more [] after so_far all error h e = absurd h
none_more (text ∷ left) after so_far all error h e =
    let number : None ≡ number_in text = number_of text (Err error) h.0 in
    let later : filter_map number_in (text ∷ left) ≡ filter_map number_in after = rw (← number, h.1) refl in
    ap (λ xs. so_far ++ xs) (sym later) ∙ e

-- the number after a letter
pub after_letter : (letter : ℕ) (text : Text) (rest : Option (Bor Text))
    → MatchOption rest ((digits : List ℕ) → text ≢ letter ∷ digits) (λ digits. text ≡ letter ∷ digits.now)
    → option_and_then (λ digits. number_in digits.now) rest ≡ number_after letter text
after_letter letter text (Some digits) h = rw (h, eq-eqb letter letter refl) refl
after_letter letter [] None h = refl
after_letter letter (c ∷ digits) None h = go (c == letter) refl
  where
    go : (b : Bool) → (c == letter) ≡ b → None ≡ cond b (number_in digits) None
    go true e = absurd (h digits (ap (λ x. x ∷ digits) (eqb-true c letter e)))
    go false e = refl
