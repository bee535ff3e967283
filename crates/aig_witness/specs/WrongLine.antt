-- Which line of a witness file is the first wrong one (this project's profile): a line is right or wrong by its text
-- and the texts of the lines before it.
use Rattle.std.specs.Prelude.{◌≡◌, ◌⊎◌, ◌<◌, ◌++◌, ℕ, suc, List, [], ◌∷◌, Bool, true, codes, length, map}
use Rattle.std.specs.List.{Contains}
use Rattle.aig_circuit.specs.declared.circuit.Circuit.{Circuit}
use Rattle.aig_circuit.specs.declared.value.Val.{Val}
use Rattle.aig_meaning.specs.Trace.{IsFirstState}
use Rattle.aig_rows.specs.Spelling.{value_of as number_of}
use Rattle.aig_step.specs.Stimulus.{judged_lines, text_of}
use Rattle.aig_step.specs.StimulusText.{IsGoodText}
use Rattle.aig_step.specs.TraceText.{values_text}
use Rattle.aig_witness.specs.Witness.{is_canonical}

-- the text names this bad state, where there are so many
pub record NamesBadState (bad : ℕ) (text : List ℕ) (property : ℕ) : Type 0 where
  pub digits : List ℕ
  pub text_is : text ≡ codes "b" ++ digits
  pub canonical : is_canonical digits ≡ true
  pub number : number_of digits ≡ property
  pub below : property < bad

-- it has a value for each latch, at which that may start
abbrev pub SaysFirstState : Circuit → List ℕ → Type 0
SaysFirstState c text = (first : List Val) × IsFirstState c first × (text ≡ values_text first)

-- one of the lines of these texts, after the first three, is `.`
abbrev pub HaveEnd : List (List ℕ) → Type 0
HaveEnd [] = ⊥
HaveEnd (one ∷ []) = ⊥
HaveEnd (one ∷ two ∷ []) = ⊥
HaveEnd (one ∷ two ∷ three ∷ more) = Contains more (codes ".")

-- A line of this text is right after lines of those: the first is `1`, the second names a bad state, the third says the
-- first state, and each one after them says a step or is `.`, until there is a line `.`.
abbrev pub IsRightBehind : Circuit → (before : List (List ℕ)) → (text : List ℕ) → Type 0
IsRightBehind c [] text = text ≡ codes "1"
IsRightBehind c (one ∷ []) text = (property : ℕ) × NamesBadState (length c.bad) text property
IsRightBehind c (one ∷ two ∷ []) text = SaysFirstState c text
IsRightBehind c (one ∷ two ∷ three ∷ more) text = ¬ Contains more (codes ".") × IsGoodText c text

-- The line of this number is the first that is wrong or missing, of lines of these texts after lines of those: the next
-- one is wrong; or it is right, and the first is after it; or none is left, though the bytes have ended and no line was
-- `.`.
abbrev pub IsFirstWrong : Circuit → Bool → (before texts : List (List ℕ)) → ℕ → Type 0
IsFirstWrong c ended before [] number = (number ≡ suc (length before)) × (ended ≡ true) × ¬ HaveEnd before
IsFirstWrong c ended before (text ∷ texts) number =
    (¬ IsRightBehind c before text × (number ≡ suc (length before)))
    ⊎ (IsRightBehind c before text × IsFirstWrong c ended (before ++ text ∷ []) texts number)

-- it is so of the bytes that came, which have ended or not
abbrev pub IsFirstWrongLine : Circuit → List ℕ → Bool → ℕ → Type 0
IsFirstWrongLine c bytes ended number = IsFirstWrong c ended [] (map text_of (judged_lines bytes ended)) number
