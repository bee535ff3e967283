-- The words of a circuit, section by section.
use Rattle.std.proofs.Common.{◌≡◌, ◌++◌, ◌∷◌, ◌∙◌, ℕ, List, [], length, map, take, drop, refl, ap}
use Rattle.std.proofs.Common.{ap₂, arith, sym, length-append}
use Rattle.std.specs.List.{concat}
use Rattle.std.proofs.Math.Seq.{take-append_seam}
use Rattle.std.proofs.lemmas.List.{append-nil, append_assoc, take-append-drop}
use Rattle.aig_arrays.specs.Words.{section_length, section_words}
use Rattle.aig_arrays.specs.declared.counts.Counts.{Counts}
use Rattle.aig_circuit.specs.declared.circuit.Circuit.{Circuit}
use Rattle.aig_rows.specs.Rows.{gate_row, input_row, latch_row}
use Rattle.aig_array_steps.specs.Parts.Words.{AreAsLong, SectionWords, all_words}

abbrev pub words_by_section : Circuit → SectionWords
words_by_section c = record {
  inputs = concat (map input_row c.inputs);
  latches = concat (map latch_row c.latches);
  shown = c.outputs ++ c.bad ++ c.constraints;
  sizes = c.justice.sizes;
  unshown = c.justice.literals ++ c.fairness;
  gates = concat (map gate_row c.gates);
}

singles : (xs : List ℕ) → concat (map (λ x. x ∷ []) xs) ≡ xs
singles [] = refl
singles (x ∷ xs) = ap (λ ys. x ∷ ys) (singles xs)

pub section_words_are : (c : Circuit) → section_words c ≡ all_words (words_by_section c)
section_words_are c = simp (singles, append-nil, append_assoc)

-- lists that are as long are equal where they begin the same list, and so are the rests
module _ {X : Type 0} where
  pub parted : (xs ys us vs : List X) → length xs ≡ length ys → xs ++ us ≡ ys ++ vs → (xs ≡ ys) × (us ≡ vs)
  parted [] [] us vs long same = (refl, same)
  parted [] (y ∷ ys) us vs long same = absurd (omega arith)
  parted (x ∷ xs) [] us vs long same = absurd (omega arith)
  parted (x ∷ xs) (y ∷ ys) us vs long same =
      let head : x ≡ y = cc in
      let tail : xs ++ us ≡ ys ++ vs = cc in
      let rest = parted xs ys us vs (omega arith) tail in
      (ap₂ (λ z zs. z ∷ zs) head rest.0, rest.1)

-- the words from a section on
abbrev from_unshown : SectionWords → List ℕ
from_unshown s = s.unshown ++ s.gates

abbrev from_sizes : SectionWords → List ℕ
from_sizes s = s.sizes ++ from_unshown s

abbrev from_shown : SectionWords → List ℕ
from_shown s = s.shown ++ from_sizes s

abbrev from_latches : SectionWords → List ℕ
from_latches s = s.latches ++ from_shown s

-- two cuts of the same words are the same
pub record AreTheSame (s t : SectionWords) : Type 0 where
  pub inputs : s.inputs ≡ t.inputs
  pub latches : s.latches ≡ t.latches
  pub shown : s.shown ≡ t.shown
  pub sizes : s.sizes ≡ t.sizes
  pub unshown : s.unshown ≡ t.unshown
  pub gates : s.gates ≡ t.gates

pub one_cut : (n : Counts) (s t : SectionWords) → AreAsLong n s → AreAsLong n t → all_words s ≡ all_words t
    → AreTheSame s t
one_cut n s t ls lt same =
    let one = parted s.inputs t.inputs (from_latches s) (from_latches t) (ls.inputs ∙ sym lt.inputs) same in
    let two = parted s.latches t.latches (from_shown s) (from_shown t) (ls.latches ∙ sym lt.latches) one.1 in
    let three = parted s.shown t.shown (from_sizes s) (from_sizes t) (ls.shown ∙ sym lt.shown) two.1 in
    let four = parted s.sizes t.sizes (from_unshown s) (from_unshown t) (ls.sizes ∙ sym lt.sizes) three.1 in
    let five = parted s.unshown t.unshown s.gates t.gates (ls.unshown ∙ sym lt.unshown) four.1 in
    record {
      inputs = one.0;
      latches = two.0;
      shown = three.0;
      sizes = four.0;
      unshown = five.0;
      gates = five.1;
    }

all_words_length : (n : Counts) (s : SectionWords) → AreAsLong n s → length (all_words s) ≡ section_length n
all_words_length n s l = simp length-append (omega (arith, l.inputs, l.latches, l.shown, l.sizes, l.unshown, l.gates))

-- what is cut off at a place, and the rest
pub rejoined : (k : ℕ) (words front rest : List ℕ) → front ≡ take k words → rest ≡ drop k words → words ≡ front ++ rest
rejoined k words front rest f r = sym (ap₂ (λ (xs ys : List ℕ). xs ++ ys) f r ∙ take-append-drop k words)

-- words that are cut into sections of these lengths, and a rest, begin with the sections
pub begin_with : (n : Counts) (s : SectionWords) (words rest : List ℕ) → AreAsLong n s
    → words ≡ s.inputs ++ (s.latches ++ (s.shown ++ (s.sizes ++ (s.unshown ++ (s.gates ++ rest)))))
    → take (section_length n) words ≡ all_words s
begin_with n s words rest l is =
    let joined : words ≡ all_words s ++ rest = is ∙ simp append_assoc in
    ap₂ (λ (k : ℕ) (ws : List ℕ). take k ws) (sym (all_words_length n s l)) joined
    ∙ take-append_seam (all_words s) rest
