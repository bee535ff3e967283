-- What is put into arrays.
use Rattle.std.proofs.Common.{◌≡◌, ◌+◌, ◌++◌, ◌∙◌, ℕ, List, ap, ap₂, arith, drop, length, length-append, subst, sym}
use Rattle.std.proofs.Math.Seq.{drop-append_seam, take-append_seam}
use Rattle.std.proofs.lemmas.List.{append-nil, append_assoc, drop-drop, drop_all, length-map}
use borrow.Rule.Slice.PartMut.{put_mid}
use Rattle.aig_circuit.specs.Wellformed.{defined_variables}
use Rattle.aig_circuit.specs.declared.circuit.Circuit.{Circuit}
use Rattle.aig_arrays.proofs.Written.{words_counted}
use Rattle.aig_arrays.specs.Ordered.{IsNumberedImage, IsNumberedImageIn}
use Rattle.aig_arrays.specs.Words.{circuit_words, counts_of, words_length}
use Rattle.aig_arrays.specs.declared.counts.Counts.{Counts}
use Rattle.aig_library.specs.Arrays.{in_front}

-- an array for the numbers alone has these alone
pub numbers_alone : (c image : Circuit) (old new : List ℕ) → length old ≡ length (defined_variables c)
    → IsNumberedImageIn c image old new → IsNumberedImage c image new
numbers_alone c image old new long is =
    let fits : length is.numbers ≡ length old =
    ap length is.is_image.are_numbers ∙ length-map (defined_variables c) _ ∙ sym long in
    let alone : new ≡ is.numbers =
    is.at_front ∙ ap (λ n. is.numbers ++ drop n old) fits
    ∙ ap (λ xs. is.numbers ++ xs) (drop_all (length old) old (omega arith)) ∙ append-nil is.numbers in
    subst (IsNumberedImage c image) (sym alone) is.is_image

-- how many words there are, with the numbers
module _ (shown : Circuit) (n : Counts) (is : n ≡ counts_of shown) where
  pub words_end : words_length n ≡ length (circuit_words shown)
  words_end = ap words_length is ∙ sym (words_counted shown)

  pub all_words : (numbers : List ℕ) → length (circuit_words shown ++ numbers) ≡ words_length n + length numbers
  all_words numbers = length-append (circuit_words shown) numbers ∙ ap (λ k. k + length numbers) (sym words_end)

-- numbers that are put after a front
behind : (front numbers before : List ℕ)
    → put_mid (length front) (length numbers) (front ++ drop (length front) before) numbers
    ≡ in_front (front ++ numbers) before
behind front numbers before =
    let rest = drop (length front) before in
    ap₂ (λ xs ys. xs ++ (numbers ++ drop (length numbers) ys)) (take-append_seam front rest)
    (drop-append_seam front rest)
    ∙ ap (λ ys. front ++ (numbers ++ ys)) (drop-drop (length numbers) (length front) before)
    ∙ sym (append_assoc front numbers (drop (length front + length numbers) before))
    ∙ ap (λ k. (front ++ numbers) ++ drop k before) (sym (length-append front numbers))

pub put_behind : (front numbers before words put : List ℕ) (at count : ℕ) → at ≡ length front
    → count ≡ length numbers → words ≡ front ++ drop (length front) before → put ≡ numbers
    → put_mid at count words put ≡ in_front (front ++ numbers) before
put_behind front numbers before words put at count is_at is_count are_words is_put =
    rw (is_at, is_count, are_words, is_put) (behind front numbers before)
