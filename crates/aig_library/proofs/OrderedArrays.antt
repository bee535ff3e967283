-- Arrays that are read in order can be stepped.
use Rattle.std.proofs.Common.{◌≡◌, ◌++◌, ◌∙◌, ℕ, List, ap, arith, length, length-append, refl, rules, subst, sym, take}
use Rattle.std.proofs.Common.{true}
use Rattle.std.proofs.Math.Seq.{take-append_seam}
use Rattle.std.proofs.lemmas.Bool.{and_parts}
use Rattle.std.proofs.lemmas.List.{append_assoc}
use Rattle.aig_circuit.specs.Wellformed.{IsWellFormed}
use Rattle.aig_circuit.specs.declared.circuit.Circuit.{Circuit}
use Rattle.aig_checked.specs.BinaryOrder.{IsInBinaryOrder, IsNumberedInOrder}
use Rattle.aig_checked.proofs.Numbered.{is_numbered}
use Rattle.aig_image.specs.Image.{IsBinaryImage}
use Rattle.aig_image.proofs.Imaging.Ordered.{image_is_ordered}
use Rattle.aig_arrays.proofs.Grammar.Tells.{fits}
use Rattle.aig_arrays.proofs.Written.{sections_counted}
use Rattle.aig_arrays.specs.Ordered.{IsNumberedImage}
use Rattle.aig_arrays.specs.Decoded.{are_in_range, counts_fit}
use Rattle.aig_arrays.specs.Words.{circuit_bytes, circuit_words, counts_of, section_length, section_words, symbol_words}
use Rattle.aig_array_steps.specs.Step.{HasSections, TellsNumbered}
use Rattle.aig_commands.proofs.TripsExist.{well_formed_file}
use Rattle.aig_commands.specs.Conversion.{stripped}
use Rattle.aig_library.specs.ArrayLaws.{OrderedArraysCanBeStepped}
use Rattle.aig_library.specs.Arrays.{Arrays}

module _ (c : Circuit) (good : IsWellFormed c) (ordered : IsInBinaryOrder c) (numbers : List ℕ) where
  in_range : are_in_range (counts_of c) ≡ true
  in_range =
      let fit : counts_fit (counts_of c) (circuit_words c) (circuit_bytes c) ≡ true = fits c good in
      search (rules, and_parts)

  has_sections : HasSections (counts_of c) (circuit_words c ++ numbers)
  has_sections = (
    in_range,
    omega (
      arith,
      sections_counted c,
      length-append (circuit_words c) numbers,
      length-append (section_words c) (symbol_words 0 c.symbols),
    ),
  )

  sections_first : take (section_length (counts_of c)) (circuit_words c ++ numbers) ≡ section_words c
  sections_first =
      ap (λ n. take n (circuit_words c ++ numbers)) (sym (sections_counted c))
      ∙ ap (take (length (section_words c))) (append_assoc (section_words c) (symbol_words 0 c.symbols) numbers)
      ∙ take-append_seam (section_words c) (symbol_words 0 c.symbols ++ numbers)

  well_formed : IsWellFormed (stripped c)
  well_formed = search rules

  numbered : IsNumberedInOrder (stripped c)
  numbered =
      let is = is_numbered c ordered in
      record { inputs = is.inputs; latches = is.latches; gates = is.gates; all = is.all }

  tells : TellsNumbered (counts_of c) (circuit_words c ++ numbers) (stripped c)
  tells = record {
    well_formed = well_formed;
    numbered = numbered;
    bare = (refl, refl);
    counts = refl;
    words_are = sections_first;
  }

pub ordered_arrays_can_be_stepped : OrderedArraysCanBeStepped
ordered_arrays_can_be_stepped max_var input made read =
    let is : IsNumberedImage read.found read.shown read.numbers = read.is_shown in
    let image : IsBinaryImage read.found read.shown = (is.order, is.least, is.is_image) in
    let good =
    image_is_ordered read.found read.shown (well_formed_file input max_var read.found read.read) image in (
      subst (λ (m : Arrays). HasSections m.counts m.words) (sym read.is_made)
          (has_sections read.shown good.0 good.1 read.numbers),
      (
        read.found,
        read.shown,
        read.read,
        image,
        subst (λ (m : Arrays). TellsNumbered m.counts m.words (stripped read.shown)) (sym read.is_made)
            (tells read.shown good.0 good.1 read.numbers),
      ),
    )
