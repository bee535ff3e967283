-- Arrays that are read and written again, and the other way round.
use Rattle.std.proofs.Common.{◌≡◌, ◌∙◌, ◌++◌, ◌<◌, ◌^◌, ℕ, List, [], Bool, true, false, Result, Ok, ap, ap₂, inl, refl}
use Rattle.std.proofs.Common.{if◌then◌else◌, subst, sym}
use Rattle.std.proofs.lemmas.List.{append-nil}
use Rattle.aig_circuit.specs.Wellformed.{IsWellFormed}
use Rattle.aig_circuit.specs.declared.circuit.Circuit.{Circuit}
use Rattle.aig_arrays.specs.Laws.{IsDecodedFrom}
use Rattle.aig_arrays.specs.Ordered.{IsNumberedImage}
use Rattle.aig_arrays.specs.Decoded.{decoded}
use Rattle.aig_arrays.specs.Words.{HasWords, circuit_bytes, circuit_words, counts_of}
use Rattle.aig_fault.specs.declared.stopped.Stopped.{Stopped}
use Rattle.aig_arrays.proofs.Grammar.Tells.{is_decoded}
use Rattle.aig_arrays.proofs.Grammar.Decoded.{decoded_has_words}
use Rattle.aig_binary.proofs.Files.{one_circuit}
use Rattle.aig_binary.specs.BinaryText.{binary_text}
use Rattle.aig_command.specs.Aiger.{largest_index}
use Rattle.aig_command.specs.declared.request.BadStates.TheVariants.{Kept}
use Rattle.aig_command.specs.declared.request.ToAig.{ToAig}
use Rattle.aig_commands.proofs.Trips.{ascii_file, binary_file}
use Rattle.aig_commands.proofs.TripsExist.{well_formed_file}
use Rattle.aig_commands.specs.Conversion.{IsConversionText, IsTextAs}
use Rattle.aig_commands.specs.File.{IsFileOf}
use Rattle.aig_image.proofs.Imaging.Ordered.{image_is_one, image_is_ordered}
use Rattle.aig_image.specs.Image.{IsBinaryImage}
use Rattle.aig_library.specs.ArrayLaws.{OrderedArraysAreConverted, ReadAndWrittenIsConverted}
use Rattle.aig_library.specs.ArrayLaws.{WrittenArraysAreReadAgain}
use Rattle.aig_library.specs.Arrays.{Arrays, IsReadAs, IsShownAs, IsTextOf, arrays, arrays_of}
use Rattle.aig_library.specs.Asked.{conversion, has}
use Rattle.aig_library.specs.Numbers as numbers

-- a conversion to this form that changes nothing
record IsPlain (request : ToAig) (is_ascii : Bool) : Type 0 where
  pub form : request.ascii ≡ is_ascii
  pub strip : request.strip ≡ false
  pub keep_map : request.keep_map ≡ false
  pub undo_map : request.undo_map ≡ false
  pub bad_states : request.bad_states ≡ Kept
  pub simplify : request.simplify ≡ false

module _ (request : ToAig) (is_ascii : Bool) (plain : IsPlain request is_ascii) (input text : List ℕ) (found : Circuit)
    (file : IsFileOf input request.max_var found) where
  converts : IsTextAs is_ascii false found text → IsConversionText request input text
  converts is = record {
    found = found;
    source = found;
    written = found;
    read = file;
    is_source = rw plain.undo_map refl;
    can_turn = rw plain.bad_states tt;
    is_written = rw (plain.simplify, plain.strip, plain.bad_states) refl;
    written_as = rw (plain.form, plain.keep_map) is;
  }

  converted : IsConversionText request input text → IsTextAs is_ascii false found text
  converted h =
      let same = one_circuit input request.max_var h.found found h.read file in
      let source : h.source ≡ found = (rw plain.undo_map at h.is_source) ∙ same in
      let written : h.written ≡ h.source = rw (plain.simplify, plain.strip, plain.bad_states) at h.is_written in
      subst (λ c. IsTextAs is_ascii false c text) (written ∙ source) (rw (plain.form, plain.keep_map) at h.written_as)

-- what is decoded from the arrays of a circuit without numbers
decoded_again : (c : Circuit) → IsWellFormed c
    → decoded (counts_of c) (circuit_words c ++ []) (circuit_bytes c) ≡ Ok c
decoded_again c good = rw (append-nil (circuit_words c)) (is_decoded c good)

-- without the option the circuit itself is shown, and no numbers
shown_itself : (found shown : Circuit) (ns : List ℕ) → IsShownAs (has 0 numbers.ordered) found shown ns
    → (shown ≡ found) × (ns ≡ [])
shown_itself found shown ns is = is

arrays_read : (max_var : ℕ) (input : List ℕ) (made : Arrays) (read : IsReadAs 0 max_var input made)
    → made ≡ arrays_of read.found []
arrays_read max_var input made read =
    let is = shown_itself read.found read.shown read.numbers read.is_shown in
    read.is_made ∙ ap₂ arrays_of is.0 is.1

read_tells : (max_var : ℕ) (input : List ℕ) (made : Arrays) (read : IsReadAs 0 max_var input made)
    → decoded made.counts made.words made.bytes ≡ Ok read.found
read_tells max_var input made read =
    let again = decoded_again read.found (well_formed_file input max_var read.found read.read) in
    subst (λ (m : Arrays). decoded m.counts m.words m.bytes ≡ Ok read.found)
    (sym (arrays_read max_var input made read)) again

plain_conversion : (is_ascii : Bool) (max_var : ℕ)
    → IsPlain (conversion (if is_ascii then numbers.ascii else 0) max_var) is_ascii
plain_conversion true max_var =
    record { form = refl; strip = refl; keep_map = refl; undo_map = refl; bad_states = refl; simplify = refl }
plain_conversion false max_var =
    record { form = refl; strip = refl; keep_map = refl; undo_map = refl; bad_states = refl; simplify = refl }

one_decoded : (first : Result Circuit Stopped) (c d : Circuit) → first ≡ Ok c → first ≡ Ok d → c ≡ d
one_decoded first c d is is_too = cc

pub read_and_written : ReadAndWrittenIsConverted
read_and_written is_ascii max_var input text made read =
    let request = conversion (if is_ascii then numbers.ascii else 0) max_var in
    let plain = plain_conversion is_ascii max_var in
    let tells = read_tells max_var input made read in (
      λ t. converts request is_ascii plain input text read.found read.read
          (subst (λ c. IsTextAs is_ascii false c text) (one_decoded _ t.found read.found t.is_decoded tells) t.is_text),
      λ h. record {
        found = read.found;
        is_decoded = tells;
        is_text = converted request is_ascii plain input text read.found read.read h;
      },
    )

module _ (given : Arrays) (text : List ℕ) (is : IsTextOf true (decoded given.counts given.words given.bytes) text) where
  tells : IsDecodedFrom given.counts given.words given.bytes is.found
  tells = decoded_has_words given.counts given.words given.bytes is.found is.is_decoded

  is_file : IsFileOf text largest_index is.found
  is_file = inl (ascii_file is.found text tells.well_formed is.is_text)

  same : given ≡ arrays_of is.found []
  same =
      let words : given.words ≡ circuit_words is.found ++ [] =
      tells.words_are ∙ sym (append-nil (circuit_words is.found)) in
      ap (λ w. arrays w given.bytes given.counts) words
      ∙ ap₂ (λ b n. arrays (circuit_words is.found ++ []) b n) tells.bytes_are tells.counts

pub read_again : WrittenArraysAreReadAgain
read_again given made text symbols names is =
    let c = is.found in
    let counts = (tells given text is).counts in (
      λ read. arrays_read largest_index text made read
          ∙ ap (λ d. arrays_of d []) (one_circuit text largest_index read.found c read.read (is_file given text is))
          ∙ sym (same given text is),
      λ equal. record {
        found = c;
        shown = c;
        numbers = [];
        read = is_file given text is;
        has_words = (
          subst (λ n. n.symbols < 2 ^ 32) counts symbols,
          subst (λ n. n.name_bytes < 2 ^ 32) counts names,
        );
        is_shown = (refl, refl);
        is_made = equal ∙ same given text is;
      },
    )

-- an image has the symbols of its circuit
image_has_words : (c image : Circuit) (new : List ℕ) → IsNumberedImage c image new → HasWords c → HasWords image
image_has_words c image new is has = subst (λ d. HasWords d) (sym is.is_image) has

pub ordered_are_converted : OrderedArraysAreConverted
ordered_are_converted max_var input text made read written =
    let is : IsNumberedImage read.found read.shown read.numbers = read.is_shown in
    let image : IsBinaryImage read.found read.shown = (is.order, is.least, is.is_image) in
    let good = well_formed_file input max_var read.found read.read in
    let ordered = image_is_ordered read.found read.shown good image in
    let plain = plain_conversion false max_var in
    let is_text : IsTextAs false false read.found text =
    converted (conversion 0 max_var) false plain input text read.found read.read written in
    let one = image_is_one read.found in
    let same : is_text.0 ≡ read.shown = one.2 is_text.0 is_text.1 ∙ sym (one.2 read.shown image) in (
      arrays_of read.shown [],
      read.numbers,
      record {
        found = read.shown;
        shown = read.shown;
        numbers = [];
        read = binary_file read.shown text ordered.0 ordered.1 (is_text.2 ∙ ap binary_text same);
        has_words = image_has_words read.found read.shown read.numbers is read.has_words;
        is_shown = (refl, refl);
        is_made = refl;
      },
      read.is_made
          ∙ ap (λ w. arrays (w ++ read.numbers) (circuit_bytes read.shown) (counts_of read.shown))
          (sym (append-nil (circuit_words read.shown))),
    )
