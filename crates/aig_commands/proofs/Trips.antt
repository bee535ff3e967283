-- What is written for bytes is one text, a canonical binary file comes back through ASCII, and an ASCII file through
-- binary with the map.
use Rattle.std.proofs.Common.{◌≡◌, ◌∙◌, sym, ap, ℕ, List, Bool, true, false, inl, inr}
use Rattle.aig_circuit.specs.declared.circuit.Circuit.{Circuit}
use Rattle.aig_circuit.specs.declared.circuit.TheConstants.{LARGEST}
use Rattle.aig_circuit.specs.Wellformed.{IsWellFormed}
use Rattle.aig_circuit.proofs.Checking.{definitions_fit, well_formed_in_form}
use Rattle.aig_text.specs.AsciiText.{ascii_text}
use Rattle.aig_text.proofs.Canonical.{canonical_text}
use Rattle.aig_text.specs.AsciiGrammar.{IsAsciiText}
use Rattle.aig_checked.specs.BinaryOrder.{IsInBinaryOrder}
use Rattle.aig_binary.specs.BinaryText.{binary_text}
use Rattle.aig_binary.proofs.Files.{canonical_binary, one_circuit}
use Rattle.aig_map.specs.MapBlock.{IsMappedImage}
use Rattle.aig_map.proofs.Mapping.{mapped_image_is_ordered}
use Rattle.aig_image.proofs.Imaging.Ordered.{image_is_one}
use Rattle.aig_map.proofs.Sources.OneSource.{one_source, undoing_recovers}
use Rattle.aig_map.proofs.Sources.Refused.{one_mapped}
use Rattle.aig_image.proofs.Imaging.OwnImage.{own_image}
use Rattle.aig_command.specs.declared.request.BadStates.TheVariants.{Kept}
use Rattle.aig_command.specs.declared.request.ToAig.{ToAig}
use Rattle.aig_commands.specs.File.{IsFileOf}
use Rattle.aig_commands.specs.Conversion.{IsImageAs, IsSource, IsTextAs, IsConversionText, changed}
use Rattle.aig_commands.specs.Laws.{BinarySurvivesAscii, ConversionsAreUnambiguous, IsPlain, KeepsMap, UndoesMap}
use Rattle.aig_commands.specs.Laws.{UndoingGivesAsciiBack}

one_image : (keep_map : Bool) (c image other : Circuit) → IsImageAs keep_map c image → IsImageAs keep_map c other
    → image ≡ other
one_image true c image other a b = one_mapped c image other a b
one_image false c image other a b = let one = image_is_one c in one.2 image a ∙ sym (one.2 other b)

pub one_text : (ascii keep_map : Bool) (c : Circuit) (text other : List ℕ) → IsTextAs ascii keep_map c text
    → IsTextAs ascii keep_map c other → text ≡ other
one_text true keep_map c text other a b = a ∙ sym b
one_text false keep_map c text other a b = a.2 ∙ ap binary_text (one_image keep_map c a.0 b.0 a.1 b.1) ∙ sym b.2

one_source_of : (undo_map : Bool) (found source other : Circuit) → IsSource undo_map found source
    → IsSource undo_map found other → source ≡ other
one_source_of true found source other a b = one_source source other found a.well_formed b.well_formed a.image b.image
one_source_of false found source other a b = a ∙ sym b

pub one_conversion : ConversionsAreUnambiguous
one_conversion request bytes text other whole p q =
    let found = one_circuit bytes request.max_var p.found q.found p.read q.read in
    let source =
    one_source_of request.undo_map q.found p.source q.source (rw found at p.is_source) q.is_source in
    let first : p.written ≡ changed request q.source = rw (whole, source) at p.is_written in
    let second : q.written ≡ changed request q.source = rw whole at q.is_written in
    one_text request.ascii request.keep_map (changed request q.source) text other
    (rw first at p.written_as) (rw second at q.written_as)

-- of a file of a circuit at the default limit, that circuit is read
found_is : (request : ToAig) (bytes text : List ℕ) (c : Circuit) → request.max_var ≡ LARGEST → IsFileOf bytes LARGEST c
    → (p : IsConversionText request bytes text) → p.found ≡ c
found_is request bytes text c limit file p = one_circuit bytes LARGEST p.found c (rw limit at p.read) file

-- what is written of a file of a circuit, where nothing is undone
written : (request : ToAig) (bytes text : List ℕ) (c : Circuit) → request.simplify ≡ false
    → request.max_var ≡ LARGEST → request.strip ≡ false
    → request.undo_map ≡ false → request.bad_states ≡ Kept → IsFileOf bytes LARGEST c
    → IsConversionText request bytes text → IsTextAs request.ascii request.keep_map c text
written request bytes text c all limit whole kept still file p =
    let source : p.source ≡ p.found = rw kept at p.is_source in
    let is : p.written ≡ c =
    rw (all, whole, still, source, found_is request bytes text c limit file p) at p.is_written in
    rw is at p.written_as

-- what a plain conversion writes of a file of a circuit
plainly : (request : ToAig) (bytes text : List ℕ) (c : Circuit) → IsPlain request → IsFileOf bytes LARGEST c
    → IsConversionText request bytes text → IsTextAs request.ascii false c text
plainly request bytes text c plain file p =
    rw plain.keep_map at
    (written request bytes text c plain.simplify plain.limit plain.strip plain.undo_map plain.bad_states file p)

pub binary_file : (c : Circuit) (text : List ℕ) → IsWellFormed c → IsInBinaryOrder c → text ≡ binary_text c
    → IsFileOf text LARGEST c
binary_file c text good ordered is = inr (rw is (canonical_binary c good (well_formed_in_form c good) ordered))

pub ascii_file : (c : Circuit) (text : List ℕ) → IsWellFormed c → text ≡ ascii_text c → IsAsciiText text LARGEST c
ascii_file c text good is = rw is (canonical_text c good (well_formed_in_form c good) (definitions_fit c good))

pub through_ascii : BinarySurvivesAscii
through_ascii there back plain to_ascii plain_back to_binary file ascii binary (c, good, ordered, is) first second =
    let is_ascii : ascii ≡ ascii_text c =
    rw to_ascii at (plainly there file ascii c plain (binary_file c file good ordered is) first) in
    let last =
    rw to_binary at (plainly back ascii binary c plain_back (inl (ascii_file c ascii good is_ascii)) second) in
    last.2 ∙ ap binary_text (one_image false c last.0 c last.1 (own_image c good ordered)) ∙ sym is

-- what is written where the map is kept
pub with_map : (request : ToAig) (bytes text : List ℕ) (c : Circuit) → KeepsMap request → IsFileOf bytes LARGEST c
    → IsConversionText request bytes text
    → (image : Circuit) × IsMappedImage c image × (text ≡ binary_text image)
with_map request bytes text c keeps file p =
    rw (keeps.ascii, keeps.keep_map) at
    (written request bytes text c keeps.simplify keeps.limit keeps.strip keeps.undo_map keeps.bad_states file p)

-- what is written where the map of a mapped image is undone
without_map : (request : ToAig) (bytes text : List ℕ) (c image : Circuit) → UndoesMap request → IsWellFormed c
    → IsMappedImage c image → IsFileOf bytes LARGEST image
    → IsConversionText request bytes text → text ≡ ascii_text c
without_map request bytes text c image undoes good is file p =
    let undone = rw (undoes.undo_map, found_is request bytes text image undoes.limit file p) at p.is_source in
    let is_it : p.written ≡ c =
    rw (undoes.simplify, undoes.strip, undoes.bad_states, (undoing_recovers c image good is).1 p.source undone) at
    p.is_written in
    rw (undoes.ascii, is_it) at p.written_as

pub through_binary : UndoingGivesAsciiBack
through_binary there back keeps undoes c file binary ascii accepted first second =
    let good = accepted.well_formed in
    let mapped = with_map there file binary c keeps (inl accepted) first in
    let ordered = mapped_image_is_ordered c mapped.0 good mapped.1 in
    let is =
    without_map back binary ascii c mapped.0 undoes good mapped.1
    (binary_file mapped.0 binary ordered.0 ordered.1 mapped.2) second in
    (is, ascii_file c ascii good is, λ canonical. is ∙ sym canonical)
