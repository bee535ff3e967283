-- The texts of the headline exist: a file has a conversion text, which has one back, and no fault.
use Rattle.std.proofs.Common.{◌≡◌, refl, ap, ℕ, List, false, inl, inr}
use Rattle.aig_circuit.specs.declared.circuit.Circuit.{Circuit}
use Rattle.aig_circuit.specs.declared.circuit.TheConstants.{LARGEST}
use Rattle.aig_circuit.specs.Wellformed.{IsWellFormed}
use Rattle.aig_text.specs.AsciiText.{ascii_text}
use Rattle.aig_text.specs.Reading.{fault_of}
use Rattle.aig_binary.specs.BinaryText.{binary_text}
use Rattle.aig_map.proofs.Mapping.{mapped_image_is_one, mapped_image_is_ordered}
use Rattle.aig_map.proofs.Sources.OneSource.{undoing_recovers}
use Rattle.aig_image.proofs.Imaging.OwnImage.{own_image}
use Rattle.aig_map.proofs.Sources.Refused.{no_map_fault}
use Rattle.aig_command.specs.declared.request.BadStates.TheVariants.{Kept}
use Rattle.aig_command.specs.declared.request.ToAig.{ToAig}
use Rattle.aig_commands.specs.File.{IsFileOf}
use Rattle.aig_commands.specs.Conversion.{IsConversionText, IsSource, IsTextAs}
use Rattle.aig_commands.specs.Laws.{BinaryFilesConvertThereAndBack, FilesConvertThereAndBack, MappedTextsHaveNoFault}
use Rattle.aig_binary.proofs.Files.{file_is_read, one_circuit}
use Rattle.aig_commands.proofs.Trips.{ascii_file, binary_file, with_map}

-- what a conversion that leaves nothing out writes
is_written : (request : ToAig) (bytes text : List ℕ) (found source : Circuit) → request.simplify ≡ false
    → request.max_var ≡ LARGEST → request.strip ≡ false → request.bad_states ≡ Kept
    → IsFileOf bytes LARGEST found
    → IsSource request.undo_map found source → IsTextAs request.ascii request.keep_map source text
    → IsConversionText request bytes text
is_written request bytes text found source all limit whole still file is as_asked = record {
  found = found;
  source = source;
  written = source;
  read = rw limit file;
  is_source = is;
  can_turn = rw still tt;
  is_written = rw (all, whole, still) refl;
  written_as = as_asked;
}

pub well_formed_file : (text : List ℕ) (limit : ℕ) (c : Circuit) → IsFileOf text limit c → IsWellFormed c
well_formed_file text limit c (inl accepted) = accepted.well_formed
well_formed_file text limit c (inr accepted) = accepted.well_formed

pub there_and_back : FilesConvertThereAndBack
there_and_back there back keeps undoes c file accepted =
    let good = well_formed_file file LARGEST c accepted in
    let mapped = mapped_image_is_one c good in
    let binary = binary_text mapped.0 in (
      binary,
      ascii_text c,
      is_written there file binary c c keeps.simplify keeps.limit keeps.strip keeps.bad_states accepted
          (rw keeps.undo_map refl)
          (rw (keeps.ascii, keeps.keep_map) (mapped.0, mapped.1, refl)),
      is_written back binary (ascii_text c) mapped.0 c undoes.simplify undoes.limit undoes.strip undoes.bad_states
          (binary_file mapped.0 binary mapped.2 mapped.3 refl)
          (rw undoes.undo_map (undoing_recovers c mapped.0 good mapped.1).0) (rw undoes.ascii refl),
    )

pub binary_there_and_back : BinaryFilesConvertThereAndBack
binary_there_and_back there back plain to_ascii plain_back to_binary file (c, good, ordered, is) = (
  ascii_text c,
  binary_text c,
  is_written there file (ascii_text c) c c plain.simplify plain.limit plain.strip plain.bad_states
      (binary_file c file good ordered is) (rw plain.undo_map refl) (rw (plain.keep_map, to_ascii) refl),
  is_written back (ascii_text c) (binary_text c) c c plain_back.simplify plain_back.limit plain_back.strip
      plain_back.bad_states
      (inl (ascii_file c (ascii_text c) good refl)) (rw plain_back.undo_map refl)
      (rw (plain_back.keep_map, to_binary) (c, own_image c good ordered, refl)),
)

pub mapped_text_has_no_fault : MappedTextsHaveNoFault
mapped_text_has_no_fault there keeps file binary converted =
    let c = converted.found in
    let read : IsFileOf file LARGEST c = rw keeps.limit at converted.read in
    let good = well_formed_file file LARGEST c read in
    let mapped = with_map there file binary c keeps read converted in
    let ordered = mapped_image_is_ordered c mapped.0 good mapped.1 in
    let again = binary_file mapped.0 binary ordered.0 ordered.1 mapped.2 in (
      ap fault_of (file_is_read LARGEST binary mapped.0 again),
      λ found fault file_too told.
          no_map_fault mapped.0 fault (rw (one_circuit binary LARGEST found mapped.0 file_too again) at told) c
          (undoing_recovers c mapped.0 good mapped.1).0,
    )
