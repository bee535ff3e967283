-- What is written with fewer gates is the file of one circuit.
use Rattle.std.proofs.Common.{◌≡◌, ◌∙◌, ℕ, List, Bool, true, false, inl, sym}
use Rattle.aig_circuit.specs.declared.circuit.Circuit.{Circuit}
use Rattle.aig_circuit.specs.declared.circuit.TheConstants.{LARGEST}
use Rattle.aig_checked.specs.BinaryOrder.{IsInBinaryOrder}
use Rattle.aig_circuit.specs.Wellformed.{IsWellFormed}
use Rattle.aig_binary.proofs.Files.{one_circuit}
use Rattle.aig_image.proofs.Imaging.Ordered.{image_is_one}
use Rattle.aig_image.proofs.Imaging.OwnImage.{own_image}
use Rattle.aig_commands.specs.Conversion.{IsTextAs}
use Rattle.aig_commands.specs.File.{IsFileOf}
use Rattle.aig_commands.specs.Laws.{SimplifiedTextsAreFiles}
use Rattle.aig_commands.proofs.Trips.{ascii_file, binary_file}

-- what is written of a circuit in binary order, without a map, is a file of it
own_file : (ascii : Bool) (d : Circuit) (text : List ℕ) → IsWellFormed d → IsInBinaryOrder d
    → IsTextAs ascii false d text → IsFileOf text LARGEST d
own_file true d text good ordered is = inl (ascii_file d text good is)
own_file false d text good ordered (image, is_image, is) =
    let one = image_is_one d in
    let same : image ≡ d = one.2 image is_image ∙ sym (one.2 d (own_image d good ordered)) in
    binary_file d text good ordered (rw same at is)

pub simplified_texts_are_files : SimplifiedTextsAreFiles
simplified_texts_are_files request file converted simplify no_map p =
    let is = rw simplify at p.is_written in
    let of_file = own_file request.ascii p.written converted is.formed is.ordered (rw no_map at p.written_as) in (
      is,
      λ d. (λ read. one_circuit converted LARGEST d p.written read of_file, λ same. rw same of_file),
    )
