-- What is converted means what it was converted from.
use Rattle.std.proofs.Common.{◌≡◌, if◌then◌else◌, refl, rules, subst, ℕ, List, Bool, true, false, inl}
use Rattle.aig_circuit.specs.declared.circuit.Circuit.{Circuit}
use Rattle.aig_circuit.specs.declared.circuit.TheConstants.{LARGEST}
use Rattle.aig_circuit.specs.Wellformed.{IsWellFormed}
use Rattle.aig_meaning.specs.Meaning.{IsRow, MeansTheSame, Row}
use Rattle.aig_meaning.proofs.Traces.{means_itself, same_back, same_by_rows, same_through}
use Rattle.aig_image.proofs.Imaging.Ordered.{image_is_ordered}
use Rattle.aig_image.proofs.Meaning.{image_means_the_same}
use Rattle.aig_map.proofs.Mapping.{mapped_image_is_ordered}
use Rattle.aig_convert.proofs.Meaning.{mapped_image_means_the_same, undone_means_the_same}
use Rattle.aig_command.specs.declared.request.BadStates.{BadStates}
use Rattle.aig_command.specs.declared.request.BadStates.TheVariants.{Kept}
use Rattle.aig_command.specs.declared.request.ToAig.{ToAig}
use Rattle.aig_commands.specs.File.{IsFileOf}
use Rattle.aig_commands.specs.Conversion.{IsConversionText, IsSource, IsTextAs, IsWritten, stripped, stripped_if_asked}
use Rattle.aig_commands.specs.Conversion.{turned}
use Rattle.aig_commands.proofs.Trips.{ascii_file, binary_file}
use Rattle.aig_commands.proofs.TripsExist.{well_formed_file}

-- symbols and comment mean nothing
stripped_is_well_formed : (c : Circuit) → IsWellFormed c → IsWellFormed (stripped c)
stripped_is_well_formed c good = search rules

row_of_whole : (c : Circuit) (row : Row) → IsRow (stripped c) row → IsRow c row
row_of_whole c row (a, shown) = search rules

pub changed_by : (strip : Bool) (c : Circuit) → IsWellFormed c
    → IsWellFormed (if strip then stripped c else c) × MeansTheSame c (if strip then stripped c else c)
changed_by true c good =
    let good_too = stripped_is_well_formed c good in
    (good_too, same_by_rows c (stripped c) good good_too refl refl (row_of_whole c))
changed_by false c good = (good, means_itself c)

-- the circuit that is written, simplified where that is asked for
pub written_by : (simplify : Bool) (c written : Circuit) → IsWellFormed c → IsWritten simplify c written
    → IsWellFormed written × MeansTheSame c written
written_by true c written good is = (is.formed, is.same)
written_by false c written good is = rw is (good, means_itself c)

-- the circuit that is undone, where that is asked for
pub source_by : (undo_map : Bool) (found source : Circuit) → IsWellFormed found → IsSource undo_map found source
    → IsWellFormed source × MeansTheSame found source
source_by true found source good is = (is.well_formed, same_back source found (undone_means_the_same found source is))
source_by false found source good is = rw is (good, means_itself found)

-- what is written for a circuit is the file of one that means the same
pub file_as : (ascii keep_map : Bool) (c : Circuit) (text : List ℕ) → IsWellFormed c → IsTextAs ascii keep_map c text
    → (d : Circuit) × IsFileOf text LARGEST d × MeansTheSame c d
file_as true keep_map c text good is = (c, inl (ascii_file c text good is), means_itself c)
file_as false true c text good (image, mapped, is) =
    let ordered = mapped_image_is_ordered c image good mapped in
    (image, binary_file image text ordered.0 ordered.1 is, mapped_image_means_the_same c image good mapped)
file_as false false c text good (image, is_image, is) =
    let ordered = image_is_ordered c image good is_image in
    (image, binary_file image text ordered.0 ordered.1 is, image_means_the_same c image good is_image)

-- a conversion text is the file of a circuit that means what the source means with the bad states that are asked for
pub turned_file : (request : ToAig) (file converted : List ℕ) (p : IsConversionText request file converted)
    → IsWellFormed (turned request.bad_states p.source)
    → (d : Circuit) × IsFileOf converted LARGEST d × MeansTheSame (turned request.bad_states p.source) d
turned_file request file converted p good =
    let made = turned request.bad_states p.source in
    let asked = stripped_if_asked request made in
    let left = changed_by request.strip made good in
    let written = written_by request.simplify asked p.written left.0 p.is_written in
    let held = file_as request.ascii request.keep_map p.written converted written.0 p.written_as in
    let means = same_through asked p.written held.0 written.1 held.2 in
    (held.0, held.1, same_through made asked held.0 left.1 means)

-- a conversion text is the file of a circuit that means what the circuit means that was read
pub converted_file : (request : ToAig) (file converted : List ℕ) → request.bad_states ≡ Kept
    → (p : IsConversionText request file converted)
    → (d : Circuit) × IsFileOf converted LARGEST d × MeansTheSame p.found d
converted_file request file converted still p =
    let good = well_formed_file file request.max_var p.found p.read in
    let source = source_by request.undo_map p.found p.source good p.is_source in
    let made = turned_file request file converted p (rw still source.0) in
    let means = subst (λ (b : BadStates). MeansTheSame (turned b p.source) made.0) still made.2 in
    (made.0, made.1, same_through p.found p.source made.0 source.1 means)
