-- What a command line asks for that `clap` takes (this project's profile).
use Rattle.std.specs.Prelude.{ℕ, ◌≤◌, ⊤, List, [], ◌∷◌, ◌==◌, ◌&&◌, ◌||◌, ◌^◌, Bool, false, length, nat_lt, nat_eq}
use Rattle.std.specs.Prelude.{Option, Some, None, unwrap_or, option_and_then, option_map, find}
use Rattle.std.specs.Prelude.{codes, if◌then◌else◌, is_some, not, true}
use Rattle.std.specs.List.{ends_with, filter_map, list_all}
use Rattle.std.specs.Option.{is_none, option_map_or, option_or}
use Rattle.std.specs.Char.{digit_value}
use Rattle.std.specs.Str.{bytes_eq}
use Rattle.std.specs.Str.Parse.{digits_value, without_leading_plus}
use Rattle.clap.specs.Words.{Kinds, Row, Text, fault_of, first_of, many_of, one_of, subcommand_of}
use Rattle.aig_circuit.specs.declared.circuit.Kind.{Kind}
use Rattle.aig_circuit.specs.declared.circuit.Kind.TheVariants as kinds
use Rattle.aig_command.specs.Aiger.{aiger, largest_index, most_drawn, most_frames}
use Rattle.aig_command.specs.declared.packed.Packer.{Packer}
use Rattle.aig_command.specs.declared.packed.Packer.TheVariants as packers
use Rattle.aig_command.specs.declared.request.BadStates.{BadStates}
use Rattle.aig_command.specs.declared.request.BadStates.TheVariants as bads
use Rattle.aig_command.specs.declared.request.Command.{Command}
use Rattle.aig_command.specs.declared.request.Command.TheVariants as commands
use Rattle.aig_command.specs.declared.request.Info.{Info}
use Rattle.aig_command.specs.declared.request.Invariant.{Invariant}
use Rattle.aig_command.specs.declared.request.Miter.{Miter}
use Rattle.aig_command.specs.declared.request.Place.{Place}
use Rattle.aig_command.specs.declared.request.Reach.{Reach}
use Rattle.aig_command.specs.declared.request.Select.{Select}
use Rattle.aig_command.specs.declared.request.Sim.{Sim}
use Rattle.aig_command.specs.declared.request.Property.{Property}
use Rattle.aig_command.specs.declared.request.Property.TheVariants as properties
use Rattle.aig_command.specs.declared.request.SolverFile.{SolverFile}
use Rattle.aig_command.specs.declared.request.SolverFile.TheVariants as written
use Rattle.aig_command.specs.declared.request.ToAig.{ToAig}
use Rattle.aig_command.specs.declared.request.ToDot.{ToDot}
use Rattle.aig_command.specs.declared.request.Unroll.{Unroll}
use Rattle.aig_command.specs.declared.request.UnrolledForm.{UnrolledForm}
use Rattle.aig_command.specs.declared.request.UnrolledForm.TheVariants as forms
use Rattle.aig_command.specs.declared.usage.Usage.{Usage}
use Rattle.aig_command.specs.declared.usage.Usage.TheVariants as usage

-- the option is given
abbrev pub is_set : Text → List Row → Bool
is_set name rows = option_map_or (λ text. bytes_eq text (codes "true")) (one_of name rows) false

-- the number of 32 bits that the text is in decimal, where it is one; a plus may stand before the digits
abbrev pub number_in : Text → Option ℕ
number_in text =
    let digits = without_leading_plus text in
    if nat_lt 0 (length digits) && list_all (λ d. nat_lt (digit_value d) 10) digits
    && nat_lt (digits_value 10 digits) (2 ^ 32)
    then Some (digits_value 10 digits) else None

-- the number that the option sets, or else this one; `clap` takes no other text than a number
abbrev pub number : Text → ℕ → List Row → ℕ
number name otherwise rows = unwrap_or (option_and_then number_in (one_of name rows)) otherwise

-- the limit that `--max-var` sets, or else the largest index that the format has
abbrev pub limit : List Row → ℕ
limit = number (codes "max-var") largest_index

-- the number of frames that `--frames` sets, which is given wherever it counts
abbrev pub frames : List Row → ℕ
frames = number (codes "frames") 1

-- the number of the property that the option chooses
abbrev pub chosen : Text → List Row → Option ℕ
chosen name rows = option_and_then number_in (one_of name rows)

-- the numbers that the uses of the option choose, in their order
abbrev pub all_chosen : Text → List Row → List ℕ
all_chosen name rows = filter_map number_in (unwrap_or (many_of name rows) [])

-- there is a value at this place, or for this option
abbrev pub is_given : Text → List Row → Bool
is_given name rows = is_some (first_of name rows)

-- the file that is named at this place, or by this option; no name, or `-`, is the standard stream
abbrev pub file : Text → List Row → Option Text
file place rows = option_and_then (λ name. if bytes_eq name (codes "-") then None else Some name) (first_of place rows)

-- there is a file whose name has this ending
abbrev pub ends_in : Text → Option Text → Bool
ends_in ending named = option_map_or (λ name. ends_with nat_eq name ending) named false

-- ASCII is written to this destination, by an option or by its name
abbrev pub wants_ascii : List Row → Option Text → Bool
wants_ascii rows destination = is_set (codes "ascii") rows || ends_in (codes ".aag") destination

-- the program that packed the file, by its name
abbrev pub packer_of : Option Text → Option Packer
packer_of named =
    if ends_in (codes ".gz") named then Some packers.Gzip
    else if ends_in (codes ".xz") named then Some packers.Xz
    else if ends_in (codes ".zst") named then Some packers.Zstd
    else if ends_in (codes ".bz2") named then Some packers.Bzip2
    else None

-- the reason to refuse a destination
abbrev pub destination_refusal : Option Text → Option Usage
destination_refusal destination = option_map usage.CompressedOutput (packer_of destination)

-- the reason to refuse to wait for the disk: there is no file to wait for
abbrev pub sync_refusal : List Row → Option Usage
sync_refusal rows =
    if is_set (codes "sync") rows && is_none (file (codes "destination") rows)
    then Some usage.SyncNeedsDestination else None

-- the files that a command names; `None` is a standard stream, or a file that the command does not have
pub record Files : Type 0 where
  pub model : Option Text
  pub file : Option Text
  pub refutation : Option Text
  pub destination : Option Text

-- the standard input is one stream, and is to give the model and the file after it
abbrev pub has_one_stream_for_two : Files → Bool
has_one_stream_for_two files = is_none files.model && is_none files.file

-- the files of a command with a source and a destination, and with these two beside the source
abbrev pub files_with : Option Text → Option Text → List Row → Files
files_with beside refutation rows = record {
  model = file (codes "source") rows;
  file = beside;
  refutation = refutation;
  destination = file (codes "destination") rows;
}

-- the bad states that `--outputs-as-bad` or `--justice-as-bad` asks for, or else those of the source
abbrev pub bad_states : List Row → BadStates
bad_states rows =
    if is_set (codes "outputs-as-bad") rows then bads.Outputs
    else option_map_or bads.Justice (chosen (codes "justice-as-bad") rows) bads.Kept

-- the conversion to this destination that the arguments of `aigtoaig` name
abbrev pub conversion : List Row → Option Text → ToAig
conversion rows destination = record {
  ascii = wants_ascii rows destination;
  strip = is_set (codes "strip") rows;
  keep_map = is_set (codes "keep-map") rows;
  undo_map = is_set (codes "undo-map") rows;
  bad_states = bad_states rows;
  simplify = is_set (codes "simplify") rows;
  max_var = limit rows;
}

-- both outputs and a justice property are to become bad states
abbrev pub asks_for_both : List Row → Bool
asks_for_both rows = is_set (codes "outputs-as-bad") rows && is_given (codes "justice-as-bad") rows

abbrev pub are_outputs : BadStates → Bool
are_outputs bads.Outputs = true
are_outputs wanted = false

abbrev pub are_of_justice : BadStates → Bool
are_of_justice (bads.Justice property) = true
are_of_justice wanted = false

-- the first reason to refuse a conversion to this destination: no map tells what bad states were in the source, or
-- which gates are gone
abbrev pub refusal : List Row → Option Text → ToAig → Option Usage
refusal rows destination c =
    if c.keep_map && c.ascii then Some usage.KeepMapNeedsBinary
    else if c.keep_map && c.strip then Some usage.KeepMapExcludesStrip
    else if c.keep_map && c.undo_map then Some usage.KeepMapExcludesUndoMap
    else if c.keep_map && c.simplify then Some usage.KeepMapExcludesSimplify
    else if are_outputs c.bad_states && c.keep_map then Some usage.OutputsAsBadExcludesKeepMap
    else if are_outputs c.bad_states && c.undo_map then Some usage.OutputsAsBadExcludesUndoMap
    else if asks_for_both rows then Some usage.JusticeAsBadAlone
    else if are_of_justice c.bad_states && (c.keep_map || c.undo_map) then Some usage.JusticeAsBadAlone
    else destination_refusal destination

-- the simulation that the arguments of `aigsim` name
abbrev pub simulation : List Row → Sim
simulation rows = record {
  batch = is_set (codes "batch") rows;
  properties = is_set (codes "properties") rows;
  witness = is_set (codes "witness") rows;
  vcd = is_set (codes "vcd") rows;
  max_var = limit rows;
}

-- its model and its stimulus, or the witness file that is judged against the model
abbrev pub simulation_files : List Row → Files
simulation_files rows = record {
  model = file (codes "model") rows;
  file = file (codes "stimulus") rows;
  refutation = None;
  destination = None;
}

-- the first reason to refuse a simulation: the standard input is one stream and cannot give two files; judging a
-- witness writes no trace that an option could change, but a dump; and a dump always has the properties
abbrev pub simulation_refusal : Files → Sim → Option Usage
simulation_refusal files s =
    if has_one_stream_for_two files then Some usage.BothStandardInput
    else if s.witness && (s.batch || s.properties) then Some usage.WitnessAlone
    else if s.vcd && s.properties then Some usage.VcdExcludesProperties
    else None

-- the property that `--bad` or `--justice` chooses, or else any bad state
abbrev pub chosen_property : List Row → Property
chosen_property rows =
    option_map_or properties.Bad (chosen (codes "bad") rows)
    (option_map_or properties.Justice (chosen (codes "justice") rows) properties.AnyBad)

-- what is written of an unrolled circuit: the clauses where they are asked for, and else the circuit
abbrev pub unrolled_form : List Row → Option Text → UnrolledForm
unrolled_form rows destination =
    if is_set (codes "cnf") rows then forms.Clauses (chosen_property rows)
    else if wants_ascii rows destination then forms.Ascii else forms.Binary

-- the unrolling to this destination that the arguments of `aigunroll` name
abbrev pub unrolling : List Row → Option Text → Unroll
unrolling rows destination = record {
  frames = frames rows;
  form = unrolled_form rows destination;
  simplify = is_set (codes "simplify") rows;
  max_var = limit rows;
}

-- the option that names what a solver wrote
abbrev pub option_of : SolverFile → Text
option_of written.Answer = codes "answer"
option_of written.Refutation = codes "refutation"

-- what the arguments of `aigunroll` name with that option
abbrev pub reaching : SolverFile → List Row → Reach
reaching wrote rows = record {
  frames = frames rows;
  property = chosen_property rows;
  max_var = limit rows;
  wrote = wrote;
  lrat = is_set (codes "lrat") rows;
  simplify = is_set (codes "simplify") rows;
}

-- the standard input is one stream, and cannot give a model and what a solver wrote
abbrev pub stream_refusal : SolverFile → Usage
stream_refusal written.Answer = usage.BothAreStandardInput
stream_refusal written.Refutation = usage.RefutationIsModel

-- the first reason to refuse the files of a model and of what a solver wrote
abbrev pub reaching_refusal : SolverFile → Files → Option Usage
reaching_refusal wrote files =
    if has_one_stream_for_two files then Some (stream_refusal wrote) else destination_refusal files.destination

-- what the arguments of `aigunroll` name with `--invariant`
abbrev pub proving : List Row → Invariant
proving rows = record {
  property = chosen_property rows;
  max_var = limit rows;
  refuted = is_given (codes "refutation") rows;
  lrat = is_set (codes "lrat") rows;
  simplify = is_set (codes "simplify") rows;
}

-- the first reason to refuse the files of a model, of its invariant and of a refutation: the standard input is one
-- stream, and gives one of them at most
abbrev pub proving_refusal : Files → Invariant → Option Usage
proving_refusal files p =
    if has_one_stream_for_two files then Some usage.InvariantIsModel
    else if p.refuted && is_none files.refutation && is_none files.model then Some usage.RefutationIsModel
    else if p.refuted && is_none files.refutation && is_none files.file then Some usage.RefutationIsInvariant
    else destination_refusal files.destination

-- the first reason to refuse options of clauses: there is one property at most, only clauses know of it, and only a
-- refutation of them is LRAT
abbrev pub property_refusal : List Row → Option Usage
property_refusal rows =
    let bad = is_given (codes "bad") rows in
    let justice = is_given (codes "justice") rows in
    let clauses = is_set (codes "cnf") rows in
    let answer = is_given (codes "answer") rows in
    let refutation = is_given (codes "refutation") rows in
    if bad && justice then Some usage.BadExcludesJustice
    else if bad && not (clauses || answer || refutation) then Some usage.BadNeedsClauses
    else if justice && not (clauses || answer || refutation) then Some usage.JusticeNeedsClauses
    else if is_set (codes "lrat") rows && not refutation then Some usage.LratNeedsRefutation
    else None

-- the first reason to refuse options of `aigunroll` together: there are frames or an invariant, clauses are neither
-- ASCII nor binary, an answer or a refutation is read in place of writing them, an invariant is shown by clauses alone,
-- only these know of one property, and only a refutation is LRAT
abbrev pub options_refusal : List Row → Option Usage
options_refusal rows =
    let framed = is_given (codes "frames") rows in
    let invariant = is_given (codes "invariant") rows in
    let clauses = is_set (codes "cnf") rows in
    let ascii = is_set (codes "ascii") rows in
    let answer = is_given (codes "answer") rows in
    let refutation = is_given (codes "refutation") rows in
    if not (framed || invariant) then Some usage.FramesNeeded
    else if clauses && ascii then Some usage.CnfExcludesAscii
    else if answer && (clauses || ascii) then Some usage.AnswerAlone
    else if refutation && (clauses || ascii || answer) then Some usage.RefutationAlone
    else if invariant && (framed || ascii || answer) then Some usage.InvariantAlone
    else if invariant && not (clauses || refutation) then Some usage.InvariantNeedsClauses
    else property_refusal rows

-- the miter to this destination that the arguments of `aigmiter` name
abbrev pub comparison : List Row → Option Text → Miter
comparison rows destination = record {
  ascii = wants_ascii rows destination;
  by_name = is_set (codes "by-name") rows;
  simplify = is_set (codes "simplify") rows;
  max_var = limit rows;
}

-- its two circuits, and where it is written
abbrev pub miter_files : List Row → Files
miter_files rows = record {
  model = file (codes "first") rows;
  file = file (codes "second") rows;
  refutation = None;
  destination = file (codes "destination") rows;
}

-- the first reason to refuse the files of a miter: the standard input is one stream, and cannot give two circuits
abbrev pub miter_refusal : Files → Option Usage
miter_refusal files =
    if has_one_stream_for_two files then Some usage.CircuitsAreStandardInput else destination_refusal files.destination

-- the numbers that the arguments of `aiginfo` name
abbrev pub counting : List Row → Info
counting rows = record { json = is_set (codes "json") rows; max_var = limit rows }

-- the selection to this destination that the arguments of `aigselect` name
abbrev pub selection : List Row → Option Text → Select
selection rows destination = record {
  outputs = all_chosen (codes "output") rows;
  bad = all_chosen (codes "bad") rows;
  justice = all_chosen (codes "justice") rows;
  ascii = wants_ascii rows destination;
  max_var = limit rows;
}

-- nothing is chosen
abbrev pub is_empty : Select → Bool
is_empty s = length s.outputs == 0 && length s.bad == 0 && length s.justice == 0

-- the first reason to refuse a selection to this destination
abbrev pub selection_refusal : Option Text → Select → Option Usage
selection_refusal destination s =
    if is_empty s then Some usage.SelectNeedsChoice else destination_refusal destination

-- the number after this letter, where the text is that
abbrev pub number_after : ℕ → Text → Option ℕ
number_after letter [] = None
number_after letter (c ∷ digits) = if c == letter then number_in digits else None

abbrev pub place_of : Kind → ℕ → Option Place
place_of kind position = Some (record { kind = kind; position = position })

-- the place that a text names as a symbol line does, of what a circuit shows: `o`, `b`, `c`, `j` or `f`, and a position
abbrev pub place_in : Text → Option Place
place_in text =
    option_map_or (place_of kinds.Output) (number_after 111 text)
    (option_map_or (place_of kinds.Bad) (number_after 98 text)
    (option_map_or (place_of kinds.Constraint) (number_after 99 text)
    (option_map_or (place_of kinds.Justice) (number_after 106 text)
    (option_map_or (place_of kinds.Fairness) (number_after 102 text) None))))

-- the picture that the arguments of `aigtodot` name
abbrev pub drawing : List Row → ToDot
drawing rows = record {
  cone = option_and_then place_in (first_of (codes "cone") rows);
  all_steps = is_set (codes "all-steps") rows;
  gates = number (codes "gates") most_drawn rows;
  max_var = limit rows;
}

-- the first reason to refuse a picture for this destination: no place is named, or more is drawn of none
abbrev pub drawing_refusal : List Row → Option Text → ToDot → Option Usage
drawing_refusal rows destination request =
    if is_given (codes "cone") rows && is_none request.cone then Some usage.ConeNeedsPlace
    else if request.all_steps && is_none request.cone then Some usage.AllStepsNeedsCone
    else destination_refusal destination

-- what is asked for, of which files, or why that is refused
pub data Asked : Type 0 where
  asks : Files → Command → Asked
  refused : Usage → Asked

-- The numbers are within their limits: that on indices and counts, and the frames.
abbrev pub AsksWithinLimits : Asked → Type 0
AsksWithinLimits (asks files (commands.ToAig request)) = request.max_var ≤ largest_index
AsksWithinLimits (asks files (commands.Sim request)) = request.max_var ≤ largest_index
AsksWithinLimits (asks files (commands.Unroll request)) =
    (1 ≤ request.frames) × (request.frames ≤ most_frames) × (request.max_var ≤ largest_index)
AsksWithinLimits (asks files (commands.Reach request)) =
    (1 ≤ request.frames) × (request.frames ≤ most_frames) × (request.max_var ≤ largest_index)
AsksWithinLimits (asks files (commands.Invariant request)) = request.max_var ≤ largest_index
AsksWithinLimits (asks files (commands.Miter request)) = request.max_var ≤ largest_index
AsksWithinLimits (asks files (commands.Info request)) = request.max_var ≤ largest_index
AsksWithinLimits (asks files (commands.Select request)) = request.max_var ≤ largest_index
AsksWithinLimits (asks files (commands.ToDot request)) = request.max_var ≤ largest_index
AsksWithinLimits asked = ⊤

-- what the arguments of `aigtoaig` ask for
abbrev pub to_aig : List Row → Asked
to_aig rows =
    let files = files_with None None rows in
    let request = conversion rows files.destination in
    option_map_or refused (refusal rows files.destination request)
    (option_map_or refused (sync_refusal rows) (asks files (commands.ToAig request)))

-- what the arguments of `aigsim` ask for
abbrev pub aigsim : List Row → Asked
aigsim rows =
    let files = simulation_files rows in
    option_map_or refused (simulation_refusal files (simulation rows)) (asks files (commands.Sim (simulation rows)))

-- what the arguments of `aigunroll` ask for without another file than the model
abbrev pub asked_unrolling : List Row → Asked
asked_unrolling rows =
    let files = files_with None None rows in
    option_map_or refused (destination_refusal files.destination)
    (asks files (commands.Unroll (unrolling rows files.destination)))

-- what they ask for with an answer or a refutation
abbrev pub asked_reaching : SolverFile → List Row → Asked
asked_reaching wrote rows =
    let files = files_with (file (option_of wrote) rows) None rows in
    option_map_or refused (reaching_refusal wrote files) (asks files (commands.Reach (reaching wrote rows)))

-- what they ask for with an invariant
abbrev pub asked_proving : List Row → Asked
asked_proving rows =
    let files = files_with (file (codes "invariant") rows) (file (codes "refutation") rows) rows in
    option_map_or refused (proving_refusal files (proving rows)) (asks files (commands.Invariant (proving rows)))

-- what the arguments of `aigunroll` ask for
abbrev pub aigunroll : List Row → Asked
aigunroll rows =
    option_map_or refused (options_refusal rows)
    (option_map_or refused (sync_refusal rows)
    (if is_given (codes "invariant") rows then asked_proving rows
    else if is_given (codes "answer") rows then asked_reaching written.Answer rows
    else if is_given (codes "refutation") rows then asked_reaching written.Refutation rows
    else asked_unrolling rows))

-- what the arguments of `aigmiter` ask for
abbrev pub aigmiter : List Row → Asked
aigmiter rows =
    let files = miter_files rows in
    option_map_or refused (miter_refusal files)
    (option_map_or refused (sync_refusal rows) (asks files (commands.Miter (comparison rows files.destination))))

-- what the arguments of `aiginfo` ask for
abbrev pub aiginfo : List Row → Asked
aiginfo rows =
    let files = files_with None None rows in
    option_map_or refused (destination_refusal files.destination)
    (option_map_or refused (sync_refusal rows) (asks files (commands.Info (counting rows))))

-- what the arguments of `aigselect` ask for
abbrev pub aigselect : List Row → Asked
aigselect rows =
    let files = files_with None None rows in
    let request = selection rows files.destination in
    option_map_or refused (selection_refusal files.destination request)
    (option_map_or refused (sync_refusal rows) (asks files (commands.Select request)))

-- what the arguments of `aigtodot` ask for
abbrev pub aigtodot : List Row → Asked
aigtodot rows =
    let files = files_with None None rows in
    option_map_or refused (drawing_refusal rows files.destination (drawing rows))
    (option_map_or refused (sync_refusal rows) (asks files (commands.ToDot (drawing rows))))

-- the reason to refuse the files that are read
abbrev pub source_refusal : Files → Option Usage
source_refusal files =
    option_map usage.CompressedInput
    (option_or (packer_of files.model) (option_or (packer_of files.file) (packer_of files.refutation)))

-- what is asked for, if no file that is read was packed
abbrev pub unless_packed : Asked → Asked
unless_packed (asks files command) = option_map_or refused (source_refusal files) (asks files command)
unless_packed (refused reason) = refused reason

-- each subcommand: its name, and what its arguments ask for
abbrev pub subcommands : List (Text × (List Row → Asked))
subcommands =
    (codes "aigtoaig", to_aig) ∷ (codes "aigsim", aigsim) ∷ (codes "aigunroll", aigunroll)
    ∷ (codes "aigmiter", aigmiter) ∷ (codes "aiginfo", aiginfo) ∷ (codes "aigselect", aigselect)
    ∷ (codes "aigtodot", aigtodot) ∷ []

-- what the subcommand of this name with these arguments asks for
abbrev pub asked_by : Text × List Row → Option Asked
asked_by met = option_map (λ s. s.1 met.1) (find (λ s. bytes_eq met.0 s.0) subcommands)

-- what `clap` finds wrong with the arguments, the program's name first: nothing where it takes them
abbrev pub faults : List Text → Kinds
faults = fault_of aiger

-- what the arguments ask for, the program's name first, where `clap` takes them
abbrev pub command_of : List Text → Option Asked
command_of words =
    if length (faults words) == 0
    then option_map unless_packed (option_and_then asked_by (subcommand_of aiger words)) else None

-- the command that `clap` takes has this option
abbrev pub asks_option : Text → List Text → Bool
asks_option name words =
    if length (faults words) == 0
    then option_map_or (λ met. is_set name met.1) (subcommand_of aiger words) false else false

-- The disk is to have the destination before the program ends. No text depends on it.
abbrev pub asks_sync : List Text → Bool
asks_sync = asks_option (codes "sync")

-- Binary may go to a terminal. No text depends on it.
abbrev pub asks_force : List Text → Bool
asks_force = asks_option (codes "force")

-- what is written of an unrolled circuit is binary
abbrev pub is_binary : UnrolledForm → Bool
is_binary forms.Binary = true
is_binary form = false

-- the command writes a circuit in binary
abbrev pub writes_binary : Command → Bool
writes_binary (commands.ToAig request) = not request.ascii
writes_binary (commands.Unroll request) = is_binary request.form
writes_binary (commands.Miter request) = not request.ascii
writes_binary (commands.Select request) = not request.ascii
writes_binary command = false
