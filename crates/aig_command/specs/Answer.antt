-- What is answered to a command line (this project's profile).
use Rattle.std.specs.Prelude.{◌≡◌, ◌≢◌, ◌<◌, ◌≤◌, ◌||◌, ◌&&◌, not, List, ◌∷◌, ◌++◌, Bool, true, false, drop, map, nat_eq, Option}
use Rattle.std.specs.Prelude.{Some, None}
use Rattle.std.specs.Prelude.{Result, Ok, Err, codes, option_map, String, string_bytes, string_len, ⊤}
use Rattle.std.specs.Global.{Global}
use Rattle.std.specs.List.{list_any, starts_with}
use Rattle.std.specs.Option.{is_none}
use Rattle.std.specs.Str.{bytes_eq}
use Rattle.clap.specs.Words.{IsAmong, Text, takes}
use Rattle.clap.specs.declared.error.kind.ErrorKind.{ErrorKind}
use Rattle.clap.specs.declared.error.kind.ErrorKind.TheVariants.{DisplayHelp, DisplayVersion, OutOfMemory}
use Rattle.aig_command.specs.Aiger.{aiger, most_frames}
use Rattle.aig_command.specs.Asked.{Asked, Files, asks, command_of, faults, is_empty, refused, writes_binary}
use Rattle.aig_command.specs.declared.builder.TheConstants.{VERSION}
use Rattle.aig_command.specs.declared.request.BadStates.TheVariants.{Kept}
use Rattle.aig_command.specs.declared.request.Invariant.{Invariant}
use Rattle.aig_command.specs.declared.request.Names.{Names}
use Rattle.aig_command.specs.declared.request.Reach.{Reach}
use Rattle.aig_command.specs.declared.request.Select.{Select}
use Rattle.aig_command.specs.declared.request.Sim.{Sim}
use Rattle.aig_command.specs.declared.request.ToAig.{ToAig}
use Rattle.aig_command.specs.declared.request.ToDot.{ToDot}
use Rattle.aig_command.specs.declared.request.Unroll.{Unroll}
use Rattle.aig_command.specs.declared.request.Command.{Command}
use Rattle.aig_command.specs.declared.request.CommandLine.{CommandLine}
use Rattle.aig_command.specs.declared.request.Command.TheVariants as commands
use Rattle.aig_command.specs.declared.usage.Usage.{Usage}
use Rattle.aig_command.specs.declared.usage.Usage.TheVariants as usage

-- the bytes of each argument
abbrev pub texts : List (String Global) → List Text
texts = map (λ word. string_bytes word)

-- the name of a file, if there is one
abbrev pub name_of : Option (String Global) → Option Text
name_of = option_map (λ name. string_bytes name)

-- the files of these names
abbrev pub files_of : Names → Files
files_of names = record {
  model = name_of names.model;
  file = name_of names.file;
  refutation = name_of names.refutation;
  destination = name_of names.destination;
}

-- no file is named
abbrev pub no_names : Names
no_names = record { model = None; file = None; refutation = None; destination = None }

-- the argument is the option's long name, or begins with its short one
abbrev pub is_option : Text → Text → Text → Bool
is_option long short word = bytes_eq word long || starts_with nat_eq word short

-- one of the arguments after the program's name is this option
abbrev pub asks_for : Text → Text → List Text → Bool
asks_for long short words = list_any (is_option long short) (drop 1 words)

-- the first argument after the program's name is `help`
abbrev pub begins_with_help : List Text → Bool
begins_with_help (name ∷ word ∷ more) = bytes_eq word (codes "help")
begins_with_help words = false

abbrev pub asks_for_help : List Text → Bool
asks_for_help words = asks_for (codes "--help") (codes "-h") words || begins_with_help words

abbrev pub asks_for_version : List Text → Bool
asks_for_version = asks_for (codes "--version") (codes "-V")

-- what the program says of its version
abbrev pub version_text : Text
version_text = codes "aiger " ++ VERSION.now ++ codes "\n"

-- `clap` does not take the arguments, and this is what it finds wrong with them
abbrev pub IsWrong : List Text → ErrorKind → Type 0
IsWrong words kind = IsAmong kind (faults words) × (takes aiger words ≡ false)

-- the command writes binary to the standard output, and that is not forced
abbrev pub is_binary_stream : CommandLine → Bool
is_binary_stream line = writes_binary line.command && is_none (name_of line.names.destination) && not line.force

-- the command, with the files of these names, is what the arguments ask for; a text that is shown has a byte at least,
-- and no file is named with it
abbrev pub IsCommand : List Text → Names → Command → Type 0
IsCommand words names (commands.Help text) =
    IsWrong words DisplayHelp × (asks_for_help words ≡ true) × (0 < string_len text) × (names ≡ no_names)
IsCommand words names (commands.Version text) =
    IsWrong words DisplayVersion × (asks_for_version words ≡ true) × (0 < string_len text)
    × (string_bytes text ≡ version_text) × (names ≡ no_names)
IsCommand words names command = command_of words ≡ Some (asks (files_of names) command)

-- the arguments are refused for this reason, which has words
abbrev pub IsUsage : List Text → Usage → Type 0
IsUsage words usage.OutOfMemory = ⊤
IsUsage words (usage.Words text) =
    (kind : ErrorKind) × IsWrong words kind × (kind ≡ DisplayHelp → asks_for_help words ≡ false)
    × (kind ≡ DisplayVersion → asks_for_version words ≡ false) × (0 < string_len text)
IsUsage words reason = command_of words ≡ Some (refused reason)

-- A map is kept in binary, of the whole circuit that was read with all its gates, or not at all.
abbrev pub IsKeptAlone : ToAig → Type 0
IsKeptAlone request =
    request.keep_map ≡ true → (request.ascii ≡ false) × (request.strip ≡ false) × (request.undo_map ≡ false)
    × (request.simplify ≡ false)

-- What is no bad state in the source becomes one without a map, which does not tell what it was.
abbrev pub IsWithoutMap : ToAig → Type 0
IsWithoutMap request = request.bad_states ≢ Kept → (request.keep_map ≡ false) × (request.undo_map ≡ false)

-- The standard input gives the model, or the file after it, or neither, but never both.
abbrev pub HasOneStandardInput : Names → Type 0
HasOneStandardInput names = name_of names.model ≡ None → name_of names.file ≡ None → ⊥

-- A witness is judged without a batch, and without properties in a trace.
abbrev pub IsWitnessAlone : Sim → Type 0
IsWitnessAlone request = request.witness ≡ true → (request.batch ≡ false) × (request.properties ≡ false)

-- A dump always has the properties.
abbrev pub IsDumpAlone : Sim → Type 0
IsDumpAlone request = request.vcd ≡ true → request.properties ≡ false

-- A circuit is unrolled over one frame or more, and not over too many.
abbrev pub HasFrames : Unroll → Type 0
HasFrames request = (1 ≤ request.frames) × (request.frames ≤ most_frames)

-- What a solver wrote is on a circuit that was unrolled over one frame or more, and not over too many.
abbrev pub CanReach : Reach → Type 0
CanReach request = (1 ≤ request.frames) × (request.frames ≤ most_frames)

-- Where a refutation is checked that comes from the standard input, the model and the invariant do not.
abbrev pub IsRefutationApart : Names → Invariant → Type 0
IsRefutationApart names request = request.refuted ≡ true → name_of names.refutation ≡ None
    → (name_of names.model ≢ None) × (name_of names.file ≢ None)

-- No refutation is named where none is checked.
abbrev pub IsNamedToBeChecked : Names → Invariant → Type 0
IsNamedToBeChecked names request = request.refuted ≡ false → name_of names.refutation ≡ None

-- The files of an invariant are apart, and there are none that are not read.
abbrev pub CanProve : Names → Invariant → Type 0
CanProve names request =
    HasOneStandardInput names × IsRefutationApart names request × IsNamedToBeChecked names request

-- A selection is of something.
abbrev pub IsSomeChosen : Select → Type 0
IsSomeChosen request = is_empty request ≡ false

-- More than a step is drawn of a cone alone.
abbrev pub IsOfCone : ToDot → Type 0
IsOfCone request = request.all_steps ≡ true → request.cone ≢ None

-- what the command asks for can be done with the files of these names
abbrev pub CanDo : Names → Command → Type 0
CanDo names (commands.ToAig request) = IsKeptAlone request × IsWithoutMap request
CanDo names (commands.Sim request) = HasOneStandardInput names × IsWitnessAlone request × IsDumpAlone request
CanDo names (commands.Unroll request) = HasFrames request
CanDo names (commands.Reach request) = HasOneStandardInput names × CanReach request
CanDo names (commands.Invariant request) = CanProve names request
CanDo names (commands.Miter request) = HasOneStandardInput names
CanDo names (commands.Info request) = ⊤
CanDo names (commands.Select request) = IsSomeChosen request
CanDo names (commands.ToDot request) = IsOfCone request
CanDo names (commands.Help text) = ⊤
CanDo names (commands.Version text) = ⊤

-- What is answered where `clap` answers with an error of this kind. Only private functions cite it.
abbrev pub IsErrorAnswer : ErrorKind → List Text → Result Command Usage → Type 0
IsErrorAnswer kind words (Ok (commands.Help text)) =
    (kind ≡ DisplayHelp) × (asks_for_help words ≡ true) × (0 < string_len text)
IsErrorAnswer kind words (Ok (commands.Version text)) =
    (kind ≡ DisplayVersion) × (asks_for_version words ≡ true) × (0 < string_len text)
    × (string_bytes text ≡ version_text)
IsErrorAnswer kind words (Err usage.OutOfMemory) = ⊤
IsErrorAnswer kind words (Err (usage.Words text)) =
    (kind ≢ OutOfMemory) × (kind ≡ DisplayHelp → asks_for_help words ≡ false)
    × (kind ≡ DisplayVersion → asks_for_version words ≡ false) × (0 < string_len text)
IsErrorAnswer kind words answer = ⊥

-- What is answered to arguments that ask for this. Only private functions cite it.
abbrev pub IsAnswer : Asked → Result (Names × Command) Usage → Type 0
IsAnswer asked (Ok (names, commands.Help text)) = ⊥
IsAnswer asked (Ok (names, commands.Version text)) = ⊥
IsAnswer asked (Ok (names, command)) = asked ≡ asks (files_of names) command
IsAnswer asked (Err usage.OutOfMemory) = ⊤
IsAnswer asked (Err (usage.Words text)) = ⊥
IsAnswer asked (Err reason) = asked ≡ refused reason

-- `clap` takes the arguments, and they are refused for this reason. Only private functions cite it.
abbrev pub IsReason : Usage → Type 0
IsReason usage.OutOfMemory = ⊥
IsReason (usage.Words text) = ⊥
IsReason reason = ⊤
