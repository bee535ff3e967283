-- What the numbers ask for that a call is given (this project's interface for C). Each option is a bit.
use Rattle.std.specs.Prelude.{◌≡◌, ◌≤◌, ◌==◌, ◌+◌, ◌-◌, ℕ, Bool, true, false, not, bit_and, bit_or, nat_le}
use Rattle.std.specs.Prelude.{if◌then◌else◌}
use Rattle.aig_command.specs.Aiger.{largest_index, most_frames}
use Rattle.aig_command.specs.Answer.{HasFrames, IsDumpAlone, IsKeptAlone, IsWithoutMap}
use Rattle.aig_command.specs.declared.request.BadStates.TheVariants.{Justice, Kept, Outputs}
use Rattle.aig_command.specs.declared.request.Invariant.{Invariant}
use Rattle.aig_command.specs.declared.request.Miter.{Miter}
use Rattle.aig_command.specs.declared.request.Property.{Property}
use Rattle.aig_command.specs.declared.request.Property.TheVariants.{AnyBad, Bad}
use Rattle.aig_command.specs.declared.request.Property.TheVariants as properties
use Rattle.aig_command.specs.declared.request.Reach.{Reach}
use Rattle.aig_command.specs.declared.request.SolverFile.{SolverFile}
use Rattle.aig_command.specs.declared.request.Sim.{Sim}
use Rattle.aig_command.specs.declared.request.ToAig.{ToAig}
use Rattle.aig_command.specs.declared.request.Unroll.{Unroll}
use Rattle.aig_command.specs.declared.request.UnrolledForm.TheVariants.{Ascii, Binary, Clauses}
use Rattle.aig_library.specs.Numbers as numbers

-- the option is among the options
abbrev pub has : ℕ → ℕ → Bool
has options option = not (bit_and options option == 0)

-- no option is given but those that are known
abbrev pub OnlyHas : ℕ → ℕ → Type 0
OnlyHas options known = bit_or options known ≡ known

abbrev pub conversion : (options max_var : ℕ) → ToAig
conversion options max_var = record {
  ascii = has options numbers.ascii;
  strip = has options numbers.strip;
  keep_map = has options numbers.keep_map;
  undo_map = has options numbers.undo_map;
  bad_states = if has options numbers.outputs_as_bad then Outputs else Kept;
  simplify = has options numbers.simplify;
  max_var = max_var;
}

-- a conversion in which the justice property of this number becomes a bad state
abbrev pub justice_conversion : (options property max_var : ℕ) → ToAig
justice_conversion options property max_var = record {
  ascii = has options numbers.ascii;
  strip = has options numbers.strip;
  keep_map = false;
  undo_map = false;
  bad_states = Justice property;
  simplify = has options numbers.simplify;
  max_var = max_var;
}

abbrev pub unrolling : (options frames max_var : ℕ) → Unroll
unrolling options frames max_var = record {
  frames = frames;
  form = if has options numbers.ascii then Ascii else Binary;
  simplify = has options numbers.simplify;
  max_var = max_var;
}

-- the limit of a call for clauses, and whether they are those of the simplified circuit
abbrev pub limit_of : ℕ → ℕ
limit_of max_var = if nat_le numbers.simplified max_var then max_var - numbers.simplified else max_var

abbrev pub simplifies : ℕ → Bool
simplifies max_var = nat_le numbers.simplified max_var

-- the property of this number: all bad states, a justice property, or one bad state
abbrev pub selected : ℕ → Property
selected property =
    if property == numbers.all_bad then AnyBad
    else if nat_le numbers.justice property then properties.Justice (property - numbers.justice)
    else Bad property

abbrev pub clauses : (property frames max_var : ℕ) → Unroll
clauses property frames max_var = record {
  frames = frames;
  form = Clauses (selected property);
  simplify = simplifies max_var;
  max_var = limit_of max_var;
}

abbrev pub reaching : SolverFile → (property frames max_var : ℕ) → Reach
reaching wrote property frames max_var = record {
  frames = frames;
  property = selected property;
  max_var = limit_of max_var;
  wrote = wrote;
  lrat = false;
  simplify = simplifies max_var;
}

-- an invariant: its clauses, or that a refutation of them is right
abbrev pub proving : (refuted : Bool) (property max_var : ℕ) → Invariant
proving refuted property max_var = record {
  property = selected property;
  max_var = limit_of max_var;
  refuted = refuted;
  lrat = false;
  simplify = simplifies max_var;
}

abbrev pub comparison : (options max_var : ℕ) → Miter
comparison options max_var = record {
  ascii = has options numbers.ascii;
  by_name = has options numbers.by_name;
  simplify = has options numbers.simplify;
  max_var = max_var;
}

abbrev pub simulation : (options max_var : ℕ) → Sim
simulation options max_var = record {
  batch = true;
  properties = has options numbers.properties;
  witness = false;
  vcd = has options numbers.vcd;
  max_var = max_var;
}

-- Which numbers can be met: only known options are given, the limit is at most the largest index, a map is kept in
-- binary and alone, outputs and justice properties become bad states without a map, there are as many frames as can be
-- unrolled, also for clauses and what is written on them, and a dump is asked for without the properties. Arrays are read
-- with one option, and written with one.
abbrev pub CanConvert : (options max_var : ℕ) → Type 0
CanConvert options max_var =
    OnlyHas options
    (numbers.ascii + numbers.strip + numbers.keep_map + numbers.undo_map + numbers.outputs_as_bad + numbers.simplify)
    × (max_var ≤ largest_index) × IsKeptAlone (conversion options max_var) × IsWithoutMap (conversion options max_var)

abbrev pub CanTurnJustice : (options max_var : ℕ) → Type 0
CanTurnJustice options max_var =
    OnlyHas options (numbers.ascii + numbers.strip + numbers.simplify) × (max_var ≤ largest_index)

abbrev pub CanUnroll : (options frames max_var : ℕ) → Type 0
CanUnroll options frames max_var =
    OnlyHas options (numbers.ascii + numbers.simplify) × (max_var ≤ largest_index)
    × HasFrames (unrolling options frames max_var)

abbrev pub CanReach : (frames max_var : ℕ) → Type 0
CanReach frames max_var = (1 ≤ frames) × (frames ≤ most_frames) × (limit_of max_var ≤ largest_index)

abbrev pub CanProve : (max_var : ℕ) → Type 0
CanProve max_var = limit_of max_var ≤ largest_index

abbrev pub CanCompare : (options max_var : ℕ) → Type 0
CanCompare options max_var =
    OnlyHas options (numbers.ascii + numbers.by_name + numbers.simplify) × (max_var ≤ largest_index)

abbrev pub CanRead : (options max_var : ℕ) → Type 0
CanRead options max_var = OnlyHas options numbers.ordered × (max_var ≤ largest_index)

abbrev pub CanWrite : (options : ℕ) → Type 0
CanWrite options = OnlyHas options numbers.ascii

abbrev pub CanSimulate : (options max_var : ℕ) → Type 0
CanSimulate options max_var =
    OnlyHas options (numbers.properties + numbers.vcd) × (max_var ≤ largest_index)
    × IsDumpAlone (simulation options max_var)
