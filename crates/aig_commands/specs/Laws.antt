-- What the definitions of this crate say of one another.
use Rattle.std.specs.Prelude.{◌≡◌, ◌⊎◌, ◌↔◌, ◌<◌, ◌+◌, ◌*◌, ℕ, List, [], ◌∷◌, None, Some, Ok, true, false, length}
use Rattle.std.specs.Prelude.{◌≤◌, ◌-◌, ◌==◌, Bool, map, Option, not, slice_index_or, take, ⊤}
use Rattle.std.specs.List.{AllByRecursion, list_any}
use Rattle.aig_answer.specs.declared.reader.Signed.{Signed}
use Rattle.aig_answer.specs.AnswerText.{AreComments, AreValues, IsLine, Line, all_values, answer_text}
use Rattle.aig_cnf.specs.Clauses.{Satisfies}
use Rattle.aig_circuit.specs.declared.circuit.TheConstants.{LARGEST}
use Rattle.aig_circuit.specs.Wellformed.{IsWellFormed}
use Rattle.aig_text.specs.AsciiText.{ascii_text}
use Rattle.aig_text.specs.AsciiGrammar.{IsAsciiText}
use Rattle.aig_checked.specs.BinaryOrder.{IsInBinaryOrder}
use Rattle.aig_binary.specs.BinaryText.{binary_text}
use Rattle.aig_circuit.specs.declared.circuit.Circuit.{Circuit}
use Rattle.aig_fault.specs.declared.fault.Fault.{Fault}
use Rattle.aig_map.specs.Undone.{IsMapFault}
use Rattle.aig_command.specs.declared.request.Sim.{Sim}
use Rattle.aig_command.specs.declared.request.BadStates.TheVariants.{Kept, Outputs}
use Rattle.aig_command.specs.declared.request.ToAig.{ToAig}
use Rattle.aig_command.specs.declared.request.Invariant.{Invariant}
use Rattle.aig_command.specs.declared.request.Reach.{Reach}
use Rattle.aig_command.specs.declared.request.Unroll.{Unroll}
use Rattle.aig_command.specs.declared.request.UnrolledForm.{UnrolledForm}
use Rattle.aig_command.specs.declared.request.UnrolledForm.TheVariants.{Ascii, Binary, Clauses}
use Rattle.aig_replay.specs.Laws.{IsOfSelected}
use Rattle.aig_meaning.specs.Meaning.{MeansTheSame, Row}
use Rattle.aig_reduce.specs.Reduced.{IsReducedIf}
use Rattle.aig_simplify.specs.Simplified.{IsSimplified}
use Rattle.aig_meaning.specs.Trace.{IsTrace}
use Rattle.aig_circuit.specs.declared.value.Val.{Val}
use Rattle.aig_circuit.specs.declared.value.Val.TheVariants.{Zero, One}
use Rattle.aig_witness.specs.declared.verdict.Verdict.{Verdict}
use Rattle.aig_witness.specs.declared.verdict.Verdict.TheVariants.{Confirmed}
use Rattle.aig_step.specs.Outcome.{first_bad_line}
use Rattle.aig_verdicts.specs.Judged.{HasLargeProperty}
use Rattle.aig_verdicts.specs.Kinds.{first_bad_file_line}
use Rattle.aig_verdicts.specs.declared.verdict.WitnessVerdict.{WitnessVerdict}
use Rattle.aig_verdicts.specs.declared.verdict.WitnessVerdict.TheVariants.{BadState, Justice}
use Rattle.aig_lasso.specs.declared.verdict.LassoVerdict.{LassoVerdict}
use Rattle.aig_io.specs.Runs.{AtEnd}
use Rattle.aig_witness.specs.Witness.{Claim, IsFirstConfirmed, IsVerdict, SaysClaim}
use Rattle.aig_unroll.specs.SideBySide.{inputs_side_by_side}
use Rattle.aig_unroll.specs.Unrolled.{IsTooLarge, IsUnrolled, IsUnsupported, all_inputs}
use Rattle.aig_commands.specs.File.{IsFileOf, file_reading, first_fault}
use Rattle.aig_commands.specs.Conversion.{IsConversionText, changed}
use Rattle.aig_commands.specs.OutputsAsBad.{row_with_outputs_as_bad}
use Rattle.aig_commands.specs.Simulation.{IsSimulationText}
use Rattle.aig_commands.specs.Proving.{IsInvariantModel, IsInvariantText, IsNeverText, IsStrengthened}
use Rattle.aig_commands.specs.Property.{HasProperty, bad_property, property_model}
use Rattle.aig_commands.specs.Reaching.{IsReachText, IsSelectedModel}
use Rattle.aig_commands.specs.Refuting.{IsNoneText}
use Rattle.aig_commands.specs.Unrolling.{AreClausesOf, IsUnrollingText, IsWritable, property_of}
use Rattle.aig_commands.specs.WitnessOutcome.{IsWitnessAnswer}

-- what is read of a text is exactly the circuit whose file it is, of either kind
abbrev pub FilesAreReadExactly : Type 0
FilesAreReadExactly = (text : List ℕ) (limit : ℕ) (c : Circuit) → (file_reading limit text ≡ Ok c)
    ↔ IsFileOf text limit c

-- a text is the file of one circuit at most: none is an ASCII file and a binary one
abbrev pub FilesAreUnambiguous : Type 0
FilesAreUnambiguous = (text : List ℕ) (limit : ℕ) (c d : Circuit) → IsFileOf text limit c → IsFileOf text limit d
    → c ≡ d

-- bytes have one conversion text at most, unless it is simplified
abbrev pub ConversionsAreUnambiguous : Type 0
ConversionsAreUnambiguous = (request : ToAig) (bytes text other : List ℕ) → request.simplify ≡ false
    → IsConversionText request bytes text → IsConversionText request bytes other → text ≡ other

-- a model and a stimulus have one simulation text at most
abbrev pub SimulationsAreUnambiguous : Type 0
SimulationsAreUnambiguous = (request : Sim) (model stimulus text other : List ℕ)
    → IsSimulationText request model stimulus text → IsSimulationText request model stimulus other → text ≡ other

-- a model and a witness file have one verdict at most
abbrev pub WitnessAnswersAreUnambiguous : Type 0
WitnessAnswersAreUnambiguous = (request : Sim) (model witness : List ℕ) (verdict other : WitnessVerdict)
    → IsWitnessAnswer request model witness verdict → IsWitnessAnswer request model witness other → verdict ≡ other

-- bytes have one unrolling text at most, unless it is simplified
abbrev pub UnrollingsAreUnambiguous : Type 0
UnrollingsAreUnambiguous = (request : Unroll) (bytes text other : List ℕ) → request.simplify ≡ false
    → IsUnrollingText request bytes text → IsUnrollingText request bytes other → text ≡ other

-- the circuit itself is written, and no clauses
abbrev pub IsOfCircuit : UnrolledForm → Type 0
IsOfCircuit Binary = ⊤
IsOfCircuit Ascii = ⊤
IsOfCircuit (Clauses property) = ⊥

-- an unrolling text of the file of a circuit, other than clauses, is, at the default limit, the file of exactly the
-- unrolled circuit
abbrev pub UnrolledTextsAreFiles : Type 0
UnrolledTextsAreFiles = (request : Unroll) (c d : Circuit) (file text : List ℕ) → IsOfCircuit request.form
    → request.simplify ≡ false → IsFileOf file request.max_var c → IsUnrolled c request.frames d
    → IsUnrollingText request file text
    → (other : Circuit) → IsFileOf text LARGEST other ↔ (other ≡ d)

-- where it is simplified, the file of a circuit that means what the unrolled circuit means
abbrev pub SimplifiedUnrollingsMeanTheSame : Type 0
SimplifiedUnrollingsMeanTheSame = (request : Unroll) (c d : Circuit) (file text : List ℕ) → IsOfCircuit request.form
    → IsFileOf file request.max_var c → IsUnrolled c request.frames d → IsUnrollingText request file text
    → (written : Circuit) × IsFileOf text LARGEST written × MeansTheSame d written

-- every file of a circuit that is supported and not too large to unroll has an unrolling text; and clauses, where it
-- has the property and they can be made
abbrev pub UnrolledTextsExist : Type 0
UnrolledTextsExist = (request : Unroll) (c : Circuit) (file : List ℕ) → request.simplify ≡ false
    → IsFileOf file request.max_var c
    → HasProperty (property_of request.form) c → ¬ IsUnsupported (property_model (property_of request.form) c)
    → ¬ IsTooLarge (property_model (property_of request.form) c) request.frames
    → ((d : Circuit) → IsUnrolled (property_model (property_of request.form) c) request.frames d
    → IsWritable request.form d)
    → (text : List ℕ) × IsUnrollingText request file text

-- a canonical binary file: the canonical text of a well-formed circuit in binary order
abbrev pub IsCanonicalBinary : List ℕ → Type 0
IsCanonicalBinary file = (c : Circuit) × IsWellFormed c × IsInBinaryOrder c × (file ≡ binary_text c)

-- a conversion at the default limit that leaves nothing out, changes no property, and keeps and undoes no record
pub record IsPlain (request : ToAig) : Type 0 where
  pub simplify : request.simplify ≡ false
  pub strip : request.strip ≡ false
  pub keep_map : request.keep_map ≡ false
  pub undo_map : request.undo_map ≡ false
  pub bad_states : request.bad_states ≡ Kept
  pub limit : request.max_var ≡ LARGEST

-- every canonical binary file survives the trip through ASCII byte for byte
abbrev pub BinarySurvivesAscii : Type 0
BinarySurvivesAscii = (there back : ToAig) → IsPlain there → there.ascii ≡ true → IsPlain back → back.ascii ≡ false
    → (file ascii binary : List ℕ) → IsCanonicalBinary file → IsConversionText there file ascii
    → IsConversionText back ascii binary → binary ≡ file

-- a conversion to binary at the default limit that leaves nothing out and keeps the map
pub record KeepsMap (request : ToAig) : Type 0 where
  pub simplify : request.simplify ≡ false
  pub ascii : request.ascii ≡ false
  pub strip : request.strip ≡ false
  pub keep_map : request.keep_map ≡ true
  pub undo_map : request.undo_map ≡ false
  pub bad_states : request.bad_states ≡ Kept
  pub limit : request.max_var ≡ LARGEST

-- a conversion to ASCII at the default limit that leaves nothing out and undoes the map
pub record UndoesMap (request : ToAig) : Type 0 where
  pub simplify : request.simplify ≡ false
  pub ascii : request.ascii ≡ true
  pub strip : request.strip ≡ false
  pub keep_map : request.keep_map ≡ false
  pub undo_map : request.undo_map ≡ true
  pub bad_states : request.bad_states ≡ Kept
  pub limit : request.max_var ≡ LARGEST

-- Of every ASCII file of a circuit, converted to binary with the map and undone, there is the canonical text of that
-- very circuit, which is a file of it, and the file itself where that is canonical.
abbrev pub UndoingGivesAsciiBack : Type 0
UndoingGivesAsciiBack = (there back : ToAig) → KeepsMap there → UndoesMap back
    → (c : Circuit) (file binary ascii : List ℕ) → IsAsciiText file LARGEST c → IsConversionText there file binary
    → IsConversionText back binary ascii
    → (ascii ≡ ascii_text c) × IsAsciiText ascii LARGEST c × (file ≡ ascii_text c → ascii ≡ file)

-- A file and its conversion have the same simulation text of every stimulus, where either has one: whatever the
-- conversion is, at the default limit, to ASCII or to binary, with the map or without, also one that undoes a map,
-- leaves symbols and comment out or simplifies. It only has to keep the outputs outputs. So the same text is written for
-- a file, for what it is converted to, and for what is undone from that.
abbrev pub TracesAreKept : Type 0
TracesAreKept = (request : ToAig) (before after : Sim) → request.bad_states ≡ Kept
    → request.max_var ≡ LARGEST → before.max_var ≡ LARGEST → after.max_var ≡ LARGEST
    → after.properties ≡ before.properties
    → (file converted stimulus text : List ℕ) → IsConversionText request file converted
    → (IsSimulationText before file stimulus text ↔ IsSimulationText after converted stimulus text)
    × ((other : List ℕ)
    → IsSimulationText before file stimulus text → IsSimulationText after converted stimulus other → text ≡ other)

-- A file and its conversion get the same verdict on every witness file, where either gets one: whatever the conversion
-- is, as for simulation texts.
abbrev pub VerdictsAreKept : Type 0
VerdictsAreKept = (request : ToAig) (before after : Sim) → request.bad_states ≡ Kept
    → request.max_var ≡ LARGEST → before.max_var ≡ LARGEST → after.max_var ≡ LARGEST
    → (file converted witness : List ℕ) (verdict : Verdict)
    → IsConversionText request file converted
    → IsWitnessAnswer before file witness (BadState verdict) ↔ IsWitnessAnswer after converted witness (BadState verdict)

-- The same holds of witness files of justice properties, where no map is kept or undone.
abbrev pub JusticeVerdictsAreKept : Type 0
JusticeVerdictsAreKept = (request : ToAig) (before after : Sim) → request.bad_states ≡ Kept
    → request.keep_map ≡ false → request.undo_map ≡ false
    → request.max_var ≡ LARGEST → before.max_var ≡ LARGEST → after.max_var ≡ LARGEST
    → (file converted witness : List ℕ) (verdict : LassoVerdict) → IsConversionText request file converted
    → IsWitnessAnswer before file witness (Justice verdict) ↔ IsWitnessAnswer after converted witness (Justice verdict)

-- Where outputs became bad states, the traces are those of the circuit that was read, step by step with the outputs as
-- bad states: of these first states, these inputs and these rows, and of no others. So the bad states show what the
-- outputs showed.
abbrev pub OutputsAreShownAsBad : Type 0
OutputsAreShownAsBad = (request : ToAig) → request.bad_states ≡ Outputs → request.max_var ≡ LARGEST
    → (file converted : List ℕ) → IsConversionText request file converted
    → (c d : Circuit) → IsFileOf file LARGEST c → IsFileOf converted LARGEST d
    → (first : List Val) (steps : List (List Val)) (rows : List Row)
    → IsTrace d first steps rows
    ↔ ((shown : List Row) × IsTrace c first steps shown × (rows ≡ map row_with_outputs_as_bad shown))

-- What is written of a file with fewer gates is, at the default limit, the file of exactly one circuit, which is what
-- the circuit of the source is simplified to.
abbrev pub SimplifiedTextsAreFiles : Type 0
SimplifiedTextsAreFiles = (request : ToAig) (file converted : List ℕ) → request.simplify ≡ true
    → request.keep_map ≡ false → (p : IsConversionText request file converted)
    → IsSimplified (changed request p.source) p.written
    × ((d : Circuit) → IsFileOf converted LARGEST d ↔ (d ≡ p.written))

-- What a solver's answer shows of a file's conversion is a witness of the file, which is confirmed.
abbrev pub AnswersGoBack : Type 0
AnswersGoBack = (conversion : ToAig) (request : Reach) (bad : Option ℕ) (judging : Sim) (selected : Circuit)
    (file converted answer text : List ℕ) → conversion.bad_states ≡ Kept → conversion.max_var ≡ LARGEST
    → request.max_var ≡ LARGEST → judging.max_var ≡ LARGEST → request.property ≡ bad_property bad
    → IsConversionText conversion file converted → IsSelectedModel request converted selected
    → IsReachText request selected answer text
    → (step : ℕ) × (step < request.frames) × IsWitnessAnswer judging file text (BadState (Confirmed step))

-- Where it is written of a file's conversion that there is none within so many frames, none of the file is confirmed at
-- one of them.
abbrev pub RefutationsGoBack : Type 0
RefutationsGoBack = (conversion : ToAig) (request : Reach) (bad : Option ℕ) (judging : Sim) (selected : Circuit)
    (file converted text witness : List ℕ) (step : ℕ) → conversion.bad_states ≡ Kept → conversion.max_var ≡ LARGEST
    → request.max_var ≡ LARGEST → judging.max_var ≡ LARGEST → request.property ≡ bad_property bad
    → IsConversionText conversion file converted → IsSelectedModel request converted selected
    → IsNoneText request selected text → step < request.frames
    → (confirmed : IsWitnessAnswer judging file witness (BadState (Confirmed step)))
    → ¬ IsOfSelected bad confirmed.claim

-- Where it is written of a file's conversion, by whatever invariant, that none is ever reached, none of the file is
-- ever confirmed.
abbrev pub InvariantsGoBack : Type 0
InvariantsGoBack = (conversion : ToAig) (request : Invariant) (bad : Option ℕ) (judging : Sim)
    (selected strengthened : Circuit) (file converted invariant text witness : List ℕ) (step : ℕ)
    → conversion.bad_states ≡ Kept → conversion.max_var ≡ LARGEST → request.max_var ≡ LARGEST
    → judging.max_var ≡ LARGEST → request.property ≡ bad_property bad → IsConversionText conversion file converted
    → IsInvariantModel request converted selected → IsStrengthened selected invariant strengthened
    → IsNeverText request strengthened text
    → (confirmed : IsWitnessAnswer judging file witness (BadState (Confirmed step)))
    → ¬ IsOfSelected bad confirmed.claim

-- the headline
pub record Headline : Type 0 where
  pub undoing_gives_ascii_back : UndoingGivesAsciiBack
  pub binary_survives_ascii : BinarySurvivesAscii
  pub traces_are_kept : TracesAreKept

-- every file of a circuit, ASCII or binary, has a conversion text with the map, and that has one with the map undone
abbrev pub FilesConvertThereAndBack : Type 0
FilesConvertThereAndBack = (there back : ToAig) → KeepsMap there → UndoesMap back
    → (c : Circuit) (file : List ℕ) → IsFileOf file LARGEST c
    → (binary : List ℕ) × (ascii : List ℕ) × IsConversionText there file binary × IsConversionText back binary ascii

-- every file of a circuit has a simulation text of each stimulus that has no bad line
abbrev pub SimulationTextsExist : Type 0
SimulationTextsExist = (request : Sim) (c : Circuit) (file stimulus : List ℕ) → IsFileOf file request.max_var c
    → first_bad_line c stimulus true ≡ None → (text : List ℕ) × IsSimulationText request file stimulus text

-- Every file of a circuit gets a verdict on each witness file of which no line is wrong or missing, unless that names a
-- justice property of more goals than a circuit may have bad states.
abbrev pub WitnessAnswersExist : Type 0
WitnessAnswersExist = (request : Sim) (c : Circuit) (file witness : List ℕ) → IsFileOf file request.max_var c
    → first_bad_file_line c witness true ≡ None
    → ((verdict : WitnessVerdict) × IsWitnessAnswer request file witness verdict)
    ⊎ ((fault : Fault) × HasLargeProperty c fault witness AtEnd)

-- Each run of a circuit that reaches a bad state, with all constraints kept, is claimed by some witness file. On that,
-- every file of the circuit gets the verdict that it is confirmed, with the number of the first such step.
abbrev pub RightRunsAreConfirmed : Type 0
RightRunsAreConfirmed = (request : Sim) (c : Circuit) (file : List ℕ) (claim : Claim) (rows : List Row) (step : ℕ)
    → IsFileOf file request.max_var c → claim.property < length c.bad → IsTrace c claim.first claim.steps rows
    → IsFirstConfirmed claim.property rows step
    → (witness : List ℕ) × SaysClaim c witness claim × IsWitnessAnswer request file witness (BadState (Confirmed step))

-- every canonical binary file has a conversion text to ASCII, and that has one to binary
abbrev pub BinaryFilesConvertThereAndBack : Type 0
BinaryFilesConvertThereAndBack = (there back : ToAig)
    → IsPlain there → there.ascii ≡ true → IsPlain back → back.ascii ≡ false → (file : List ℕ) → IsCanonicalBinary file
    → (ascii : List ℕ) × (binary : List ℕ) × IsConversionText there file ascii × IsConversionText back ascii binary

-- A text that was converted with the map has no fault, nor has its map, so it is read and undone unless an allocation
-- fails.
abbrev pub MappedTextsHaveNoFault : Type 0
MappedTextsHaveNoFault = (there : ToAig) → KeepsMap there
    → (file binary : List ℕ) → IsConversionText there file binary
    → (first_fault LARGEST binary ≡ None)
    × ((found : Circuit) (fault : Fault) → IsFileOf binary LARGEST found → ¬ IsMapFault found fault)

-- a model and a solver's answer have one witness at most
abbrev pub ReachTextsAreUnambiguous : Type 0
ReachTextsAreUnambiguous = (request : Reach) (selected again : Circuit) (model answer text other : List ℕ)
    → IsSelectedModel request model selected → IsSelectedModel request model again
    → IsReachText request selected answer text → IsReachText request again answer other → text ≡ other

-- The values are those of an assignment, as far as the first so many variables go: each is what the assignment says,
-- and each variable that is true has one. Variable n of a circuit is number n + 1.
pub record AreValuesOf (a : ℕ → Bool) (variables : ℕ) (values : List Signed) : Type 0 where
  pub right : AllByRecursion (λ (value : Signed). value.is_negative ≡ not (a (value.number - 1))) values
  pub listed : (v : ℕ) → 1 ≤ v → v ≤ variables → a v ≡ true
      → list_any (λ (value : Signed). value.number == v + 1) values ≡ true

-- Where an assignment satisfies the clauses that are written of a model, simplified or not, each text of an answer that
-- has its values has a witness: so a right answer is never refused.
abbrev pub RightAnswersHaveWitnesses : Type 0
RightAnswersHaveWitnesses = (request : Reach) (selected : Circuit) (model : List ℕ) (simplify : Bool)
    (written : Circuit) (clauses : List (List ℕ)) (a : ℕ → Bool) (before : List (List ℕ)) (lines : List Line)
    (last : List Signed) (behind : List (List ℕ))
    → (of_model : IsSelectedModel request model selected)
    → IsReducedIf simplify of_model.has_clauses.is_text.unrolled written → AreClausesOf simplify written clauses
    → Satisfies a clauses
    → AreComments before → AllByRecursion IsLine lines → AreValues last → AreComments behind
    → AreValuesOf a (all_inputs selected request.frames) (all_values lines last)
    → (text : List ℕ) × IsReachText request selected (answer_text before lines last behind) text

-- What is written for a model and a solver's answer is a witness file: of the model it is confirmed, at one of the
-- frames, and what it claims is that the selected bad state is reached, if one was selected.
abbrev pub SolverAnswersAreConfirmed : Type 0
SolverAnswersAreConfirmed = (request : Reach) (bad : Option ℕ) (judging : Sim) (selected : Circuit)
    (model answer text : List ℕ) → request.property ≡ bad_property bad → judging.max_var ≡ request.max_var → IsSelectedModel request model selected
    → IsReachText request selected answer text
    → (step : ℕ) × (step < request.frames) × (confirmed : IsWitnessAnswer judging model text (BadState (Confirmed step)))
    × ((number : ℕ) → bad ≡ Some number → confirmed.claim.property ≡ number)

-- Where it is written for a model that there is none, no witness file of the selected bad state, or of any where none
-- is selected, is confirmed of the model at one of the frames, however many steps it has.
abbrev pub RefutationsMeanNone : Type 0
RefutationsMeanNone = (request : Reach) (bad : Option ℕ) (judging : Sim) (selected : Circuit)
    (model text witness : List ℕ) (step : ℕ) → request.property ≡ bad_property bad
    → judging.max_var ≡ request.max_var → IsSelectedModel request model selected → IsNoneText request selected text
    → step < request.frames → (confirmed : IsWitnessAnswer judging model witness (BadState (Confirmed step)))
    → ¬ IsOfSelected bad confirmed.claim

-- a model and an invariant have one text of clauses at most, unless it is simplified
abbrev pub InvariantTextsAreUnambiguous : Type 0
InvariantTextsAreUnambiguous = (request : Invariant) (selected again : Circuit) (model invariant text other : List ℕ)
    → request.simplify ≡ false → IsInvariantModel request model selected → IsInvariantModel request model again
    → IsInvariantText request selected invariant text → IsInvariantText request again invariant other → text ≡ other

-- Where it is written for a model and an invariant that none is ever reached, no witness file of the selected bad
-- state, or of any where none is selected, is confirmed of the model, at whatever step.
abbrev pub NeverIsNever : Type 0
NeverIsNever = (request : Invariant) (bad : Option ℕ) (judging : Sim) (selected strengthened : Circuit)
    (model invariant text witness : List ℕ) (step : ℕ) → request.property ≡ bad_property bad → judging.max_var ≡ request.max_var
    → IsInvariantModel request model selected → IsStrengthened selected invariant strengthened
    → IsNeverText request strengthened text → (confirmed : IsWitnessAnswer judging model witness (BadState (Confirmed step)))
    → ¬ IsOfSelected bad confirmed.claim

-- A witness that is confirmed at a step sets the unrolled circuit of as many frames and one more. Where that is given
-- the first values of the uninitialised latches and then the inputs of the witness's steps, it has exactly one trace,
-- of one row; and there the bad state that stands for the claimed one in the last frame is 1.
abbrev pub ConfirmedWitnessesSetUnrolledCircuits : Type 0
ConfirmedWitnessesSetUnrolledCircuits = (c d : Circuit) (claim : Claim) (step : ℕ)
    → IsWellFormed c → IsWellFormed d → IsUnrolled c (step + 1) d
    → IsVerdict c claim (Confirmed step)
    → (row : Row) × (slice_index_or row.bad (step * length c.bad + claim.property) Zero ≡ One)
    × ((rows : List Row)
    → IsTrace d [] (inputs_side_by_side c claim.first (take (step + 1) claim.steps) ∷ []) rows ↔ (rows ≡ row ∷ []))
