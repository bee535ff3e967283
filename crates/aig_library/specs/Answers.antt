-- What a call answers (this project's interface for C).
use Rattle.std.specs.Prelude.{◌≡◌, ◌≤◌, ◌⊎◌, ℕ, List, false, true, ⊤}
use Rattle.aig_circuit.specs.declared.circuit.Circuit.{Circuit}
use Rattle.aig_command.specs.Aiger.{largest_index}
use Rattle.aig_command.specs.declared.request.Invariant.{Invariant}
use Rattle.aig_command.specs.declared.request.Miter.{Miter}
use Rattle.aig_command.specs.declared.request.Reach.{Reach}
use Rattle.aig_command.specs.declared.request.Sim.{Sim}
use Rattle.aig_command.specs.declared.request.SolverFile.TheVariants.{Answer, Refutation}
use Rattle.aig_claims.specs.RunDump.{IsUndumped}
use Rattle.aig_lasso.specs.declared.verdict.LassoVerdict.TheVariants as lassos
use Rattle.aig_verdicts.specs.Judged.{IsUnjudged}
use Rattle.aig_verdicts.specs.declared.verdict.WitnessVerdict.{WitnessVerdict}
use Rattle.aig_verdicts.specs.declared.verdict.WitnessVerdict.TheVariants.{BadState, Justice}
use Rattle.aig_witness.specs.declared.verdict.Verdict.TheVariants.{Confirmed, NotConfirmed}
use Rattle.aig_dump.specs.InMemory.{IsBadStimulus}
use Rattle.aig_fault.specs.declared.fault.Fault.{Fault}
use Rattle.aig_fault.specs.declared.stopped.Stopped.TheVariants as stops
use Rattle.aig_commands.specs.Comparing.{IsFirst, IsMiterText, NotFirst, NotMiter}
use Rattle.aig_commands.specs.Conversion.{IsConversionRefused, IsConversionText}
use Rattle.aig_commands.specs.File.{IsFileOf}
use Rattle.aig_commands.specs.Proving.{IsInvariantModel, IsInvariantText, IsStrengthened, NoRunHas, NotInvariantModel}
use Rattle.aig_commands.specs.Proving.{NotStrengthened, over_one_frame}
use Rattle.aig_commands.specs.Reaching.{IsModelRefused, IsReachRefused, IsReachText, IsSelectedModel}
use Rattle.aig_commands.specs.Reading.{IsUnreadable}
use Rattle.aig_commands.specs.Refuting.{NoRunHasWithin, NotRefuted}
use Rattle.aig_commands.specs.Simulation.{IsWrittenText}
use Rattle.aig_commands.specs.Unrolling.{IsUnrollingRefused, IsUnrollingText}
use Rattle.aig_commands.specs.WitnessDump.{IsWitnessDumpText}
use Rattle.aig_commands.specs.WitnessOutcome.{IsWitnessAnswer}
use Rattle.aig_library.specs.Asked.{CanCompare, CanConvert, CanProve, CanReach, CanSimulate, CanTurnJustice, CanUnroll}
use Rattle.aig_library.specs.Asked.{clauses}
use Rattle.aig_library.specs.Asked.{comparison, conversion, justice_conversion, proving}
use Rattle.aig_library.specs.Asked.{reaching, simulation, unrolling}
use Rattle.aig_library.specs.Numbers as numbers
use Rattle.aig_library.specs.Outcome.{IsPlaced, IsPlacedAs, ending, fault_outcome, out_of_memory, second_outcome}
use Rattle.aig_library.specs.declared.outcome.Outcome.{Outcome}

-- the input is refused with a fault, and the outcome tells it
pub record Refused (IsFault : Fault → Type 0) (outcome : Outcome) : Type 0 where
  pub fault : Fault
  pub is_fault : IsFault fault
  pub told : outcome ≡ fault_outcome fault

-- What a call answers. Its numbers cannot be met; or they can, and it is done; or the input is refused, or memory was.
-- Unless it is done, this is kept.
abbrev pub Answers : (CanDo IsDone : Type 0) → (Fault → Type 0) → (IsKept : Type 0) → Outcome → Type 0
Answers CanDo IsDone IsFault IsKept outcome =
    ((¬ CanDo) × IsKept × (outcome ≡ ending numbers.bad_options 0 0))
    ⊎ (CanDo × (IsDone ⊎ (IsKept × (Refused IsFault outcome ⊎ (outcome ≡ out_of_memory)))))

-- there is a text, and it is put into the output where there is room for it
pub record Made (IsText : List ℕ → Type 0) (before after : List ℕ) (outcome : Outcome) : Type 0 where
  pub text : List ℕ
  pub is_text : IsText text
  pub placed : IsPlaced text before after outcome

-- What a call answers that makes a text. Without a text the output is as it was.
abbrev pub TextAnswers : Type 0 → (List ℕ → Type 0) → (Fault → Type 0) → (before after : List ℕ) → Outcome → Type 0
TextAnswers CanDo IsText IsFault before after outcome =
    Answers CanDo (Made IsText before after outcome) IsFault (after ≡ before) outcome

-- What a call answers that shows something, and makes no text.
abbrev pub ShowAnswers : (CanDo IsShown : Type 0) → (Fault → Type 0) → Outcome → Type 0
ShowAnswers CanDo IsShown IsFault outcome =
    Answers CanDo (IsShown × (outcome ≡ ending numbers.done 0 0)) IsFault ⊤ outcome

abbrev pub ConvertAnswers : (options max_var : ℕ) (input before after : List ℕ) → Outcome → Type 0
ConvertAnswers options max_var input =
    let request = conversion options max_var in
    TextAnswers (CanConvert options max_var) (IsConversionText request input)
    (λ fault. IsConversionRefused request fault input)

abbrev pub JusticeAnswers : (options property max_var : ℕ) (input before after : List ℕ) → Outcome → Type 0
JusticeAnswers options property max_var input =
    let request = justice_conversion options property max_var in
    TextAnswers (CanTurnJustice options max_var) (IsConversionText request input)
    (λ fault. IsConversionRefused request fault input)

abbrev pub UnrollAnswers : (options frames max_var : ℕ) (input before after : List ℕ) → Outcome → Type 0
UnrollAnswers options frames max_var input =
    let request = unrolling options frames max_var in
    TextAnswers (CanUnroll options frames max_var) (IsUnrollingText request input)
    (λ fault. IsUnrollingRefused request fault input)

abbrev pub ClausesAnswers : (property frames max_var : ℕ) (input before after : List ℕ) → Outcome → Type 0
ClausesAnswers property frames max_var input =
    let request = clauses property frames max_var in
    TextAnswers (CanReach frames max_var) (IsUnrollingText request input)
    (λ fault. IsUnrollingRefused request fault input)

-- The witness that is written for a model and a solver's answer.
pub record IsAnswerText (request : Reach) (model answer text : List ℕ) : Type 0 where
  pub selected : Circuit
  pub is_model : IsSelectedModel request model selected
  pub is_text : IsReachText request selected answer text

-- There is no witness for this reason: the model has no clauses, or the answer gives none.
abbrev pub IsAnswerRefused : Reach → (model answer : List ℕ) → Fault → Type 0
IsAnswerRefused request model answer fault =
    IsModelRefused request fault model
    ⊎ ((selected : Circuit) × IsSelectedModel request model selected × IsReachRefused request selected fault answer)

abbrev pub ReachAnswers : (property frames max_var : ℕ) (model answer before after : List ℕ) → Outcome → Type 0
ReachAnswers property frames max_var model answer =
    let request = reaching Answer property frames max_var in
    TextAnswers (CanReach frames max_var) (IsAnswerText request model answer) (IsAnswerRefused request model answer)

-- No claim of the model, of the selected bad state, is confirmed within so many frames.
pub record IsNoneWithinModel (request : Reach) (model : List ℕ) : Type 0 where
  pub selected : Circuit
  pub is_model : IsSelectedModel request model selected
  pub none : NoRunHasWithin is_model.has_clauses.found request.property request.frames

-- That is not known for this reason: the model has no clauses, or the refutation does not show it.
abbrev pub IsNoneRefused : Reach → (model refutation : List ℕ) → Fault → Type 0
IsNoneRefused request model refutation fault =
    IsModelRefused request fault model
    ⊎ ((selected : Circuit) × IsSelectedModel request model selected
    × NotRefuted request selected refutation fault)

abbrev pub RefuteAnswers : (property frames max_var : ℕ) (model refutation : List ℕ) → Outcome → Type 0
RefuteAnswers property frames max_var model refutation =
    let request = reaching Refutation property frames max_var in
    ShowAnswers (CanReach frames max_var) (IsNoneWithinModel request model)
    (IsNoneRefused request model refutation)

-- The clauses that are written for a model and an invariant: those in which it is to be shown.
pub record IsProvingText (request : Invariant) (model invariant text : List ℕ) : Type 0 where
  pub selected : Circuit
  pub is_model : IsInvariantModel request model selected
  pub is_text : IsInvariantText request selected invariant text

-- There are no such clauses for this reason: the model has none, or the invariant is not one of it.
abbrev pub IsProvingRefused : Invariant → (model invariant : List ℕ) → Fault → Type 0
IsProvingRefused request model invariant fault =
    NotInvariantModel request fault model
    ⊎ ((selected : Circuit) × IsInvariantModel request model selected × NotStrengthened selected fault invariant)

abbrev pub InvariantAnswers : (property max_var : ℕ) (model invariant before after : List ℕ) → Outcome → Type 0
InvariantAnswers property max_var model invariant =
    let request = proving false property max_var in
    TextAnswers (CanProve max_var) (IsProvingText request model invariant)
    (IsProvingRefused request model invariant)

-- No claim of the model, of the selected bad state, is ever confirmed.
pub record IsNeverOfModel (request : Invariant) (model invariant : List ℕ) : Type 0 where
  pub selected : Circuit
  pub strengthened : Circuit
  pub is_model : IsInvariantModel request model selected
  pub is_strengthened : IsStrengthened selected invariant strengthened
  pub never : NoRunHas is_model.has_clauses.found request.property

-- That is not known for this reason: there are no clauses, or the refutation does not show it.
abbrev pub IsNeverRefused : Invariant → (model invariant refutation : List ℕ) → Fault → Type 0
IsNeverRefused request model invariant refutation fault =
    IsProvingRefused request model invariant fault
    ⊎ ((selected strengthened : Circuit) × IsInvariantModel request model selected
    × IsStrengthened selected invariant strengthened
    × NotRefuted (over_one_frame request) strengthened refutation fault)

abbrev pub NeverAnswers : (property max_var : ℕ) (model invariant refutation : List ℕ) → Outcome → Type 0
NeverAnswers property max_var model invariant refutation =
    let request = proving true property max_var in
    ShowAnswers (CanProve max_var) (IsNeverOfModel request model invariant)
    (IsNeverRefused request model invariant refutation)

-- The miter that is written for two circuits.
pub record IsComparedText (request : Miter) (one two text : List ℕ) : Type 0 where
  pub first : Circuit
  pub is_first : IsFirst request one first
  pub is_text : IsMiterText request first two text

-- The first can be compared, and the second not with it, for a reason that the outcome tells.
pub record SecondRefused (request : Miter) (one two : List ℕ) (outcome : Outcome) : Type 0 where
  pub first : Circuit
  pub fault : Fault
  pub is_first : IsFirst request one first
  pub is_fault : NotMiter request first fault two
  pub told : outcome ≡ second_outcome (stops.Refused fault)

-- What a call answers that makes a miter: as others that make a text, or that the second circuit is refused.
abbrev pub MiterAnswers : (options max_var : ℕ) (one two before after : List ℕ) → Outcome → Type 0
MiterAnswers options max_var one two before after outcome =
    let request = comparison options max_var in
    TextAnswers (CanCompare options max_var) (IsComparedText request one two) (λ fault. NotFirst request fault one)
    before after outcome
    ⊎ (CanCompare options max_var × (after ≡ before) × SecondRefused request one two outcome)

-- The model has no trace of the stimulus for this reason: it is no file of a circuit, or a line of the stimulus is bad.
abbrev pub IsSimulationRefused : Sim → (model stimulus : List ℕ) → Fault → Type 0
IsSimulationRefused request model stimulus fault =
    IsUnreadable request.max_var fault model
    ⊎ ((found : Circuit) × IsFileOf model request.max_var found × IsBadStimulus found stimulus fault)

abbrev pub SimulateAnswers : (options max_var : ℕ) (model stimulus before after : List ℕ) → Outcome → Type 0
SimulateAnswers options max_var model stimulus =
    let request = simulation options max_var in
    TextAnswers (CanSimulate options max_var) (IsWrittenText request model stimulus)
    (IsSimulationRefused request model stimulus)

-- A witness file has no verdict for this reason.
abbrev pub IsWitnessRefused : Sim → (model witness : List ℕ) → Fault → Type 0
IsWitnessRefused request model witness fault =
    IsUnreadable request.max_var fault model
    ⊎ ((found : Circuit) × IsFileOf model request.max_var found × IsUnjudged found witness fault)

-- it has no dump for this reason
abbrev pub IsDumpRefused : Sim → (model witness : List ℕ) → Fault → Type 0
IsDumpRefused request model witness fault =
    IsUnreadable request.max_var fault model
    ⊎ ((found : Circuit) × IsFileOf model request.max_var found × IsUndumped found witness fault)

-- the outcome of a verdict, with a text of so many bytes
abbrev pub verdict_outcome : WitnessVerdict → (length : ℕ) → Outcome
verdict_outcome (BadState (Confirmed step)) length = ending numbers.done step length
verdict_outcome (BadState NotConfirmed) length = ending numbers.not_confirmed 0 length
verdict_outcome (Justice (lassos.Confirmed start)) length = ending numbers.done start length
verdict_outcome (Justice lassos.NotConfirmed) length = ending numbers.not_confirmed 0 length

abbrev pub WitnessAnswers : (max_var : ℕ) (model witness : List ℕ) → Outcome → Type 0
WitnessAnswers max_var model witness outcome =
    let request = simulation 0 max_var in
    Answers (max_var ≤ largest_index)
    ((verdict : WitnessVerdict) × IsWitnessAnswer request model witness verdict × (outcome ≡ verdict_outcome verdict 0))
    (IsWitnessRefused request model witness) ⊤ outcome

-- there is a verdict and a dump, which is put into the output where there is room for it; then the outcome tells both
pub record Dumped (request : Sim) (model witness before after : List ℕ) (outcome : Outcome) : Type 0 where
  pub verdict : WitnessVerdict
  pub text : List ℕ
  pub is_dump : IsWitnessDumpText request model witness verdict text
  pub placed : IsPlacedAs (verdict_outcome verdict) text before after outcome

-- There is a dump where there is a verdict, and a variable is left for the mark of a loop. Without a dump the output is
-- as it was.
abbrev pub DumpAnswers : (max_var : ℕ) (model witness before after : List ℕ) → Outcome → Type 0
DumpAnswers max_var model witness before after outcome =
    let request = simulation 0 max_var in
    Answers (max_var ≤ largest_index) (Dumped request model witness before after outcome)
    (IsDumpRefused request model witness) (after ≡ before) outcome
