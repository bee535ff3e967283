-- What a miter that was written says of the two circuits that were read.
use Rattle.std.specs.Prelude.{◌≡◌, ◌+◌, ℕ, List, false}
use Rattle.aig_circuit.specs.declared.circuit.Circuit.{Circuit}
use Rattle.aig_circuit.specs.declared.circuit.TheConstants.{LARGEST}
use Rattle.aig_command.specs.declared.request.Invariant.{Invariant}
use Rattle.aig_command.specs.declared.request.Miter.{Miter}
use Rattle.aig_command.specs.declared.request.Property.TheVariants.{AnyBad}
use Rattle.aig_command.specs.declared.request.Reach.{Reach}
use Rattle.aig_command.specs.declared.request.Sim.{Sim}
use Rattle.aig_equal.specs.Alike.{AreAlike, AreAlikeFor}
use Rattle.aig_meaning.specs.Meaning.{MeansTheSame}
use Rattle.aig_verdicts.specs.declared.verdict.WitnessVerdict.TheVariants.{BadState}
use Rattle.aig_witness.specs.declared.verdict.Verdict.TheVariants.{Confirmed}
use Rattle.aig_commands.specs.Comparing.{IsFirst, IsMiterText}
use Rattle.aig_commands.specs.File.{IsFileOf}
use Rattle.aig_commands.specs.Proving.{IsInvariantModel, IsNeverText, IsStrengthened}
use Rattle.aig_commands.specs.Reaching.{IsSelectedModel}
use Rattle.aig_commands.specs.Refuting.{IsNoneText}
use Rattle.aig_commands.specs.WitnessOutcome.{IsWitnessAnswer}

-- two files have one miter text at most, unless it is simplified
abbrev pub MiterTextsAreUnambiguous : Type 0
MiterTextsAreUnambiguous = (request : Miter) (first again : Circuit) (one two text other : List ℕ)
    → request.simplify ≡ false → IsFirst request one first → IsFirst request one again
    → IsMiterText request first two text
    → IsMiterText request again two other → text ≡ other

-- which is the file of one circuit, and that means what the miter does
abbrev pub MiterTextsAreFiles : Type 0
MiterTextsAreFiles = (request : Miter) (first : Circuit) (one two text : List ℕ) → IsFirst request one first
    → (p : IsMiterText request first two text) → (d : Circuit) × IsFileOf text LARGEST d × MeansTheSame p.made d

-- Where it is written of this file that nothing is reached within so many frames, the circuits are alike for so many
-- steps.
abbrev pub NoneMeansAlike : Type 0
NoneMeansAlike = (request : Miter) (reach : Reach) (first selected : Circuit) (one two text said : List ℕ)
    → IsFirst request one first → (p : IsMiterText request first two text) → reach.max_var ≡ LARGEST
    → reach.property ≡ AnyBad → IsSelectedModel reach text selected → IsNoneText reach selected said
    → AreAlikeFor reach.frames first p.is_made.paired

-- Where it is written that nothing ever is, by whatever invariant, they are alike at every step.
abbrev pub NeverMeansAlike : Type 0
NeverMeansAlike = (request : Miter) (proving : Invariant) (first selected strengthened : Circuit)
    (one two text invariant said : List ℕ) → IsFirst request one first → (p : IsMiterText request first two text)
    → proving.max_var ≡ LARGEST → proving.property ≡ AnyBad → IsInvariantModel proving text selected
    → IsStrengthened selected invariant strengthened → IsNeverText proving strengthened said
    → AreAlike first p.is_made.paired

-- Where a witness of it is confirmed, they are not.
abbrev pub ConfirmedMeansDifferent : Type 0
ConfirmedMeansDifferent = (request : Miter) (judging : Sim) (first : Circuit) (one two text witness : List ℕ) (step : ℕ)
    → IsFirst request one first → (p : IsMiterText request first two text) → judging.max_var ≡ LARGEST
    → IsWitnessAnswer judging text witness (BadState (Confirmed step)) → ¬ AreAlikeFor (step + 1) first p.is_made.paired
