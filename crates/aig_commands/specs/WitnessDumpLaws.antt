-- What the definitions of the dumps of witnesses say of one another.
use Rattle.std.specs.Prelude.{◌≡◌, ◌⊎◌, ◌↔◌, ◌<◌, ℕ, List, false, ⊤}
use Rattle.aig_circuit.specs.declared.circuit.TheConstants.{LARGEST}
use Rattle.aig_command.specs.declared.request.Sim.{Sim}
use Rattle.aig_command.specs.declared.request.BadStates.TheVariants.{Kept}
use Rattle.aig_command.specs.declared.request.ToAig.{ToAig}
use Rattle.aig_verdicts.specs.declared.verdict.WitnessVerdict.{WitnessVerdict}
use Rattle.aig_verdicts.specs.declared.verdict.WitnessVerdict.TheVariants.{BadState, Justice}
use Rattle.aig_witness.specs.declared.verdict.Verdict.{Verdict}
use Rattle.aig_commands.specs.Conversion.{IsConversionText}
use Rattle.aig_commands.specs.WitnessDump.{IsWitnessDumpText}
use Rattle.aig_commands.specs.WitnessOutcome.{IsWitnessAnswer}

abbrev pub IsBadState : WitnessVerdict → Type 0
IsBadState (BadState verdict) = ⊤
IsBadState (Justice verdict) = ⊥

-- Where there is a verdict there is a dump, with this verdict: that a dump is asked for changes none. For the mark of a
-- lasso's loop a variable has to be left.
abbrev pub VerdictsHaveDumps : Type 0
VerdictsHaveDumps = (request : Sim) (model witness : List ℕ) (verdict : WitnessVerdict)
    → (answer : IsWitnessAnswer request model witness verdict)
    → IsBadState verdict ⊎ (answer.found.max_var < LARGEST)
    → (text : List ℕ) × IsWitnessDumpText request model witness verdict text

-- a model and a witness file have one dump at most
abbrev pub WitnessDumpsAreUnambiguous : Type 0
WitnessDumpsAreUnambiguous = (request : Sim) (model witness : List ℕ) (verdict other : WitnessVerdict) (text more : List ℕ)
    → IsWitnessDumpText request model witness verdict text → IsWitnessDumpText request model witness other more
    → text ≡ more

-- A file and its conversion, or what is undone from that, have the same dump of every witness file, where either has
-- one and the symbols are kept.
abbrev pub WitnessDumpsAreKept : Type 0
WitnessDumpsAreKept = (request : ToAig) (before after : Sim) → request.bad_states ≡ Kept
    → request.strip ≡ false → request.max_var ≡ LARGEST
    → before.max_var ≡ LARGEST → after.max_var ≡ LARGEST
    → (file converted witness text : List ℕ) (verdict : Verdict) → IsConversionText request file converted
    → IsWitnessDumpText before file witness (BadState verdict) text
    ↔ IsWitnessDumpText after converted witness (BadState verdict) text
