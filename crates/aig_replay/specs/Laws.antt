-- What the definitions say of one another.
use Rattle.std.specs.Prelude.{◌≡◌, ◌+◌, ◌<◌, ℕ, List, Bool, Option, None, Some, length, take}
use Rattle.aig_circuit.specs.declared.circuit.Circuit.{Circuit}
use Rattle.aig_circuit.specs.declared.value.Val.{Val}
use Rattle.aig_circuit.specs.Wellformed.{IsWellFormed}
use Rattle.aig_cnf.specs.Clauses.{Satisfies, bad_clauses}
use Rattle.aig_meaning.specs.Meaning.{Row}
use Rattle.aig_meaning.specs.Trace.{IsTrace}
use Rattle.aig_reach.specs.Cut.{cut_claim}
use Rattle.aig_unroll.specs.Unrolled.{IsUnrolled}
use Rattle.aig_witness.specs.declared.verdict.Verdict.TheVariants.{Confirmed}
use Rattle.aig_witness.specs.Witness.{Claim, IsConfirmedAt, IsFirstConfirmed, IsVerdict, SaysClaim}
use Rattle.aig_replay.specs.declared.search.Hit.{Hit}
use Rattle.aig_replay.specs.Alone.{HasSelected, selected_of}
use Rattle.aig_replay.specs.Finding.{hit_from}
use Rattle.aig_replay.specs.WitnessLines.{witness_text}

-- what was found is confirmed at its step, and at no earlier one; or nothing is confirmed
abbrev pub IsFoundIn : List Row → Option Hit → Type 0
IsFoundIn rows None = (property step : ℕ) → ¬ IsConfirmedAt property rows step
IsFoundIn rows (Some found) = IsFirstConfirmed found.property rows found.step

abbrev pub FirstIsFound : Type 0
FirstIsFound = (rows : List Row) → IsFoundIn rows (hit_from 0 rows)

-- what a run is claimed to reach where this is found in it: its steps up to that
abbrev pub claim_of : List Val → List (List Val) → Hit → Claim
claim_of first steps found = record { property = found.property; first = first; steps = take (found.step + 1) steps }

-- what is found in a trace is claimed rightly
abbrev pub FoundRunsAreConfirmed : Type 0
FoundRunsAreConfirmed = (c : Circuit) (first : List Val) (steps : List (List Val)) (rows : List Row) (found : Hit)
    → IsTrace c first steps rows → hit_from 0 rows ≡ Some found
    → IsVerdict c (claim_of first steps found) (Confirmed found.step)

-- in the run that an assignment is cut into which satisfies the clauses, something is found
abbrev pub AnswersAreFound : Type 0
AnswersAreFound = (c d : Circuit) (frames : ℕ) (a : ℕ → Bool) (rows : List Row) → IsWellFormed c → IsWellFormed d
    → IsUnrolled c frames d → Satisfies a (bad_clauses d)
    → IsTrace c (cut_claim c frames a 0).first (cut_claim c frames a 0).steps rows
    → (found : Hit) × (hit_from 0 rows ≡ Some found)

-- the witness file that is written of a claim says that claim, if it is of a trace
abbrev pub WitnessTextsSay : Type 0
WitnessTextsSay = (c : Circuit) (claim : Claim) (rows : List Row) → IsWellFormed c → claim.property < length c.bad
    → IsTrace c claim.first claim.steps rows → SaysClaim c (witness_text claim) claim

-- the claim is of the selected bad state, if one was selected
abbrev pub IsOfSelected : Option ℕ → Claim → Type 0
IsOfSelected selected claim = (n : ℕ) → selected ≡ Some n → claim.property ≡ n

-- Where nothing satisfies the clauses of what was selected, unrolled over so many frames, no claim of that is confirmed
-- at one of the first so many steps, of any number of steps, with x or without.
abbrev pub RefutedMeansNone : Type 0
RefutedMeansNone = (c d : Circuit) (selected : Option ℕ) (frames : ℕ) → IsWellFormed c → HasSelected selected c
    → IsWellFormed d → IsUnrolled (selected_of selected c) frames d → ((a : ℕ → Bool) → ¬ Satisfies a (bad_clauses d))
    → (claim : Claim) (step : ℕ) → step < frames → IsOfSelected selected claim → ¬ IsVerdict c claim (Confirmed step)
