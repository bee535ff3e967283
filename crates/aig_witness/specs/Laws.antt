-- What the definitions of witness files say of one another.
use Rattle.std.specs.Prelude.{◌≡◌, ◌<◌, ◌↔◌, ℕ, List, Bool, Some, length}
use Rattle.aig_circuit.specs.declared.circuit.Circuit.{Circuit}
use Rattle.aig_circuit.specs.Wellformed.{IsWellFormed}
use Rattle.aig_meaning.specs.Meaning.{Row}
use Rattle.aig_meaning.specs.Trace.{IsTrace}
use Rattle.aig_witness.specs.declared.verdict.Verdict.{Verdict}
use Rattle.aig_witness.specs.Witness.{Claim, IsVerdict, SaysClaim, first_bad_witness_line}
use Rattle.aig_witness.specs.WitnessText.{IsWitnessFile}
use Rattle.aig_witness.specs.WrongLine.{IsFirstWrongLine}

-- what is read of bytes, line by line, is exactly what the witness file says that they are
abbrev pub WitnessFilesAreRead : Type 0
WitnessFilesAreRead =
    (c : Circuit) (bytes : List ℕ) (claim : Claim) → SaysClaim c bytes claim ↔ IsWitnessFile c bytes claim

-- the line that is found to be the first wrong one is exactly that which the texts of the lines say
abbrev pub FirstWrongLinesAreFound : Type 0
FirstWrongLinesAreFound = (c : Circuit) (bytes : List ℕ) (ended : Bool) (number : ℕ)
    → (first_bad_witness_line c bytes ended ≡ Some number) ↔ IsFirstWrongLine c bytes ended number

-- what a witness file claims of a well-formed circuit has exactly one verdict
abbrev pub OneVerdict : Type 0
OneVerdict = (c : Circuit) (bytes : List ℕ) (claim : Claim) → IsWellFormed c → SaysClaim c bytes claim
    → (verdict : Verdict) × IsVerdict c claim verdict
    × ((other : Verdict) → IsVerdict c claim other → other ≡ verdict)

-- each claim about a trace of a well-formed circuit, and a bad state that it has, is said by some witness file
abbrev pub ClaimsHaveFiles : Type 0
ClaimsHaveFiles = (c : Circuit) (claim : Claim) (rows : List Row) → IsWellFormed c → claim.property < length c.bad
    → IsTrace c claim.first claim.steps rows → (bytes : List ℕ) × SaysClaim c bytes claim
