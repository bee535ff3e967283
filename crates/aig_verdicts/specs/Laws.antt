-- What the definitions say of one another.
use Rattle.std.specs.Prelude.{◌≡◌, ◌↔◌, ◌<◌, ℕ, List, Bool, length}
use Rattle.aig_circuit.specs.declared.circuit.Circuit.{Circuit}
use Rattle.aig_circuit.specs.Wellformed.{IsWellFormed}
use Rattle.aig_lasso.specs.Goaled.{HasGoals}
use Rattle.aig_lasso.specs.Lasso.{IsLasso, IsLassoVerdict}
use Rattle.aig_lasso.specs.declared.verdict.LassoVerdict.{LassoVerdict}
use Rattle.aig_lines.specs.Lines.{lines_of}
use Rattle.aig_verdicts.specs.Comments.{HasNoComment, lines_said, uncommented}
use Rattle.aig_verdicts.specs.Judged.{IsVerdictFor, SaysFor}
use Rattle.aig_verdicts.specs.JusticeText.{IsJusticeFile}
use Rattle.aig_verdicts.specs.Kinds.{SaysJustice, first_bad_file_line, shape_by}
use Rattle.aig_verdicts.specs.declared.verdict.WitnessVerdict.{WitnessVerdict}
use Rattle.aig_witness.specs.Witness.{Claim, first_bad_line}

-- each claim that is a lasso of a well-formed circuit, and of a justice property that it has, is said by some witness
-- file
abbrev pub LassosHaveFiles : Type 0
LassosHaveFiles = (c : Circuit) (claim : Claim) (start : ℕ) → IsWellFormed c → claim.property < length c.justice.sizes
    → IsLasso c claim start → (bytes : List ℕ) × SaysJustice c bytes claim

-- what is read of bytes, line by line, is exactly what a witness file of a justice property says that they are
abbrev pub JusticeFilesAreRead : Type 0
JusticeFilesAreRead =
    (c : Circuit) (bytes : List ℕ) (claim : Claim) → SaysJustice c bytes claim ↔ IsJusticeFile c bytes claim

-- what is claimed of a justice property of a well-formed circuit, of not too many goals, has a verdict
abbrev pub JusticeClaimsHaveVerdicts : Type 0
JusticeClaimsHaveVerdicts = (c : Circuit) (bytes : List ℕ) (claim : Claim) → IsWellFormed c
    → SaysJustice c bytes claim → HasGoals claim.property c
    → (verdict : LassoVerdict) × IsLassoVerdict c claim verdict

-- a witness file of either kind claims one thing of a well-formed circuit, and has one verdict at most
abbrev pub OneVerdictAtMost : Type 0
OneVerdictAtMost = (c : Circuit) (bytes : List ℕ) (verdict other : WitnessVerdict) (claim more : Claim)
    → IsWellFormed c → SaysFor c verdict bytes claim → IsVerdictFor c claim verdict → SaysFor c other bytes more
    → IsVerdictFor c more other → (verdict ≡ other) × (claim ≡ more)

-- the lines of the bytes without comments are those that are no comments
abbrev pub CommentsArePassedOver : Type 0
CommentsArePassedOver = (bytes : List ℕ) → lines_of (uncommented bytes) ≡ lines_said (lines_of bytes)

-- a file without comments is read as it is, and its lines have the numbers that they have
abbrev pub PlainFilesAreReadAsTheyAre : Type 0
PlainFilesAreReadAsTheyAre = (c : Circuit) (bytes : List ℕ) (ended : Bool) → HasNoComment (lines_of bytes)
    → (uncommented bytes ≡ bytes)
    × (first_bad_file_line c bytes ended
    ≡ first_bad_line (shape_by (length c.justice.sizes) c bytes ended) bytes ended)
