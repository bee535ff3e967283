-- Sections of which the first rows were read, while more lines may come (this project's profile).
use Rattle.std.specs.Prelude.{◌≡◌, ◌+◌, ◌*◌, ◌^◌, ◌<◌, ◌≤◌, ◌⊎◌, ℕ, List, [], drop, get_or, length, Result, Ok, Err, ⊤}
use Rattle.std.specs.Prelude.{IsOk}
use Rattle.std.specs.List.{sum}
use Rattle.aig_circuit.specs.declared.circuit.Circuit.{Circuit}
use Rattle.aig_circuit.specs.Wellformed.{largest_index}
use Rattle.aig_core.specs.Names.{nothing_named}
use Rattle.aig_fault.specs.declared.stopped.Stopped.{Stopped}
use Rattle.aig_fault.specs.declared.stopped.Stopped.TheVariants.{OutOfMemory}
use Rattle.aig_lines.specs.Lines.{Line, Ahead, ahead, lines_of}
use Rattle.aig_rows.specs.Reading.{◌>>=◌, Found, rows_at}
use Rattle.aig_rows.specs.declared.rows.Due.{Due}
use Rattle.aig_rows.specs.Begun.{AreFirst}
use Rattle.aig_text.specs.declared.section.Format.TheVariants.{Binary}
use Rattle.aig_text.specs.declared.section.Section.TheVariants.{Inputs, Latches, JusticeSizes, Gates}
use Rattle.aig_text.specs.declared.pieces.AsciiReader.{AsciiReader}
use Rattle.aig_text.specs.declared.pieces.LineReader.{LineReader}
use Rattle.aig_text.specs.declared.pieces.Progress.{Progress}
use Rattle.aig_text.specs.Sections.{Format, Header, Section, sections, Listed, listed_in}
use Rattle.aig_text.specs.Reading.{empty_circuit, sections_at, tail_at}

-- the rows that are due of a section before the first of them
abbrev pub due_of : Listed → Header → Circuit → Due
due_of listed h c = record { count = listed.count h c; carried = listed.start h c }

-- the rows that are due
abbrev pub rows_due : Listed → Header → Due → Ahead → Found (List (List ℕ))
rows_due listed h due at = rows_at listed.form (listed.bound h) due.carried due.count at

-- the circuit with the rows that are due
abbrev pub section_from : Listed → Header → Due → Circuit → Ahead → Found Circuit
section_from listed h due c at = do
  found ← rows_due listed h due at
  Ok (listed.with_rows h found.0 c, found.1)

-- the first of the rows that were due were read
pub record HaveReadOf (listed : Listed) (h : Header) (due left : Due) (before c : Circuit)
    (at now : Ahead) : Type 0 where
  pub rows : List (List ℕ)
  pub first : AreFirst listed.form (listed.bound h) due left at now rows
  pub circuit : c ≡ listed.with_rows h rows before

-- the circuit with the rows of the other sections, and what is ahead after those
abbrev pub sections_from : Header → Progress → Ahead → Found Circuit
sections_from h p at = do
  found ← section_from (listed_in p.format (get_or sections p.section Inputs)) h p.due p.circuit at
  sections_at (listed_in p.format) h (drop (p.section + 1) sections) found.0 found.1

-- all sections were read
abbrev pub IsDone : Progress → Type 0
IsDone p = (p.section + 1 ≡ length sections) × (p.due.count ≡ 0)

-- a row is due, and no line is left
abbrev pub IsMissing : Progress → Ahead → Type 0
IsMissing p at = (0 < p.due.count) × (at.lines ≡ [])

-- the header is within the limits
pub record IsLimited (h : Header) : Type 0 where
  pub max_var : h.max_var ≤ largest_index
  pub limit : h.limit ≤ largest_index
  pub definitions : h.inputs + h.latches + h.gates ≤ h.max_var

-- no row is due of a section without lines, and no more latches than the header promises
abbrev pub HasRoom : Format → Section → Header → Due → Circuit → Type 0
HasRoom Binary Inputs h due c = (due.count ≡ 0) × (c.latches ≡ [])
HasRoom Binary Latches h due c = length c.latches + due.count ≤ h.latches
HasRoom Binary Gates h due c = due.count ≡ 0
HasRoom f s h due c = ⊤

-- it stands at a section, and what it holds is within the limits of the header
pub record IsWithinHeader (h : Header) (p : Progress) : Type 0 where
  pub place : p.section < length sections
  pub small : p.due.carried + 2 * p.due.count ≤ 2 ^ 34
  pub sizes : sum p.circuit.justice.sizes ≤ h.limit
  pub summed : get_or sections p.section Inputs ≡ JusticeSizes → p.due.carried ≡ sum p.circuit.justice.sizes
  pub room : HasRoom p.format (get_or sections p.section Inputs) h p.due p.circuit

-- the header, and the circuit that the other lines of the sections tell
abbrev pub with_header : Header → Found Circuit → Found (Header × Circuit)
with_header h (Ok x) = Ok ((h, x.0), x.1)
with_header h (Err e) = Err e

abbrev pub numbered_then : Format → Result Header Stopped → Ahead → Found (Header × Circuit)
numbered_then f header at = do
  h ← header
  with_header h (sections_at (listed_in f) h sections (empty_circuit h.max_var) at)

-- the same of a reader that stands there
abbrev pub numbered_at : LineReader → Ahead → Found (Header × Circuit)
numbered_at r at = do
  h ← r.header
  with_header h (sections_from h r.progress at)

abbrev pub numbered_of : LineReader → List Line → Found (Header × Circuit)
numbered_of r ls = numbered_at r (ahead r.number ls)

abbrev pub HasAllLines : LineReader → Type 0
HasAllLines r = IsOk r.header × IsDone r.progress

-- the circuit that the lines after the sections tell
abbrev pub then_tail : (Header × Circuit) × Ahead → Result Circuit Stopped
then_tail found = tail_at found.0.0 nothing_named found.0.1 found.1.number found.1.lines

-- the circuit that the other bytes tell to a reader of an ASCII file
abbrev pub rest_of : AsciiReader → List ℕ → Result Circuit Stopped
rest_of r bytes = do
  found ← numbered_of r.lines (lines_of bytes)
  then_tail found

-- the header is within the limits, and what is held is within those of the header
abbrev pub IsValid : Result Header Stopped → Progress → Type 0
IsValid (Ok h) p = IsLimited h × IsWithinHeader h p
IsValid (Err fault) p = ⊤

-- what was to be read is what is to be read, unless memory was refused
abbrev pub ReadsOn : {A : Type 0} → (before now : Result A Stopped) → Type 0
ReadsOn before now = (now ≡ Err OutOfMemory) ⊎ (before ≡ now)
