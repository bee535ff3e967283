-- A binary file that is read while its source gives it, from what was fetched first.
use Rattle.std.proofs.Common.{◌≡◌, ◌∙◌, ◌++◌, ◌≢◌, ◌≤◌, ◌∷◌, inl, inr, ℕ, List, [], drop, Bool, true, false}
use Rattle.std.proofs.Common.{append_assoc, append-nil, Result, Ok, Err, sym, ap, length, refl, arith, eqb}
use Rattle.std.proofs.lemmas.Bool.{eqb-false}
use Rattle.std.proofs.lemmas.List.{drop-append-le}
use Rattle.aig_io.specs.Devices.{History, gave, took}
use Rattle.aig_io.proofs.Took.{gave_then, took_none}
use Rattle.aig_circuit.specs.declared.circuit.Circuit.{Circuit}
use Rattle.aig_circuit.specs.Form.{IsInForm}
use Rattle.aig_circuit.specs.Wellformed.{IsWellFormed}
use Rattle.aig_checked.specs.BinaryOrder.{IsInBinaryOrder}
use Rattle.aig_core.specs.Fault.{first_structural_fault}
use Rattle.aig_lines.specs.Lines.{Line, AreEnded, lines_of}
use Rattle.aig_lines.proofs.Cutting.{pieces, some_lines}
use Rattle.aig_lines.proofs.Taken.{lines_cut}
use Rattle.aig_fault.specs.declared.stopped.Stopped.{Stopped}
use Rattle.aig_rows.specs.Outcomes.{GivesOrMemory}
use Rattle.aig_text.specs.Begun.{rest_of}
use Rattle.aig_text.specs.declared.pieces.AsciiReader.{AsciiReader}
use Rattle.aig_text.specs.Reading.{circuit_at, first_word_is, reading, unless_faulty}
use Rattle.aig_text.proofs.Grammar.Text.{checked_tells, line_fault as ascii_line_fault, circuit_in_form}
use Rattle.aig_text.specs.Sources.{HasRead, ReadsFrom, ReadsAs}
use Rattle.aig_text.proofs.Sources.{RestRead, failed_later, whole_read}
use Rattle.aig_binary.specs.BinaryGrammar.{binary_word}
use Rattle.aig_binary.specs.BinaryReading.{binary_reading}
use Rattle.aig_binary.specs.File.{AnswersFile, IsFileOf, file_reading}
use Rattle.aig_binary.proofs.Grammar.Accepted.{read_is_ordered, read_is_well_formed, reading_is_accepted}
use Rattle.aig_binary.proofs.Grammar.Read.{line_fault}

-- A source whose first bytes were fetched, and of which the header was read.

-- what bytes told is what those tell that are left when the first of their whole lines are taken
passed : (tell s : List ℕ → Result Circuit Stopped) (bytes lines rest held : List ℕ) (used : ℕ)
    → bytes ≡ lines ++ rest
    → used ≤ length lines → ((more : List ℕ) → tell (lines ++ more) ≡ s (drop used lines ++ more))
    → held ≡ drop used bytes → (more : List ℕ) → tell (bytes ++ more) ≡ s (held ++ more)
passed tell s bytes lines rest held used cut within on is more =
    let left : held ≡ drop used lines ++ rest = is ∙ ap (drop used) cut ∙ drop-append-le used lines rest within in
    ap tell (ap (λ (x : List ℕ). x ++ more) cut ∙ append_assoc lines rest more)
    ∙ on (rest ++ more)
    ∙ ap s (sym (ap (λ (x : List ℕ). x ++ more) left ∙ append_assoc (drop used lines) rest more))

-- these first bytes begin no binary file, and the reader and the bytes that are held tell the same as they
pub record IsBegun (limit : ℕ) (first held : List ℕ) (r : AsciiReader) : Type 0 where
  pub other : (more : List ℕ) → first_word_is binary_word (lines_of (first ++ more)) ≡ false
  pub told : (more : List ℕ) → circuit_at limit (lines_of (first ++ more)) ≡ rest_of r (held ++ more)

same_word : (word : List ℕ) (ls more : List Line) → ls ≢ [] → first_word_is word (ls ++ more) ≡ first_word_is word ls
same_word word [] more some = absurd (some refl)
same_word word (l ∷ ls) more some = refl

pub word_stays : (first lines rest more : List ℕ) → first ≡ lines ++ rest → AreEnded (lines_of lines)
    → eqb (length lines) 0 ≡ false
    → first_word_is binary_word (lines_of (first ++ more)) ≡ first_word_is binary_word (lines_of lines)
word_stays first lines rest more cut ended some =
    ap (first_word_is binary_word) (lines_cut first lines rest more cut ended)
    ∙ same_word binary_word (lines_of lines) (lines_of (rest ++ more))
    (some_lines lines (omega (arith, eqb-false (length lines) 0 some)))

-- from what the code reads and tests
pub begun : (limit : ℕ) (first lines rest : List ℕ) (used : ℕ) (r : AsciiReader) {bytes : List ℕ} → bytes ≡ first
    → bytes ≡ lines ++ rest → AreEnded (lines_of lines) → {empty : Bool} → empty ≡ eqb (length lines) 0
    → empty ≡ false → {word : Bool} → word ≡ first_word_is binary_word (lines_of lines) → word ≡ false
    → used ≤ length lines
    → ((more : List ℕ) → circuit_at limit (lines_of (lines ++ more)) ≡ rest_of r (drop used lines ++ more))
    → {held : List ℕ} → held ≡ drop used first → IsBegun limit first held r
begun limit first lines rest used r all cut ended is_empty some is_word other within on {held} is =
    let parts = sym all ∙ cut in
    record {
      other = λ more.
          word_stays first lines rest more parts ended (sym is_empty ∙ some) ∙ sym is_word ∙ other;
      told =
          passed (λ bytes. circuit_at limit (lines_of bytes)) (rest_of r) first lines rest held used parts within on
          is;
    }

module _ {limit : ℕ} {first held : List ℕ} {r : AsciiReader} (begin : IsBegun limit first held r) where
  abbrev tell : List ℕ → Result Circuit Stopped
  tell = rest_of r

  ascii_reading : (more : List ℕ) → file_reading limit (first ++ more) ≡ reading limit (first ++ more)
  ascii_reading more = rw (begin.other more) refl

  pub in_form : (c : Circuit) (a b : History) → RestRead tell held a b (Ok c) → IsInForm c
  in_form c a b h =
      circuit_in_form limit (lines_of (first ++ h.bytes)) c (pieces (first ++ h.bytes)).one_each
      (begin.told h.bytes ∙ h.holds)

  answers : (c : Circuit) (more : List ℕ) (answer : Result Circuit Stopped)
      → circuit_at limit (lines_of (first ++ more)) ≡ Ok c
      → GivesOrMemory (λ d. d) answer (unless_faulty c (first_structural_fault c))
      → AnswersFile limit answer (first ++ more)
  answers c more (Ok d) h is = inl ((checked_tells limit (first ++ more) c (Ok d) h is).ok)
  answers c more (Err e) h is = rw (ascii_reading more) ((checked_tells limit (first ++ more) c (Err e) h is).fault)

  pub checked : (c : Circuit) (before a b : History) (answer : Result Circuit Stopped) → a ≡ took first before
      → RestRead tell held a b (Ok c)
      → GivesOrMemory (λ d. d) answer (unless_faulty c (first_structural_fault c))
      → HasRead (λ bytes. AnswersFile limit answer bytes) before b
  checked c before a b answer gave h is = record {
    bytes = first ++ h.bytes;
    gave = gave_then true first h.bytes before a b gave h.gave;
    holds = answers c h.bytes answer (begin.told h.bytes ∙ h.holds) is;
  }

  pub refused : (fault : Stopped) (before a b : History) → a ≡ took first before
      → ReadsAs {A = Circuit} (λ answer bytes. GivesOrMemory (λ c. c) answer (tell (held ++ bytes))) (Err fault) a b
      → ReadsAs (AnswersFile limit) (Err fault) before b
  refused e before a b gave (inr failed) = inr (failed_later e first before a b gave failed)
  refused e before a b gave (inl h) = inl (record {
    bytes = first ++ h.bytes;
    gave = gave_then true first h.bytes before a b gave h.gave;
    holds =
        rw (ascii_reading h.bytes) (ascii_line_fault limit (first ++ h.bytes) e (rw (begin.told h.bytes) h.holds));
  })

-- the header line was read of the whole lines of what came
pub header_read : (tell s : List ℕ → Result Circuit Stopped) (first lines rest held : List ℕ) (used : ℕ) (a : History)
    → first ≡ lines ++ rest → used ≤ length lines
    → ((more : List ℕ) → tell (lines ++ more) ≡ s (drop used lines ++ more)) → held ≡ drop used first
    → ReadsFrom tell s first held true a a
header_read tell s first lines rest held used a cut within on is = record {
  given = [];
  gave = took_none a;
  on = λ others.
      inr (ap (λ (bytes : List ℕ). tell (bytes ++ others)) (append-nil first)
      ∙ passed tell s first lines rest held used cut within on is others);
}

module _ (limit : ℕ) (first held : List ℕ) (s : List ℕ → Result Circuit Stopped) (a b : History)
    (reads : ReadsFrom (binary_reading limit) s first held true a b)
  where
    module _ (c : Circuit) (d : History) (h : RestRead s held b d (Ok c)) where
      all_read : RestRead (binary_reading limit) first a d (Ok c)
      all_read = whole_read (binary_reading limit) s first held a b d (Ok c) reads h

      pub is_well_formed : IsWellFormed c
      is_well_formed = read_is_well_formed limit (lines_of (first ++ all_read.bytes)) c all_read.holds

      pub is_ordered : IsInBinaryOrder c
      is_ordered = read_is_ordered limit (lines_of (first ++ all_read.bytes)) c all_read.holds

      pub is_file : (before : History) → a ≡ took first before → HasRead (λ bytes. IsFileOf bytes limit c) before d
      is_file before came = record {
        bytes = first ++ all_read.bytes;
        gave = gave_then true first all_read.bytes before a d came all_read.gave;
        holds = inr (reading_is_accepted limit (first ++ all_read.bytes) c all_read.holds);
      }

    pub is_refused : (fault : Stopped) (before d : History) → a ≡ took first before
        → ((more : List ℕ) → first_word_is binary_word (lines_of (first ++ more)) ≡ true)
        → ReadsAs {A = Circuit} (λ answer bytes. GivesOrMemory (λ c. c) answer (s (held ++ bytes))) (Err fault) b d
        → ReadsAs (AnswersFile limit) (Err fault) before d
    is_refused e before d came word (inr failed) =
        inr (failed_later e first before a d came (failed_later e reads.given a b d reads.gave failed))
    is_refused e before d came word (inl h) =
        let w = whole_read (binary_reading limit) s first held a b d (Err e) reads h in
        inl (record {
          bytes = first ++ w.bytes;
          gave = gave_then true first w.bytes before a d came w.gave;
          holds = rw (word w.bytes) (line_fault limit (first ++ w.bytes) e w.holds);
        })
