-- The tail of an ASCII file whose bytes come in pieces.
use Rattle.std.proofs.Common.{◌≡◌, ◌∙◌, ◌⊎◌, ℕ, List, Result, Ok, Err, ap, sym, subst, inl, inr}
use Rattle.aig_circuit.specs.declared.circuit.Circuit.{Circuit}
use Rattle.aig_core.specs.Names.{nothing_named}
use Rattle.aig_lines.specs.Lines.{Ahead, IsBehind, ahead, bytes_of, lines_of}
use Rattle.aig_fault.specs.declared.stopped.Stopped.{Stopped}
use Rattle.aig_fault.specs.declared.stopped.Stopped.TheVariants.{OutOfMemory}
use Rattle.aig_rows.specs.Reading.{◌>>=◌, Found}
use Rattle.aig_text.specs.declared.comment.Uncommented.{Uncommented}
use Rattle.aig_text.specs.declared.pieces.AsciiReader.{AsciiReader}
use Rattle.aig_text.specs.Sections.{Header}
use Rattle.aig_text.specs.Reading.{tail_at}
use Rattle.aig_text.specs.Begun.{numbered_at, rest_of, then_tail}
use Rattle.aig_text.proofs.LastBytes.{IsReadOf, bytes_behind, read_of_all}

abbrev tailed : Found (Header × Circuit) → Result Circuit Stopped
tailed r = ◌>>=◌ {B = Circuit} r then_tail

-- after the sections
pub tail_read : (r : AsciiReader) (h : Header) (bytes : List ℕ) (c : Circuit) (at now : Ahead)
    (found : Result Uncommented Stopped) → at ≡ ahead r.lines.number (lines_of bytes)
    → numbered_at r.lines at ≡ Ok ((h, c), now) → IsBehind at now
    → IsReadOf (bytes_of now.lines) found (tail_at h nothing_named c now.number now.lines)
    → IsReadOf bytes found (rest_of r bytes)
tail_read r h bytes c at now found from s behind read =
    let cut = bytes_behind bytes r.lines.number now (subst (λ (a : Ahead). IsBehind a now) from behind) in
    let told : rest_of r bytes ≡ tail_at h nothing_named c now.number now.lines =
    ap (λ (a : Ahead). tailed (numbered_at r.lines a)) (sym from) ∙ ap tailed s in
    subst (λ (t : Result Circuit Stopped). IsReadOf bytes found t) (sym told)
    (read_of_all bytes cut.0 (bytes_of now.lines) found _ cut.1 read)

pub no_tail_read : (r : AsciiReader) (bytes : List ℕ) (at : Ahead) (e : Stopped)
    → at ≡ ahead r.lines.number (lines_of bytes) → (e ≡ OutOfMemory) ⊎ (numbered_at r.lines at ≡ Err e)
    → (e ≡ OutOfMemory) ⊎ (rest_of r bytes ≡ Err e)
no_tail_read r bytes at e from (inl m) = inl m
no_tail_read r bytes at e from (inr s) =
    inr (ap (λ (a : Ahead). tailed (numbered_at r.lines a)) (sym from) ∙ ap tailed s)
