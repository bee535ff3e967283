-- The tail of a binary file, after its gates.
use Rattle.std.proofs.Common.{◌≡◌, ◌∙◌, ◌-◌, ◌++◌, ◌⊎◌, ℕ, List, Result, Ok, Err, length, take, drop}
use Rattle.std.proofs.Common.{take-append-drop, ap, append_assoc, sym, subst, inl, inr}
use Rattle.aig_circuit.specs.declared.circuit.Circuit.{Circuit}
use Rattle.aig_circuit.specs.declared.circuit.Gate.{Gate}
use Rattle.aig_core.specs.Names.{nothing_named}
use Rattle.aig_lines.specs.Lines.{Ahead, IsBehind, ahead, bytes_of, lines_of}
use Rattle.aig_lines.proofs.Cutting.{pieces}
use Rattle.aig_fault.specs.declared.stopped.Stopped.{Stopped}
use Rattle.aig_fault.specs.declared.stopped.Stopped.TheVariants.{OutOfMemory}
use Rattle.aig_rows.specs.Reading.{◌>>=◌, Found}
use Rattle.aig_text.specs.declared.comment.Uncommented.{Uncommented}
use Rattle.aig_text.specs.declared.header_line.Header.{Header}
use Rattle.aig_text.specs.Begun.{numbered_at}
use Rattle.aig_text.specs.Reading.{tail_at}
use Rattle.aig_text.proofs.LastBytes.{IsReadOf, bytes_behind, read_of_all}
use Rattle.aig_binary.specs.declared.pieces.BinaryReader.{BinaryReader}
use Rattle.aig_binary.specs.BinaryReading.{with_definitions}
use Rattle.aig_binary.specs.Begun.{first_gate, gates_from, gates_then, rest_of, then_gates}

abbrev then_tail : Header → Circuit → ℕ → List Gate × List ℕ → Result Circuit Stopped
then_tail h c n gates = tail_at h nothing_named (with_definitions h gates.0 c) n (lines_of gates.1)

pub tail_read : (r : BinaryReader) (h : Header) (bytes last rest : List ℕ) (gates : List Gate) (b c : Circuit)
    (at now from : Ahead) (number : ℕ) (found : Result Uncommented Stopped)
    → at ≡ ahead r.lines.number (lines_of bytes)
    → numbered_at r.lines at ≡ Ok ((h, b), now) → IsBehind at now → ahead number (lines_of last) ≡ now
    → gates_from (first_gate h) h.gates r.gates last ≡ Ok (gates, rest)
    → rest ≡ drop (length last - length rest) last → c ≡ with_definitions h gates b
    → from ≡ ahead number (lines_of rest)
    → IsReadOf (bytes_of from.lines) found (tail_at h nothing_named c from.number from.lines)
    → IsReadOf bytes found (rest_of r bytes)
tail_read r h bytes last rest gates b c at now from number found here lines behind there read dropped circuit start
    tail =
    let n = length last - length rest in
    let last_is : bytes_of now.lines ≡ last = ap (λ (a : Ahead). bytes_of a.lines) (sym there) ∙ (pieces last).joined in
    let told : rest_of r bytes ≡ tail_at h nothing_named c from.number from.lines =
    ap (λ (a : Ahead). ◌>>=◌ {B = Circuit} (numbered_at r.lines a) (then_gates r.gates)) (sym here)
    ∙ ap (λ (x : Found (Header × Circuit)). ◌>>=◌ {B = Circuit} x (then_gates r.gates))
    (lines ∙ ap (λ (a : Ahead). Ok ((h, b), a)) (sym there))
    ∙ ap (gates_then h b r.gates number) (pieces last).joined
    ∙ ap (λ (x : Result (List Gate × List ℕ) Stopped). ◌>>=◌ {B = Circuit} x (then_tail h b number)) read
    ∙ ap (λ (d : Circuit). tail_at h nothing_named d number (lines_of rest)) (sym circuit)
    ∙ ap (λ (a : Ahead). tail_at h nothing_named c a.number a.lines) (sym start) in
    let front = bytes_behind bytes r.lines.number now (subst (λ (a : Ahead). IsBehind a now) here behind) in
    let cut : bytes ≡ (front.0 ++ take n last) ++ bytes_of from.lines =
    front.1 ∙ ap (λ (t : List ℕ). front.0 ++ t)
    (last_is ∙ sym (take-append-drop n last)
    ∙ ap (λ (t : List ℕ). take n last ++ t)
    (sym dropped ∙ sym (pieces rest).joined ∙ ap (λ (a : Ahead). bytes_of a.lines) (sym start)))
    ∙ sym (append_assoc front.0 (take n last) (bytes_of from.lines)) in
    subst (λ (t : Result Circuit Stopped). IsReadOf bytes found t) (sym told)
    (read_of_all bytes (front.0 ++ take n last) (bytes_of from.lines) found _ cut tail)

-- where the lines or the gates end too early, or are not right
module _ (r : BinaryReader) (bytes : List ℕ) (at : Ahead) (here : at ≡ ahead r.lines.number (lines_of bytes)) where
  pub no_lines_read : (e : Stopped) → (e ≡ OutOfMemory) ⊎ (numbered_at r.lines at ≡ Err e)
      → (e ≡ OutOfMemory) ⊎ (rest_of r bytes ≡ Err e)
  no_lines_read e (inl m) = inl m
  no_lines_read e (inr s) =
      inr (ap (λ (a : Ahead). ◌>>=◌ {B = Circuit} (numbered_at r.lines a) (then_gates r.gates)) (sym here)
      ∙ ap (λ (x : Found (Header × Circuit)). ◌>>=◌ {B = Circuit} x (then_gates r.gates)) s)

  pub no_gates_read : (h : Header) (b : Circuit) (now : Ahead) (number : ℕ) (last : List ℕ) (e : Stopped)
      → numbered_at r.lines at ≡ Ok ((h, b), now) → ahead number (lines_of last) ≡ now
      → (e ≡ OutOfMemory) ⊎ (gates_from (first_gate h) h.gates r.gates last ≡ Err e)
      → (e ≡ OutOfMemory) ⊎ (rest_of r bytes ≡ Err e)
  no_gates_read h b now number last e lines there (inl m) = inl m
  no_gates_read h b now number last e lines there (inr g) =
      inr (ap (λ (a : Ahead). ◌>>=◌ {B = Circuit} (numbered_at r.lines a) (then_gates r.gates)) (sym here)
      ∙ ap (λ (x : Found (Header × Circuit)). ◌>>=◌ {B = Circuit} x (then_gates r.gates))
      (lines ∙ ap (λ (a : Ahead). Ok ((h, b), a)) (sym there))
      ∙ ap (gates_then h b r.gates number) (pieces last).joined
      ∙ ap (λ (x : Result (List Gate × List ℕ) Stopped). ◌>>=◌ {B = Circuit} x (then_tail h b number)) g)
