-- A file is read as a circuit, or the input is refused: no other way to stop is among what a reading tells.
use Rattle.std.proofs.Common.{◌+◌, ℕ, zero, suc, List, Ok, Err, Result, cond, true, false}
use Rattle.aig_lines.specs.Lines.{Line, ahead, bytes_of, lines_of}
use Rattle.aig_rows.specs.Outcomes.{IsReadOrRefused}
use Rattle.aig_rows.specs.Reading.{at_line}
use Rattle.aig_rows.proofs.Steps.{found_refuses, line_refuses, then_refuses}
use Rattle.aig_text.specs.Reading.{empty_circuit, first_word_is, header_at, reading, sections_at}
use Rattle.aig_text.specs.Sections.{in_binary, sections}
use Rattle.aig_text.proofs.Refusals.{sections_refuse, tail_refuses, text_refuses}
use Rattle.aig_fault.specs.declared.kind.Kind.{Kind}
use Rattle.aig_binary.specs.BinaryGrammar.{binary_word}
use Rattle.aig_binary.specs.BinaryReading.{at_gate, binary_at, binary_reading, filled, gate_at, gates_at}
use Rattle.aig_binary.specs.File.{file_reading}

gate_refuses : {A : Type 0} (n : ℕ) (r : Result A Kind) → IsReadOrRefused (at_gate n r)
gate_refuses n (Ok x) = tt
gate_refuses n (Err kind) = tt

gates_refuse : (variable n count : ℕ) (bytes : List ℕ) → IsReadOrRefused (gates_at variable n count bytes)
unfolding gates_at
gates_refuse variable n zero bytes = tt
gates_refuse variable n (suc count) bytes =
    then_refuses (at_gate n (gate_at variable bytes)) _ (gate_refuses n (gate_at variable bytes))
    (λ first. then_refuses (gates_at (suc variable) (suc n) count first.1) _
    (gates_refuse (suc variable) (suc n) count first.1) (λ others. tt))

binary_refuses : (limit : ℕ) (ls : List Line) → IsReadOrRefused (binary_at limit ls)
unfolding binary_at
binary_refuses limit ls =
    then_refuses (header_at binary_word limit (ahead 1 ls)) _ (found_refuses _ _ 1 ls)
    (λ header. then_refuses (at_line 1 (filled header.0)) _ (line_refuses 1 (filled header.0))
    (λ h. then_refuses (sections_at in_binary h sections (empty_circuit h.max_var) header.1) _
    (sections_refuse in_binary h sections (empty_circuit h.max_var) header.1)
    (λ numbered. then_refuses (gates_at (1 + h.inputs + h.latches) 1 h.gates (bytes_of numbered.1.lines)) _
    (gates_refuse _ _ h.gates _) (λ gates. tail_refuses h _ _ numbered.1.number (lines_of gates.1)))))

pub file_refuses : (limit : ℕ) (text : List ℕ) → IsReadOrRefused (file_reading limit text)
file_refuses limit text =
    elim (first_word_is binary_word (lines_of text)) as
    (λ b. IsReadOrRefused (cond b (binary_reading limit text) (reading limit text))) [
      | true ↦ binary_refuses limit (lines_of text)
      | false ↦ text_refuses limit text
    ]
