-- A text is read as a circuit, or the input is refused: no other way to stop is among what a reading tells.
use Rattle.std.proofs.Common.{◌≡◌, ◌+◌, ◌∷◌, rules, ℕ, List, [], Option, None, Some, Result, Ok, Err, Bool, cond}
use Rattle.std.proofs.Common.{true, false}
use Rattle.std.specs.Option.{option_map, option_or}
use Rattle.aig_circuit.specs.declared.circuit.Circuit.{Circuit}
use Rattle.aig_circuit.specs.declared.circuit.Symbol.{Symbol}
use Rattle.aig_core.specs.declared.names.Names.{Names}
use Rattle.aig_core.specs.Names.{with_name}
use Rattle.aig_core.specs.Fault.{cyclic, first_structural_fault, redefined, undefined}
use Rattle.aig_fault.specs.declared.stopped.Stopped.{Stopped}
use Rattle.aig_lines.specs.Lines.{Line, Ahead, ahead, bytes_of, lines_of}
use Rattle.aig_rows.specs.Outcomes.{IsReadOrRefused, IsRefusal}
use Rattle.aig_rows.specs.Reading.{◌>>=◌, at_line}
use Rattle.aig_rows.proofs.Steps.{found_refuses, line_refuses, rows_refuse, then_refuses}
use Rattle.aig_text.specs.Scanning.{is_comment_line, symbol_at}
use Rattle.aig_text.specs.Sections.{ascii_word, in_ascii, sections, Header, Listed, Section}
use Rattle.aig_text.specs.Reading.{checked_symbol, circuit_at, empty_circuit, fault_of, header_at, reading}
use Rattle.aig_text.specs.Reading.{section_at, sections_at, tail_at, unless_faulty, with_comment, with_symbol}

-- so the fault that it tells is a refusal
pub told_refuses : {A : Type 0} (r : Result A Stopped) {e : Stopped} → IsReadOrRefused r → fault_of r ≡ Some e
    → IsRefusal e
told_refuses (Ok x) refuses told = cc
told_refuses (Err e) refuses told = search rules

pub sections_refuse : (listed : Section → Listed) (h : Header) (ss : List Section) (c : Circuit) (at : Ahead)
    → IsReadOrRefused (sections_at listed h ss c at)
unfolding sections_at
sections_refuse listed h [] c at = tt
sections_refuse listed h (s ∷ ss) c at =
    then_refuses (section_at (listed s) h c at) _
    (then_refuses _ _ (rows_refuse _ _ _ _ at) (λ found. tt))
    (λ found. sections_refuse listed h ss found.0 found.1)

either_refuses : {A : Type 0} (b : Bool) (x y : Result A Stopped) → IsReadOrRefused x → IsReadOrRefused y
    → IsReadOrRefused (cond b x y)
either_refuses true x y first second = first
either_refuses false x y first second = second

-- the tail after a symbol
abbrev after_symbol : Header → Names → Circuit → ℕ → List Line → Symbol → Result Circuit Stopped
after_symbol h before c n ls s = tail_at h (with_name before s.kind s.position) (with_symbol c s) (n + 1) ls

pub tail_refuses : (h : Header) (before : Names) (c : Circuit) (n : ℕ) (ls : List Line)
    → IsReadOrRefused (tail_at h before c n ls)
unfolding tail_at
tail_refuses h before c n [] = tt
tail_refuses h before c n (l ∷ ls) =
    either_refuses (is_comment_line l) (Ok (with_comment c (bytes_of ls)))
    (at_line n (checked_symbol h before (symbol_at l.text)) >>= after_symbol h before c n ls) tt
    (then_refuses (at_line n (checked_symbol h before (symbol_at l.text))) (after_symbol h before c n ls)
    (line_refuses n (checked_symbol h before (symbol_at l.text)))
    (λ s. tail_refuses h (with_name before s.kind s.position) (with_symbol c s) (n + 1) ls))

circuit_refuses : (limit : ℕ) (ls : List Line) → IsReadOrRefused (circuit_at limit ls)
unfolding circuit_at
circuit_refuses limit ls =
    then_refuses (header_at ascii_word limit (ahead 1 ls)) _ (found_refuses _ _ 1 ls)
    (λ header. then_refuses (sections_at in_ascii header.0 sections (empty_circuit header.0.max_var) header.1) _
    (sections_refuse in_ascii header.0 sections _ header.1) (λ numbered. tail_refuses header.0 _ _ _ _))

structure_refuses : (c : Circuit) (repeat unknown cycle : Option ℕ)
    → IsReadOrRefused (unless_faulty c (option_or (option_map redefined repeat)
    (option_or (option_map undefined unknown) (option_map cyclic cycle))))
structure_refuses c (Some x) unknown cycle = tt
structure_refuses c None (Some x) cycle = tt
structure_refuses c None None (Some x) = tt
structure_refuses c None None None = tt

pub text_refuses : (limit : ℕ) (text : List ℕ) → IsReadOrRefused (reading limit text)
unfolding reading
text_refuses limit text =
    then_refuses (circuit_at limit (lines_of text)) (λ c. unless_faulty c (first_structural_fault c))
    (circuit_refuses limit (lines_of text)) (λ c. structure_refuses c _ _ _)
