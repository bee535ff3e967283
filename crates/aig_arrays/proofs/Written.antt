-- The words of the sections of a circuit, one section after another, and how many words and bytes there are.
use Rattle.std.proofs.Common.{◌≡◌, ◌+◌, ◌*◌, ◌++◌, ◌∷◌, ◌≤◌, ℕ, List, [], All, ap, arith, flat_map, length}
use Rattle.std.proofs.Common.{length-append, map, refl}
use Rattle.std.specs.List.{AllByRecursion, concat}
use Rattle.std.proofs.lemmas.List.Elements.{All-from_recursion}
use Rattle.aig_circuit.specs.declared.circuit.Circuit.{Circuit}
use Rattle.aig_circuit.specs.declared.circuit.Gate.{Gate}
use Rattle.aig_circuit.specs.declared.circuit.Latch.{Latch}
use Rattle.aig_circuit.specs.declared.circuit.Symbol.{Symbol}
use Rattle.aig_circuit.specs.declared.circuit.TheConstants.{LARGEST}
use Rattle.aig_circuit.specs.Wellformed.{IsVariableUpTo, IsWellFormed, defined_variables}
use Rattle.aig_circuit.proofs.Checking.{all_weaker}
use Rattle.aig_image.specs.Relabelled.{GateNames, LatchNames}
use Rattle.aig_image.proofs.Relabelling.Relabelled.{names_only}
use Rattle.aig_rows.specs.Rows.{gate_row, input_row, latch_row, literal_row, size_row}
use Rattle.aig_arrays.specs.Words.{bytes_length, circuit_bytes, circuit_words, comment_of, counts_of, names_of}
use Rattle.aig_arrays.specs.Words.{section_length, section_words, symbol_words, words_length}

rows_joined : {X : Type 0} (row : X → List ℕ) (xs : List X) → concat (map row xs) ≡ flat_map row xs
rows_joined row [] = refl
rows_joined row (x ∷ xs) = ap (λ rest. row x ++ rest) (rows_joined row xs)

-- the rows of each section
pub section_rows : (c : Circuit) → section_words c
    ≡ flat_map input_row c.inputs ++ (flat_map latch_row c.latches ++ (flat_map literal_row c.outputs
    ++ (flat_map literal_row c.bad ++ (flat_map literal_row c.constraints ++ (flat_map size_row c.justice.sizes
    ++ (flat_map literal_row c.justice.literals ++ (flat_map literal_row c.fairness
    ++ (flat_map gate_row c.gates ++ []))))))))
section_rows c = rw (
  rows_joined input_row c.inputs,
  rows_joined latch_row c.latches,
  rows_joined literal_row c.outputs,
  rows_joined literal_row c.bad,
  rows_joined literal_row c.constraints,
  rows_joined size_row c.justice.sizes,
  rows_joined literal_row c.justice.literals,
  rows_joined literal_row c.fairness,
  rows_joined gate_row c.gates,
) refl

pub lengths : (c : Circuit) → length (section_words c)
    ≡ length (flat_map input_row c.inputs) + length (flat_map latch_row c.latches)
    + length (flat_map literal_row c.outputs) + length (flat_map literal_row c.bad)
    + length (flat_map literal_row c.constraints) + length (flat_map size_row c.justice.sizes)
    + length (flat_map literal_row c.justice.literals) + length (flat_map literal_row c.fairness)
    + length (flat_map gate_row c.gates)
lengths c = rw (section_rows c) (simp length-append (omega arith))

-- each variable that is defined has a literal
pub record DefinedFit (c : Circuit) : Type 0 where
  pub inputs : All (λ v. v ≤ LARGEST) c.inputs
  pub latches : All (λ (l : Latch). l.var ≤ LARGEST) c.latches
  pub gates : All (λ (g : Gate). g.var ≤ LARGEST) c.gates

pub defined_fit : (c : Circuit) → IsWellFormed c → DefinedFit c
defined_fit c good =
    let Fits : ℕ → Type 0 = λ v. v ≤ LARGEST in
    let fit : AllByRecursion Fits (defined_variables c) =
    all_weaker (IsVariableUpTo c.max_var) Fits (λ v r. omega (arith, r.1, good.limits.max_var)) (defined_variables c)
    good.in_range in
    let names = names_only Fits c (omega arith) fit good in record {
      inputs = All-from_recursion Fits c.inputs names.inputs;
      latches = λ k d below. (All-from_recursion (LatchNames Fits) c.latches names.latches k d below).0;
      gates = λ k d below. (All-from_recursion (GateNames Fits) c.gates names.gates k d below).0;
    }

-- rows of one width
of_width : {X : Type 0} (row : X → List ℕ) (width : ℕ) → ((x : X) → length (row x) ≡ width) → (xs : List X)
    → length (flat_map row xs) ≡ width * length xs
of_width row width each [] = omega arith
of_width row width each (x ∷ xs) =
    omega (arith, length-append (row x) (flat_map row xs), each x, of_width row width each xs)

symbols_width : (start : ℕ) (ss : List Symbol) → length (symbol_words start ss) ≡ 4 * length ss
unfolding symbol_words
symbols_width start [] = refl
symbols_width start (s ∷ ss) = omega (arith, symbols_width (start + length s.name) ss)

-- how many words the sections have, all have, and how many bytes there are, is as the counts tell
pub sections_counted : (c : Circuit) → length (section_words c) ≡ section_length (counts_of c)
sections_counted c =
    omega (
      arith,
      lengths c,
      of_width input_row 1 (λ x. refl) c.inputs,
      of_width latch_row 3 (λ x. refl) c.latches,
      of_width literal_row 1 (λ x. refl) c.outputs,
      of_width literal_row 1 (λ x. refl) c.bad,
      of_width literal_row 1 (λ x. refl) c.constraints,
      of_width size_row 1 (λ x. refl) c.justice.sizes,
      of_width literal_row 1 (λ x. refl) c.justice.literals,
      of_width literal_row 1 (λ x. refl) c.fairness,
      of_width gate_row 3 (λ x. refl) c.gates,
    )

pub words_counted : (c : Circuit) → length (circuit_words c) ≡ words_length (counts_of c)
words_counted c =
    omega (
      arith,
      length-append (section_words c) (symbol_words 0 c.symbols),
      sections_counted c,
      symbols_width 0 c.symbols,
    )

pub bytes_counted : (c : Circuit) → length (circuit_bytes c) ≡ bytes_length (counts_of c)
bytes_counted c = length-append (names_of c) (comment_of c)
