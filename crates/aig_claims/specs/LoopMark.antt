-- How a waveform marks the loop of a lasso (this project's profile): the circuit gets an input more, named `loop`, on
-- which nothing depends. It is 0 in the steps before the loop, and 1 in those of the loop.
use Rattle.std.specs.Prelude.{◌≡◌, ◌+◌, ◌++◌, ℕ, zero, suc, List, [], ◌∷◌, codes, length}
use Rattle.aig_circuit.specs.declared.circuit.Circuit.{Circuit}
use Rattle.aig_circuit.specs.declared.circuit.Kind.TheVariants as kinds
use Rattle.aig_circuit.specs.declared.circuit.Symbol.{Symbol}
use Rattle.aig_circuit.specs.declared.value.Val.{Val}
use Rattle.aig_circuit.specs.declared.value.Val.TheVariants.{Zero, One}
use Rattle.aig_circuit.specs.Wellformed.{largest_index}
use Rattle.aig_fault.specs.Stopping.{fault_at}
use Rattle.aig_fault.specs.declared.fault.Fault.{Fault}
use Rattle.aig_fault.specs.declared.fault.Place.TheVariants.{Whole}
use Rattle.aig_fault.specs.declared.kind.Kind.TheVariants.{TooLargeJustice}
use Rattle.aig_meaning.specs.Meaning.{Row}
use Rattle.aig_meaning.specs.Trace.{IsTrace}
use Rattle.aig_witness.specs.Witness.{Claim}

-- the name of the input behind the others
abbrev pub loop_symbol : Circuit → Symbol
loop_symbol c = record { kind = kinds.Input; position = length c.inputs; name = codes "loop" }

-- the circuit with that input
abbrev pub with_loop_mark : Circuit → Circuit
with_loop_mark c = record c {
  max_var = c.max_var + 1;
  inputs = c.inputs ++ ((c.max_var + 1) ∷ []);
  symbols = c.symbols ++ (loop_symbol c ∷ []);
}

-- no variable is left for it, and this fault says so
abbrev pub HasNoVariable : Circuit → Fault → Type 0
HasNoVariable c fault = (fault ≡ fault_at TooLargeJustice Whole 0) × (c.max_var ≡ largest_index)

-- the values of a step, with that of the mark
abbrev pub with_mark : Val → List Val → List Val
with_mark mark given = given ++ (mark ∷ [])

-- the steps, with the mark, which is 1 from this step on
abbrev pub marked_from : ℕ → List (List Val) → List (List Val)
marked_from start [] = []
marked_from zero (given ∷ steps) = with_mark One given ∷ marked_from zero steps
marked_from (suc start) (given ∷ steps) = with_mark Zero given ∷ marked_from start steps

abbrev pub marked : ℕ → Claim → Claim
marked start claim = record claim { steps = marked_from start claim.steps }

-- the row, with the mark among its inputs
abbrev pub marked_row : Val → Row → Row
marked_row mark row = record row { inputs = with_mark mark row.inputs }

abbrev pub marked_rows : ℕ → List Row → List Row
marked_rows start [] = []
marked_rows zero (row ∷ rows) = marked_row One row ∷ marked_rows zero rows
marked_rows (suc start) (row ∷ rows) = marked_row Zero row ∷ marked_rows start rows

-- The run with a mark is the run: its rows are those of the circuit's own trace, with the mark.
abbrev pub MarkedRunsAreRuns : Type 0
MarkedRunsAreRuns = (c : Circuit) (claim : Claim) (start : ℕ) (rows : List Row)
    → IsTrace (with_loop_mark c) claim.first (marked start claim).steps rows
    → (own : List Row) × IsTrace c claim.first claim.steps own × (rows ≡ marked_rows start own)
