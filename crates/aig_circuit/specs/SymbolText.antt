-- The lines of symbols in canonical spelling (AIGER report, AIGER 1.9; the spelling is this project's profile).
use Rattle.std.specs.Prelude.{◌++◌, ℕ, List, codes, decimal}
use Rattle.aig_circuit.specs.declared.circuit.Kind.{Kind}
use Rattle.aig_circuit.specs.declared.circuit.Kind.TheVariants.{Input, Latch, Output, Bad, Constraint, Justice}
use Rattle.aig_circuit.specs.declared.circuit.Kind.TheVariants.{Fairness}
use Rattle.aig_circuit.specs.declared.circuit.Symbol.{Symbol}

abbrev pub kind_letter : Kind → List ℕ
kind_letter Input = codes "i"
kind_letter Latch = codes "l"
kind_letter Output = codes "o"
kind_letter Bad = codes "b"
kind_letter Constraint = codes "c"
kind_letter Justice = codes "j"
kind_letter Fairness = codes "f"

abbrev pub name_text : List ℕ → List ℕ
name_text name = codes " " ++ (name ++ codes "\n")

abbrev pub symbol_text : Symbol → List ℕ
symbol_text s = kind_letter s.kind ++ (decimal s.position ++ name_text s.name)
