-- The DIMACS text of a circuit's clauses as a plan has them.
use Rattle.std.specs.Prelude.{◌+◌, ℕ, List}
use Rattle.aig_circuit.specs.declared.circuit.Circuit.{Circuit}
use Rattle.aig_cnf.specs.ClauseText.{clauses_text}
use Rattle.aig_cuts.specs.declared.cut.Cut.{Cut}
use Rattle.aig_cuts.specs.Cuts.{cut_clauses}

-- the clauses by which a circuit without latches has a bad state that is 1
unfoldable pub cut_text : List Cut → Circuit → List ℕ
cut_text plan c = clauses_text (c.max_var + 1) (cut_clauses plan c)
