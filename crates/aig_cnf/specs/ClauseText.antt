-- The DIMACS text of clauses: a header with the numbers of variables and of clauses, then a line for each clause, which
-- ends with 0 (the usual format of SAT solvers). Variable n of a circuit is number n + 1, since 0 is no variable there.
use Rattle.std.specs.Prelude.{◌+◌, ◌%◌, ◌==◌, ℕ, List, [], ◌++◌, codes, decimal, length, if◌then◌else◌}
use Rattle.std.specs.List.{flat_map}
use Rattle.aig_circuit.specs.declared.circuit.Circuit.{Circuit}
use Rattle.aig_circuit.specs.declared.circuit.Gate.{Gate}
use Rattle.aig_circuit.specs.Literal.{variable_of}
use Rattle.aig_cnf.specs.Clauses.{bad_clauses, gate_clauses}

-- the sign of a literal
abbrev pub sign_text : ℕ → List ℕ
sign_text literal = if literal % 2 == 0 then [] else codes "-"

-- a literal, and a space
abbrev pub literal_text : ℕ → List ℕ
literal_text literal = sign_text literal ++ (decimal (variable_of literal + 1) ++ codes " ")

-- the literals of a clause, and the line of it
abbrev pub literals_text : List ℕ → List ℕ
literals_text literals = flat_map literal_text literals

abbrev pub clause_text : List ℕ → List ℕ
clause_text clause = literals_text clause ++ codes "0\n"

-- the header, where there are so many variables and clauses
abbrev pub clauses_header : ℕ → ℕ → List ℕ
clauses_header variables clauses =
    codes "p cnf " ++ (decimal variables ++ (codes " " ++ (decimal clauses ++ codes "\n")))

-- the three clauses of a gate
abbrev pub gate_clauses_text : Gate → List ℕ
gate_clauses_text g = flat_map clause_text (gate_clauses g)

-- clauses over so many variables
abbrev pub clauses_text : ℕ → List (List ℕ) → List ℕ
clauses_text variables clauses = clauses_header variables (length clauses) ++ flat_map clause_text clauses

-- the clauses by which a circuit without latches has a bad state that is 1
unfoldable pub cnf_text : Circuit → List ℕ
cnf_text c = clauses_text (c.max_var + 1) (bad_clauses c)
