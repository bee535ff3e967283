-- How many clauses gates have, and their text.
use Rattle.std.specs.Prelude.{ℕ, List}
use Rattle.std.specs.List.{flat_map}
use Rattle.aig_cnf.specs.ClauseText.{clause_text}
use Rattle.aig_cuts.specs.declared.cut.Cut.{Cut}
use Rattle.aig_cuts.specs.declared.cut.Cut.TheVariants.{Plain, Inner, Choice}
use Rattle.aig_cuts.specs.Cuts.{Planned, clauses_as}

-- of a gate that is written so
abbrev pub clause_count : Cut → ℕ
clause_count Plain = 3
clause_count Inner = 0
clause_count (Choice m) = 4

abbrev pub planned_text : Planned → List ℕ
planned_text p = flat_map clause_text (clauses_as p.0 p.1)
