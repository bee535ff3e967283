use Rattle.std.specs.Prelude.{◌≡◌, ◌++◌, drop, map, take}
use Rattle.aig_meaning.specs.Meaning.{literal_value}
use Rattle.aig_step.specs.Parts.Tables.{read_from}
use Rattle.aig_lasso.specs.Parts.Searching.{notes_with}
use Rattle.aig_lasso.proofs.search.note_ones.Given as goal

abbrev pub invariant-loop-place : goal.invariant-loop-place
invariant-loop-place l =
    take l.place l.notes
    ++ notes_with (drop l.place l.notes) (drop l.place (map (literal_value (read_from l.values)) l.goals))
    ≡ notes_with l.fn.notes (map (literal_value (read_from l.values)) l.goals)
