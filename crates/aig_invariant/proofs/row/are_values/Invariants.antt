use Rattle.std.specs.Prelude.{◌≡◌, drop}
use Rattle.aig_invariant.specs.Parts.Rows.{are_values}
use Rattle.aig_invariant.proofs.row.are_values.Given as goal

abbrev pub invariant-loop-character : goal.invariant-loop-character
invariant-loop-character l = are_values (drop l.character-index l.row) ≡ are_values l.row
