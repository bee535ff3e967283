use Rattle.std.proofs.Common.{◌≡◌, drop, map}
use Rattle.aig_meaning.specs.Meaning.{literal_value}
use Rattle.aig_step.specs.Parts.Tables.{read_from}
use Rattle.aig_replay.specs.Finding.{first_one}
use Rattle.aig_replay.proofs.search.first_one.Given as goal

abbrev pub invariant-loop-place : goal.invariant-loop-place
invariant-loop-place l =
    first_one l.place (drop l.place (map (literal_value (read_from l.values)) l.literals))
    ≡ first_one 0 (map (literal_value (read_from l.values)) l.literals)
