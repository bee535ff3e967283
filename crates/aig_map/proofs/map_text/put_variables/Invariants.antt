use Rattle.std.proofs.Common.{take, flat_map}
use Rattle.aig_io.specs.Output.{Appended}
use Rattle.aig_text.specs.AsciiText.{numbers_text}
use Rattle.aig_map.specs.MapBlock.{variable_row}
use Rattle.aig_map.proofs.map_text.put_variables.Given as goal

abbrev pub invariant-loop-variable : goal.invariant-loop-variable
invariant-loop-variable g l =
    Appended l.fn.output l.output (flat_map (λ v. numbers_text (variable_row v)) (take l.variable-index l.variables))
