use Rattle.std.proofs.Common.{rules, arith}
use Rattle.aig_io.proofs.Puts.{put_more}
use Rattle.aig_text.specs.AsciiText.{numbers_text}
use Rattle.aig_map.specs.MapBlock.{variable_row}
use Rattle.aig_map.proofs.map_text.put_variables.Goals as goal

pub loop-variable-preserved : goal.loop-variable-preserved
loop-variable-preserved g c =
    put_more (λ v. numbers_text (variable_row v)) _ _ _ _ _ _ _ c.variable-item.is c.loop-variable.invariant
    (search rules) (omega arith)
