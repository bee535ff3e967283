use Rattle.aig_text.specs.AsciiText.{numbers_text}
use Rattle.aig_rows.specs.Rows.{input_row}
use Rattle.aig_unroll.proofs.Written.{variable_more}
use Rattle.aig_unroll.proofs.writing.put_inputs.Goals as goal

pub loop-before-preserved : goal.loop-before-preserved
loop-before-preserved g c =
    variable_more (λ variable. numbers_text (input_row variable)) 1 c.loop-before.before _ _ _ c.loop-before.invariant
    c.put_line.ensures
