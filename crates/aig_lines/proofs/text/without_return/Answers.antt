use Rattle.std.proofs.Common.{◌∙◌}
use Rattle.aig_lines.proofs.Feeds.{no_return_off, none_off, return_off}
use Rattle.aig_lines.proofs.text.without_return.Goals.{else-len-gt0-via-then-len-gt0+else-text-len-eq13}
use Rattle.aig_lines.proofs.text.without_return.Goals.{else-len-gt0-via-else-len-gt0}
use Rattle.aig_lines.proofs.text.without_return.Goals as goal

pub returns-then-text-len-eq13 : goal.returns-then-text-len-eq13
returns-then-text-len-eq13 c =
    c.split_at.ensures.front ∙ return_off c.args.text.now c.if-len-gt0.true c.if-text-len-eq13.true

pub returns : goal.returns
returns c =
    elim c.else-len-gt0.branch [
      | else-len-gt0-via-then-len-gt0+else-text-len-eq13 w ↦ no_return_off c.args.text.now w.if-len-gt0.true
          w.if-text-len-eq13.false
      | else-len-gt0-via-else-len-gt0 w ↦ none_off c.args.text.now w.if-len-gt0.false
    ]
