use Rattle.std.proofs.Common.{rules}
use Rattle.std.proofs.lemmas.List.{take_all, drop_all}
use Rattle.std.proofs.lemmas.List.Edits.{map_over_more}
use Rattle.aig_image.specs.Reordered.{operands_sorted}
use Rattle.aig_image.proofs.image.sort_operands.Goals as goal

pub loop-at-preserved : goal.loop-at-preserved
loop-at-preserved c = search (rules, map_over_more operands_sorted)

pub returns : goal.returns
returns c = search (rules, take_all, drop_all)
