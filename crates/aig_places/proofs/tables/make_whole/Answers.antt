use Rattle.std.proofs.Common.{◌∙◌, replicate, rules, sym}
use Rattle.std.proofs.lemmas.Simd.{length-replicate}
use Rattle.aig_circuit.specs.declared.value.Val.TheVariants.{X}
use Rattle.aig_places.proofs.Side.Tables.{table_stands}
use Rattle.aig_places.proofs.tables.make_whole.Goals as goal

pub returns-then-not-is_whole-clause-whole : goal.returns-then-not-is_whole-clause-whole
returns-then-not-is_whole-clause-whole c l variables low long =
    table_stands l c.fill_table.new.table (replicate variables X)
    (c.fill_table.ensures.lanes l variables low (sym c.fill_table.ensures.size ∙ long)) variables
    (length-replicate variables X)

pub returns-else-not-is_whole-clause-whole : goal.returns-else-not-is_whole-clause-whole
returns-else-not-is_whole-clause-whole c = c.requires (search rules)
