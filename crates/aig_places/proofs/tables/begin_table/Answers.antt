use Rattle.std.proofs.Common.{◌<◌, ◌∙◌, arith, set}
use Rattle.std.proofs.lemmas.List.{get_or-set_other, get_or-set_same, length-set}
use Rattle.aig_circuit.specs.declared.value.Val.TheVariants.{X, Zero}
use Rattle.aig_places.specs.Lanes.{values_in}
use Rattle.aig_places.proofs.Side.Tables.{begins}
use Rattle.aig_places.proofs.tables.begin_table.Goals as goal

pub returns-then-table-gt3-clause-begun : goal.returns-then-table-gt3-clause-begun
returns-then-table-gt3-clause-begun c l variables low size =
    let whole = c.make_whole.ensures.whole l variables low (c.make_whole.ensures.size ∙ size) in
    let values = values_in l c.make_whole.new.table in
    let begun = set values 0 Zero in
    let more : 1 < variables =
    omega (arith, c.if-table-gt3.true, c.put_in_all_lanes.auto.planes, c.make_whole.ensures.size, size) in
    begins l c.put_in_all_lanes-then-table-gt3.new.planes (set begun 1 X)
    (c.put_in_all_lanes-then-table-gt3.ensures l begun low (c.put_in_all_lanes.ensures l values low whole.stand))
    variables
    (length-set begun 1 X ∙ length-set values 0 Zero ∙ whole.size_is)
    (get_or-set_other begun 1 0 X Zero (λ e. omega (arith, e))
    ∙ get_or-set_same values 0 Zero Zero (omega (arith, more, whole.size_is)))
    (λ _. get_or-set_same begun 1 X Zero (omega (arith, more, whole.size_is, length-set values 0 Zero)))

pub returns-else-table-gt3-clause-begun : goal.returns-else-table-gt3-clause-begun
returns-else-table-gt3-clause-begun c l variables low size =
    let whole = c.make_whole.ensures.whole l variables low (c.make_whole.ensures.size ∙ size) in
    let values = values_in l c.make_whole.new.table in
    begins l c.put_in_all_lanes.new.planes (set values 0 Zero) (c.put_in_all_lanes.ensures l values low whole.stand)
    variables
    (length-set values 0 Zero ∙ whole.size_is)
    (get_or-set_same values 0 Zero Zero (omega (arith, size, whole.size_is, c.requires.constant)))
    (λ more. absurd (omega (arith, more, size, c.if-table-gt3.false)))
