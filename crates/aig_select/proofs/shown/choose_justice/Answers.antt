use Rattle.std.proofs.Common.{◌∙◌, ap, ap₂, arith, length}
use Rattle.aig_select.proofs.Properties.{justice_of, taken_all}
use Rattle.aig_select.proofs.shown.choose_justice.Goals as goal

pub returns : goal.returns
returns c =
    ap₂ justice_of c.from_vec.ensures c.from_vec-2.ensures
    ∙ taken_all c.args.marks.now c.args.justice.now c.loop-at.sizes.items c.loop-at.literals.items c.loop-at.rest.now
    c.loop-at.at c.loop-at.invariant (omega (arith, ap length c.as_slice-all.ensures))
