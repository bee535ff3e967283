use Rattle.std.proofs.Common.{◌≡◌, ◌∙◌, ap, subst, sym}
use Rattle.aig_circuit.specs.Wellformed.{IsWellFormed}
use Rattle.aig_invariant.proofs.Growing.Cubes.{low_latches}
use Rattle.aig_live.specs.Laws.{live}
use Rattle.aig_live.specs.WithLoop.{with_loop}
use Rattle.aig_live.proofs.Formed.{made_is_well_formed}
use Rattle.aig_live.proofs.maker.make_live.Goals as goal

pub add_loop-requires-clause-latches : goal.add_loop-requires-clause-latches
add_loop-requires-clause-latches c =
    let made = c.into_circuit-circuit in
    low_latches made.result (subst IsWellFormed (sym made.ensures.value) made.ensures.well_formed)

pub from_well_formed-requires : goal.from_well_formed-requires
from_well_formed-requires c =
    let is : c.add_loop.new.circuit ≡ live c.args.property c.args.found =
    c.in-Ok.ensures ∙ ap with_loop (c.into_circuit-circuit.ensures.value ∙ c.in_ok-with_goals.ensures.ok) in
    subst IsWellFormed (sym is)
    (made_is_well_formed c.args.found c.args.property c.requires.well_formed c.requires.there.1)
