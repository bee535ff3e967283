use Rattle.std.proofs.Common.{◌+◌, ap, refl}
use Rattle.aig_places.proofs.Side.Places.{own_places, own_stand}
use Rattle.aig_places.proofs.places.Places.own.Goals as goal

pub returns-clause-places : goal.returns-clause-places
returns-clause-places c =
    own_places c.args.machine.now c.pairs-pairs.result.now c.pairs-pairs.ensures.runs c.pairs-pairs.ensures.is _ refl
    (ap (λ n. 1 + n) c.parts.ensures.max_var)

pub returns-clause-stand : goal.returns-clause-stand
returns-clause-stand c =
    own_stand c.args.machine.now c.pairs-pairs.result.now c.pairs-pairs.ensures.runs c.pairs-pairs.ensures.is _ refl
    (ap (λ n. 1 + n) c.parts.ensures.max_var)
