use Rattle.std.proofs.Common.{[], append-nil, arith}
use Rattle.std.proofs.lemmas.List.{nil_from_length}
use Rattle.aig_wave.proofs.group.groups_of.Goals as goal

pub returns : goal.returns
returns c =
    rw (append-nil c.loop-rest.groups.items) at
    (c.loop-rest.invariant [] (nil_from_length c.loop-rest.rest.now (omega arith)))
