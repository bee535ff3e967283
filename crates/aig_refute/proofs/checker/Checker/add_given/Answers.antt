use Rattle.aig_refute.proofs.checker.Checker.add_given.Goals as goal

pub returns : goal.returns
returns c =
    let gains = c.in_ok-add_unlisted.ensures in
    record { admits = gains.admits; base = gains.base; stored = gains.stored; gained = gains.gained }
