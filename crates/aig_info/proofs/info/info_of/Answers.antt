use Rattle.aig_info.proofs.info.info_of.Goals as goal

pub returns : goal.returns
returns c =
    (c.in_ok-levels.levels, c.in_ok-used.used, c.in_ok-levels.ensures, c.in_ok-used.ensures, c.info_with.ensures)
