use Rattle.aig_files.proofs.Shown.{shown}
use Rattle.aig_files.proofs.source.NamedSource.finish.Goals as goal

pub returns-clause-shown : goal.returns-clause-shown
returns-clause-shown g c =
    rw (c.leave.ensures, ← c.self.view_is)
    (shown _ _ c.self.inside.access.ghost_name _ _ _ _ _ c.self.invariant.0 c.self.invariant.1)
