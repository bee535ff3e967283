use Rattle.std.proofs.Common.{subst}
use Rattle.aig_io.proofs.Took.{has_given}
use Rattle.aig_io.specs.Lent.{HasGiven, Lent}
use Rattle.aig_io.specs.Notes.{sum_of}
use Rattle.aig_io.proofs.lent.SliceSource.gives_its_bytes.Goals as goal

pub returns : goal.returns
returns c =
    let s = c.self.inside in
    let is = c.self.invariant in
    subst (λ (t : Lent). HasGiven t.history) c.self.view_is
    (has_given s.bytes.now s.at (sum_of s.ends.notes) is.1 is.2)
