use Rattle.std.proofs.Common.{◌∙◌}
use Rattle.aig_pairing.proofs.Indexing.{found_there}
use Rattle.aig_pairing.proofs.index.Index.find.Goals as goal

pub returns-in-Some : goal.returns-in-Some
returns-in-Some c =
    c.copied.ensures ∙ c.get.ensures.value
    ∙ found_there c.args.self.now c.self.inside.names.items c.self.inside.places c.args.name.now c.as_slice.result.now
    c.in-Some.name c.self.invariant c.self.view_is c.in-Some.is c.as_slice.ensures
