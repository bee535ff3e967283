use Rattle.aig_binary.proofs.Grammar.Accepted.{reading_is_accepted}
use Rattle.aig_binary.proofs.Grammar.Read.{read_without_fault, no_fault}
use Rattle.aig_binary.proofs.laws.binary_faulty_or_accepted.Goals as goal

pub returns : goal.returns
returns c =
    λ text limit. (
      λ h. let r = read_without_fault limit text h in (r.0, reading_is_accepted limit text r.0 r.1),
      λ a. no_fault limit text a.0 a.1,
    )
