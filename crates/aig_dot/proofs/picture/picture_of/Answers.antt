use Rattle.std.proofs.Common.{◌≡◌, arith}
use Rattle.aig_dot.proofs.Refusing.{not_large}
use Rattle.aig_dot.proofs.picture.picture_of.Goals as goal

pub returns-in_err-picture-clause-large : goal.returns-in_err-picture-clause-large
returns-in_err-picture-clause-large c = not_large _ _ c.from_residual.ensures.1

pub returns-then-limit-gates-clause-large : goal.returns-then-limit-gates-clause-large
returns-then-limit-gates-clause-large c = λ gates is.
    let same : c.count_gates-gates.result ≡ gates = cc in
    (c.in_ok-picture.picture, c.in_ok-picture.ensures, cc, omega arith)
