use Rattle.std.proofs.Common.{◌≡◌, Ok, Some}
use Rattle.aig_refute.specs.Extended.{made_true}
use Rattle.aig_refute.proofs.checker.Checker.can_make_true.Goals as goal

pub returns-in_ok-do_follow-in-Some-clause-made : goal.returns-in_ok-do_follow-in-Some-clause-made
returns-in_ok-do_follow-in-Some-clause-made c = λ so a admits none.
    let was : c.resolvents.result ≡ Ok (Some c.in-Some.joined) = cc (c.in_ok-joined.was, c.in-Some.is) in
    let each = rw c.deref.ensures.value at (c.in_ok-do_follow-in-Some.ensures.follow so a admits) in
    c.in_ok-do_follow-in-Some.ensures.preserves.admits (made_true c.args.pivot a)
    (c.resolvents.ensures c.in-Some.joined was a none each admits)
