use Rattle.std.proofs.Common.{rules, ◌≡◌, true}
use Rattle.aig_circuit.specs.Literal.{negation_of}
use Rattle.aig_cnf.specs.Clauses.{is_true}
use Rattle.aig_refute.proofs.Readings.{negation_false}
use Rattle.aig_refute.proofs.kernel.Kernel.visit.Goals as goal

pub returns-then-is_known-clause-conflict : goal.returns-then-is_known-clause-conflict
returns-then-is_known-clause-conflict c = λ is a agrees.
    let yes : is_true a c.in-Last.other ≡ true = search (rules, c.in-Last.ensures.last, agrees) in
    let no : is_true a (negation_of c.in-Last.other) ≡ true =
    search (rules, c.is_known.ensures c.if-is_known.true a agrees) in
    negation_false a c.in-Last.other no yes
