use Rattle.std.proofs.Common.{◌≡◌, ◌*◌, ◌∙◌, ap}
use Rattle.aig_circuit.specs.Literal.{literal_of, negation_of}
use Rattle.aig_io.proofs.Puts.{put_nothing, put_twice}
use Rattle.aig_cuts.proofs.clauses.put_choice.Goals as goal

pub returns : goal.returns
returns g c =
    let own : 2 * c.variable.inside.0 ≡ literal_of c.args.variable = ap literal_of c.variable.view_is in
    let not_own : c.negated-not_own.result ≡ negation_of (literal_of c.args.variable) =
    c.negated-not_own.ensures ∙ ap negation_of own in
    put_twice _ _ _ _ _
    (rw (c.negated-not_selector.ensures, c.negated-not_one.ensures, not_own) at c.put_clause.ensures)
    (put_twice _ _ _ _ _ (rw (c.negated-not_selector.ensures, own) at c.put_clause-2.ensures)
    (put_twice _ _ _ _ _ (rw (c.negated-not_zero.ensures, not_own) at c.put_clause-3.ensures)
    (put_twice _ _ _ _ _ (rw own at c.put_clause-4.ensures) (put_nothing _))))
