use Rattle.std.proofs.Common.{◌≡◌, ◌+◌, ◌∙◌, List, ap, length, subst, ℕ}
use Rattle.aig_circuit.specs.declared.circuit.Circuit.{Circuit}
use Rattle.aig_io.specs.Output.{Appended}
use Rattle.aig_io.proofs.Puts.{put_twice}
use Rattle.aig_cuts.proofs.Fitting.{gates_fit}
use Rattle.aig_cuts.specs.Cuts.{cut_clauses}
use Rattle.aig_cuts.proofs.Written.{cut_count, cut_parts}
use Rattle.aig_cuts.proofs.clauses.put_used_clauses.Goals as goal

pub put_plan-requires-clause-fit : goal.put_plan-requires-clause-fit
put_plan-requires-clause-fit g c = rw c.as_slice.ensures (gates_fit c.args.circuit.now c.requires.formed)

pub returns : goal.returns
returns g c =
    let d : Circuit = c.args.circuit.now in
    let plan = c.args.plan.now in
    let many : c.count_clauses-clauses.result + 2 ≡ length (cut_clauses plan d) =
    ap (λ (n : ℕ). n + 2) c.count_clauses-clauses.ensures.count ∙ cut_count plan d c.requires.few in
    subst (λ (text : List ℕ). Appended c.args.output.now c.put_clause-2.new.output text) (cut_parts plan d)
    (put_twice _ _ _ _ _ (rw (c.from-variables.ensures, many) at c.put_clauses_header.ensures)
    (put_twice _ _ _ _ _ c.put_clause.ensures
    (put_twice _ _ _ _ _ (rw c.as_slice.ensures at c.put_plan.ensures)
    (rw c.as_slice-2.ensures at c.put_clause-2.ensures))))
