use Rattle.std.proofs.Common.{◌≡◌, ◌∙◌, ap, List, ℕ, length, min, subst}
use Rattle.aig_io.specs.Output.{Appended}
use Rattle.aig_cuts.proofs.Written.{used_text}
use Rattle.aig_cuts.proofs.clauses.put_cut_clauses.Goals as goal

pub returns : goal.returns
returns g c =
    let plan = c.args.plan.now in
    let used : c.min-used.result ≡ min (length plan) (length c.args.circuit.now.gates) =
    c.min-used.ensures ∙ ap (λ (n : ℕ). min (length plan) n) c.len.ensures in
    subst (λ (text : List ℕ). Appended c.args.output.now c.put_used_clauses.new.output text)
    (used_text plan c.args.circuit.now c.min-used.result used) c.put_used_clauses.ensures
