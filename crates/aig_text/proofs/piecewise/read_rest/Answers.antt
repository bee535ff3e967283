use Rattle.std.proofs.Common.{◌++◌, ℕ, List, Result}
use Rattle.aig_circuit.specs.declared.circuit.Circuit.{Circuit}
use Rattle.aig_fault.specs.declared.stopped.Stopped.{Stopped}
use Rattle.aig_rows.specs.Outcomes.{GivesOrMemory}
use Rattle.aig_text.proofs.Sources.{all_came, rest_read}
use Rattle.aig_text.proofs.piecewise.read_rest.Goals as goal

pub returns : goal.returns
returns g c =
    let p = g.P.Pieces in
    all_came (λ (answer : Result Circuit Stopped) (bytes : List ℕ).
    GivesOrMemory (λ d. d) answer (p.rest c.args.reader (c.args.window ++ bytes))) c.finish_with.result _ _
    (rest_read (p.rest c.args.reader) (p.rest c.read_pieces.new.reader) c.args.window
    c.read_pieces.new.window c.in_ok-bytes.bytes.items c.in_ok-more.more _ _ _ c.finish_with.result
    c.in_ok-more.ensures.ok c.in_ok-bytes.ensures.ok c.finish_with.ensures)
