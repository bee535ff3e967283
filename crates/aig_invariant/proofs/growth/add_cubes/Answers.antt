use Rattle.std.proofs.Common.{◌≡◌, ◌∷◌, rules}
use Rattle.aig_lines.specs.Lines.{line, lines_of}
use Rattle.aig_invariant.specs.Invariant.{with_cubes}
use Rattle.aig_invariant.specs.Outcome.{IsOverfull}
use Rattle.aig_invariant.specs.Parts.Growing.{with_line}
use Rattle.aig_invariant.specs.Parts.Rows.{cubes_at}
use Rattle.aig_invariant.proofs.Growing.Cubes.{line_fuller, refused_on}
use Rattle.aig_invariant.proofs.growth.add_cubes.Goals as goal

pub returns-in_err-add_line-clause-err : goal.returns-in_err-add_line-clause-err
returns-in_err-add_line-clause-err c =
    let text = c.in-Some.line.text.now in
    let more = lines_of c.in-Some.more.now in
    let whole = with_cubes (cubes_at (lines_of c.args.bytes.now)) c.args.circuit.now in
    let first : lines_of c.loop-line.rest.now ≡ line text c.in-Some.line.ended ∷ more = search rules in
    let refused =
    refused_on (IsOverfull (with_line text c.loop-line.circuit)) (IsOverfull whole) c.in_err-add_line.field-0.0
    (line_fuller text c.in-Some.line.ended more (lines_of c.loop-line.rest.now) c.loop-line.circuit whole first
    c.loop-line.invariant.grown)
    c.in_err-add_line.ensures.err in
    search rules
