use Rattle.std.proofs.Common.{◌∙◌, ap, length, sym}
use Rattle.aig_lanes.specs.declared.run.Run.{Run}
use Rattle.aig_lanes.proofs.Side.Sheets.{vectors_count}
use Rattle.aig_lanes.proofs.vectors.Vectors.len.Goals as goal

pub returns : goal.returns
returns c =
    let inside = c.self.inside in
    sym (vectors_count inside.inputs inside.stride inside.steps inside.lines.now)
    ∙ ap (λ (r : Run). length r.steps) c.self.view_is
