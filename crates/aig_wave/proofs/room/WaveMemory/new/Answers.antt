use Rattle.std.proofs.Common.{◌∙◌, ap}
use Rattle.aig_wave.specs.Layout.{layout_of}
use Rattle.aig_wave.specs.Parts.Points.{Taping}
use Rattle.aig_wave.proofs.room.WaveMemory.new.Goals as goal

pub returns : goal.returns
returns c =
    ap (λ (t : Taping). t.layout) c.in_ok-dump_state.ensures ∙ c.in_ok-layout.ensures
    ∙ ap layout_of c.circuit.ensures.value
