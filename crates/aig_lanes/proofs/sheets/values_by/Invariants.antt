use Rattle.std.specs.Prelude.{◌≡◌, List, take}
use Rattle.aig_circuit.specs.declared.value.Val.{Val}
use Rattle.aig_step.specs.TraceText.{values_text}
use Rattle.aig_lanes.proofs.sheets.values_by.Given as goal

abbrev pub invariant-loop-character : goal.invariant-loop-character
invariant-loop-character l =
    (shown : List Val) → l.text ≡ values_text shown → l.values.items ≡ take l.character-index shown
