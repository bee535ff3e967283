-- What a simulator shows of its last step.
use Rattle.std.specs.Prelude.{◌≡◌, Option, None, Some, ⊤}
use Rattle.aig_meaning.specs.Meaning.{Row}
use Rattle.aig_step.specs.declared.simulator.Row.{Row as Shown}

-- each list that is shown is that of the row; its inputs are not shown
pub record IsRowShown (shown : Shown) (row : Row) : Type 0 where
  pub state : shown.state.now ≡ row.state
  pub outputs : shown.outputs.now ≡ row.outputs
  pub next : shown.next.now ≡ row.next
  pub bad : shown.bad.now ≡ row.bad
  pub constraints : shown.constraints.now ≡ row.constraints

-- the row is shown if there is one, and nothing else is
abbrev pub Shows : Option Shown → Option Row → Type 0
Shows None None = ⊤
Shows None (Some row) = ⊥
Shows (Some shown) None = ⊥
Shows (Some shown) (Some row) = IsRowShown shown row
