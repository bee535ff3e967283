use Rattle.std.proofs.Common.{ℕ, ◌<◌, get_or}
use Rattle.std.specs.List.{zip}
use Rattle.aig_cuts.specs.Cuts.{IsRightAs, Planned}
use Rattle.aig_cuts.proofs.check.are_right.Given as goal

abbrev pub invariant-loop-at : goal.invariant-loop-at
invariant-loop-at l =
    let planned = zip l.gates l.plan in
    (k : ℕ) → k < l.at → (d : Planned) → IsRightAs planned (get_or planned k d).0 (get_or planned k d).1
