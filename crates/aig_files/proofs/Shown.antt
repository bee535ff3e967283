-- What the files show of a device that is let go, at each stage of it.
use Rattle.std.proofs.Common.{ℕ, List, Bool, arith}
use Rattle.aig_io.specs.Files.{End, Files}
use Rattle.aig_files.specs.Named.{bytes_at, IsAt, HasCounted, IsShown, let_go, newest, history_at}
use Rattle.aig_files.specs.declared.stage.Stage.{Stage}
use Rattle.aig_files.specs.declared.stage.Stage.TheVariants as stages

pub shown : (written : Bool) (end : End) (lender : ℕ) (name : List ℕ) (stage : Stage) (files : Files)
    (ends failures : ℕ) → IsAt written name stage files → HasCounted stage (bytes_at stage files) ends failures
    → IsShown written end (history_at lender name stage files ends failures) (let_go end stage files)
shown written end lender name stages.Untouched files ends failures at counted = grind arith
shown written end lender name stages.Open files ends failures at counted = grind arith
shown written end lender name stages.Ended files ends failures at counted = grind arith
shown written end lender name stages.Failed files ends failures at counted = record {
  whole = grind arith;
  failed = λ _. ((newest files.uses).end, at.0, at.1);
  used = grind arith;
  untouched = grind arith;
}
