use Rattle.std.proofs.Common.{refl, rules}
use Rattle.aig_trace.proofs.Ending.{cut_anywhere}
use Rattle.aig_trace.proofs.Taken.{same_sink, transferred_as_ran}
use Rattle.aig_trace.proofs.stream.simulate.Goals as goal

pub returns : goal.returns
returns g c =
    let ran = c.simulate_into-traced in
    let same = same_sink _ _ _ _ _ _ ran.ensures.ran in
    record {
      transferred = transferred_as_ran _ (cut_anywhere c.args.checked.now c.args.columns ran.result) _ _ _ _ _ _
          c.new-output.ensures refl refl ran.ensures.sent (search rules) ran.ensures.ran;
    }
