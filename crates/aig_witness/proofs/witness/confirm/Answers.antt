use Rattle.std.proofs.Common.{rules}
use Rattle.aig_io.proofs.Runs.{read_none, read_weaker}
use Rattle.aig_witness.proofs.WitnessEnds.{confirm_says_too}
use Rattle.aig_witness.proofs.witness.confirm.Goals as goal

pub returns-in_err-checker : goal.returns-in_err-checker
returns-in_err-checker g c = search (rules, read_none)

-- what is said of the circuit that is run holds of the one that was given
pub returns : goal.returns
returns g c =
    let checker = c.in_ok-checker in
    record {
      read = read_weaker _ _ _ _ (confirm_says_too c.args.checked.now checker.checker.circuit checker.ensures.same
          checker.ensures.bad c.judge_all-judged.result) c.judge_all-judged.ensures;
    }
