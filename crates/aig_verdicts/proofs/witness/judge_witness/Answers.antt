use Rattle.std.proofs.Common.{ℕ, inl, refl, rules, subst}
use Rattle.aig_io.proofs.Runs.{read_none, read_weaker}
use Rattle.aig_verdicts.proofs.witness.judge_witness.Goals as goal
use Rattle.aig_verdicts.specs.Parts.Reading.{FileSays}

pub returns-in_err-reader : goal.returns-in_err-reader
returns-in_err-reader g c = search (rules, read_none, inl)

pub returns-in_default : goal.returns-in_default
returns-in_default g c = record { read = read_none _ _ (inl (refl, refl)) }

-- what is said of the circuit that is followed holds of the one that was given
pub returns : goal.returns
returns g c =
    let reader = c.in_ok-reader in
    let now = c.read_all-read.new.reader in
    record {
      read = read_weaker _ _ _ _
          (λ bytes ending says. c.judge_if_read-judged.ensures reader.reader.checker.circuit bytes ending
          (record { means = reader.ensures.same; bad = reader.ensures.bad })
          (subst (λ (n : ℕ). FileSays reader.reader.checker.circuit n now c.read_all-read.result bytes ending)
          reader.ensures.justices says)) c.read_all-read.ensures;
    }
