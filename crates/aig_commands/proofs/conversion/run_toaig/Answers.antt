use Rattle.std.proofs.lemmas.Result.{err_from_is_err_and}
use Rattle.aig_commands.specs.Conversion.{IsConversionRefused, IsConversionText}
use Rattle.aig_commands.proofs.Outcomes.{not_run, run_so}
use Rattle.aig_commands.proofs.conversion.run_toaig.Goals as goal

pub returns-in_err-read_conversion : goal.returns-in_err-read_conversion
returns-in_err-read_conversion g c =
    let h = err_from_is_err_and c.from_residual.result c.from_residual.ensures.1 in
    record {
      transferred = rw (h.1, h.2) (not_run (IsConversionText c.args.request.now)
          (IsConversionRefused c.args.request.now) _ _ _
          c.in_err-read_conversion.field-0.0 c.in_err-read_conversion.ensures.read);
    }

pub returns : goal.returns
returns g c = record {
  transferred = run_so (IsConversionText c.args.request.now) (IsConversionRefused c.args.request.now) _ _ _
      c.write.result _ _
      c.in_ok-read_conversion.ensures.read c.write.ensures.ok c.write.ensures.err c.write.ensures.stopped;
}
